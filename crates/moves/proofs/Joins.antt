-- Write and create: what joins.
use Rattle.std.proofs.Common.{◌≡◌, ℕ, suc, ◌<◌, true, false, cond, ◌||◌, eqb, ltb, List, [], ◌∷◌, get_or, set, replicate, Some, None, Option, sym, refl, ap, ◌∙◌, subst, inl, inr, arith}
use Rattle.std.proofs.lemmas.Bool.{cases_eq, eqb-true, eq-eqb, lt-ltb, le-ltb, cond-true, cond-false}
use Rattle.base.specs.declared.owner.Kind.{Kind}
use Rattle.base.specs.declared.owner.Kind.TheVariants.{Folder}
use Rattle.base.specs.declared.owner.Handle.{Handle}
use Rattle.device.specs.Model.{put}
use Rattle.device.specs.declared.put.Put.{Put}
use Rattle.device.specs.Effect.{puts}
use Rattle.layout.specs.Format.{Name, Cell, Geometry, back, Slot, Content, slotted, file_body, folder_body, entry, entry_of, cell, blank_cell, encode}
use Rattle.rule.specs.Agree.{Shown, View, seen, count, number, Place, some_is, reached, held, free_body}
use Rattle.rule.specs.Card.{Card, Plan}
use Rattle.rule.specs.Changing.{grown, new_slot, open_place}
use Rattle.rule.specs.Meaning.{Fits, Body, Reached, Rooted}
use Rattle.rule.specs.Calls.{SoundAt, Writes, Replaces, Appends, InPlace, OnNewLeaf, Creates}
use Rattle.rule.proofs.Steps.{clash}
use Rattle.rule.proofs.Means.{fits_at, same_slot}
use Rattle.rule.proofs.Plans.{in_place, all_sound}
use Rattle.history.proofs.Parsed.{folder_cells, no_such_entry}
use Rattle.history.proofs.Stands.{blank_at}
use Rattle.history.proofs.Puts.{grown_count}
use Rattle.moves.specs.Tied.{Tied}
use Rattle.moves.specs.Moves.{Marked, body_taken, body_added, WriteMoves, CreateMoves}
use Rattle.moves.proofs.Views.{upd, upd_here, upd_else, Framed, fits_else, Moves, Nothing}
use Rattle.moves.proofs.Steps.{body_written, body_fits, body_framed, file_written, slot_taken}
use Rattle.moves.proofs.Lands.{seen_put, rooted, framed, leaf_block, file_lands, grown_lands}
use Rattle.moves.proofs.Stays.{write_tied, create_tied, new_entry, child_lands, entry_lands, body_lands, folder_lands, writes, creates}
use Rattle.moves.proofs.Gained.{some_same, no_folder, Gained, NoneTaken, nothing_gained, then_gained, both_gained, slots_same, slot_joins, bodies_join, past_last, slot_framed, grown_last, grown_framed, grown_fits, leaf_gained, entry_gained}

-- ---- write

module _ (g : Geometry) (c : Card) (shown : Shown) (tied : Tied g c shown) (h : Handle) (k : ℕ) (x : List ℕ) (p : Plan (Unit {0})) (w : Writes g (seen g shown) c h k x p) where
  abbrev v : View
  v = seen g shown

  abbrev r : Slot
  r = w.slot

  abbrev after : View
  after = seen g (puts shown p.puts)

  was_rooted : Rooted g v
  was_rooted = rooted g c shown tied

  is_rooted : Rooted g after
  is_rooted = rooted g p.card (puts shown p.puts) (write_tied g c shown tied h k x p w)

  leaf_at : (q : Replaces v c h r k x p) → (g.slots < number r k) × (number r k < g.blocks)
  leaf_at q = leaf_block g c shown tied h r k w.standing.fits q.below

  pub replaced_seen : (q : Replaces v c h r k x p) → after ≡ upd v (number r k) (file_body (back h k) x)
  replaced_seen q = ap (λ (l : List Put). seen g (puts shown l)) q.blocks
      ∙ seen_put g shown (number r k) (encode (file_body (back h k) x)) (file_body (back h k) x) (file_lands g c shown tied h r k (number r k) x w.standing.fits w.leaf w.size (leaf_at q).0 (leaf_at q).1).parses

  pub appended_seen : (q : Appends g v c h r k x p) → after ≡ upd (upd v q.block (file_body (back h (count r)) x)) (suc h.slot.0) (slotted (grown r q.block))
  appended_seen q = ap (λ (l : List Put). seen g (puts shown l)) q.blocks
      ∙ seen_put g (put shown q.block (encode (file_body (back h k) x))) (suc h.slot.0) (encode (slotted (grown r q.block))) (slotted (grown r q.block))
      (grown_lands g c shown tied c.highest h r q.block (omega arith) w.standing.fits (let l = w.leaf in let a = q.last in omega arith) q.free.above q.free.inside).parses
      ∙ ap (λ (u : View). upd u (suc h.slot.0) (slotted (grown r q.block)))
      (seen_put g shown q.block (encode (file_body (back h k) x)) (file_body (back h k) x) (file_lands g c shown tied h r k q.block x w.standing.fits w.leaf w.size q.free.above q.free.inside).parses
      ∙ ap (λ (i : ℕ). upd v q.block (file_body (back h i) x)) q.last)

  pub none_added : Replaces v c h r k x p → body_added g v c k (count r) ≡ None
  none_added q = cond-true (ltb k (count r)) None (free_body g v c.next_body) (lt-ltb k (count r) q.below)

  pub one_added : (q : Appends g v c h r k x p) → body_added g v c k (count r) ≡ Some q.block
  one_added q = cond-false (ltb k (count r)) None (free_body g v c.next_body) (le-ltb k (count r) (let a = q.last in omega arith)) ∙ q.next

  replaced : Replaces v c h r k x p → Marked g after (reached g v) (λ b. held g v b || some_is (body_added g v c k (count r)) (eqb b))
  replaced q = record {
    reached = slots_same g v after was_rooted is_rooted NoneTaken moved;
    held = bodies_join g v after was_rooted is_rooted Nothing NoneTaken (λ b. some_is (body_added g v c k (count r)) (eqb b)) (λ b z. absurd z) (λ b z. clash (sym (none b) ∙ z)) moved;
  }
    where
      none : (b : ℕ) → some_is (body_added g v c k (count r)) (eqb b) ≡ false
      none b = ap (λ (o : Option ℕ). some_is o (eqb b)) (none_added q)

      moved : Gained g v after Nothing NoneTaken
      moved = subst (λ (u : View). Gained g v u Nothing NoneTaken) (sym (replaced_seen q))
          (nothing_gained g v _ (file_written g v (number r k) (back h k) q.old x (leaf_at q).0 (framed g c shown tied) q.body))

  appended : Appends g v c h r k x p → Marked g after (reached g v) (λ b. held g v b || some_is (body_added g v c k (count r)) (eqb b))
  appended q = record {
    reached = slots_same g v after was_rooted is_rooted (λ b. b ≡ q.block) moved;
    held = bodies_join g v after was_rooted is_rooted Nothing (λ b. b ≡ q.block) (λ b. some_is (body_added g v c k (count r)) (eqb b)) (λ b e. test b ∙ eq-eqb b q.block e) (λ b e. eqb-true b q.block (sym (test b) ∙ e)) moved;
  }
    where
      test : (b : ℕ) → some_is (body_added g v c k (count r)) (eqb b) ≡ eqb b q.block
      test b = ap (λ (o : Option ℕ). some_is o (eqb b)) (one_added q)

      first : Gained g v (upd v q.block (file_body (back h (count r)) x)) Nothing NoneTaken
      first = nothing_gained g v _ (body_written g v q.block (file_body (back h (count r)) x) q.free.above (framed g c shown tied) q.free.unheld
          (past_last g v h r (file_body (back h (count r)) x) w.standing.fits refl))

      moved : Gained g v after Nothing (λ b. b ≡ q.block)
      moved = subst (λ (u : View). Gained g v u Nothing (λ b. b ≡ q.block)) (sym (appended_seen q))
          (then_gained g v _ _ Nothing (λ b. b ≡ q.block) first
          (leaf_gained g (upd v q.block (file_body (back h (count r)) x)) h r q.block
          (body_framed g v q.block (file_body (back h (count r)) x) q.free.above (framed g c shown tied))
          (body_fits g v q.block (file_body (back h (count r)) x) q.free.above (framed g c shown tied) h r w.standing.fits)
          (first.on h w.standing.reached) q.free.above
          (inl (x, w.standing.kind, upd_here v q.block (file_body (back h (count r)) x)))
          (λ i es n a d e z. no_folder w.standing.kind d)))

  written : Marked g after (reached g v) (λ b. held g v b || some_is (body_added g v c k (count r)) (eqb b))
  written = elim w.blocks [ inl q ↦ replaced q | inr q ↦ appended q ]

pub write_moves : WriteMoves
write_moves g c shown h k x p r tied e at =
    let w = writes g c shown tied h k x p e in
    let same : w.slot ≡ r = some_same (sym (fits_at g (seen g shown) h w.slot w.standing.fits) ∙ at) in
    subst (λ (t : Slot). Marked g (seen g (puts shown p.puts)) (reached g (seen g shown)) (λ b. held g (seen g shown) b || some_is (body_added g (seen g shown) c k (count t)) (eqb b))) same
    (written g c shown tied h k x p w)

-- ---- create

-- block b written again later is as if it had been written so at first
again_upd : (v : View) (b i : ℕ) (x y z : Content) → (b ≡ i → ⊥) → upd (upd (upd v b x) i z) b y ≡ upd (upd v b y) i z
again_upd v b i x y z ne = λ j n. at n j
  where
    at : (n : ℕ) → upd (upd (upd v b x) i z) b y n ≡ upd (upd v b y) i z n
    at n = elim (cases_eq n b) [
      | inl e ↦ cond-true (eqb n b) y _ (eq-eqb n b e) ∙ sym (upd_else (upd v b y) i z n (λ q. ne (sym e ∙ q)) ∙ cond-true (eqb n b) y (v n) (eq-eqb n b e))
      | inr q ↦ upd_else (upd (upd v b x) i z) b y n q ∙ ap (λ (u : Content). cond (eqb n i) z u) (upd_else v b x n q ∙ sym (upd_else v b y n q))
    ]

module _ (g : Geometry) (c : Card) (shown : Shown) (tied : Tied g c shown) (d : Kind) (f : Handle) (n : Name) (p : Plan Handle) (w : Creates g (seen g shown) c d f n p) where
  abbrev u : View
  u = seen g shown

  abbrev folder : Slot
  folder = w.slot

  abbrev a : Handle
  a = p.answer

  abbrev child : Slot
  child = new_slot d f a.identity.0

  abbrev later : View
  later = seen g (puts shown p.puts)

  -- the child's slot is written
  abbrev v1 : View
  v1 = upd u (suc a.slot.0) (slotted child)

  fit : Fits g u f folder
  fit = w.standing.fits

  apart_slots : suc f.slot.0 ≡ suc a.slot.0 → ⊥
  apart_slots e = w.free.unreached f (omega arith) w.standing.reached

  child_moves : Moves g u v1 Nothing
  child_moves = slot_taken g u a.slot.0 c.highest child (framed g c shown tied) tied.counted w.free w.fresh

  gained1 : Gained g u v1 Nothing NoneTaken
  gained1 = nothing_gained g u v1 child_moves

  framed1 : Framed g v1
  framed1 = slot_framed g u a.slot.0 child (framed g c shown tied) (λ k l. absurd (omega arith))

  fit1 : Fits g v1 f folder
  fit1 = fits_else g u v1 (suc a.slot.0) (upd_else u (suc a.slot.0) (slotted child)) f folder fit apart_slots

  child1 : Fits g v1 a child
  child1 = record { inside = w.free.inside; holds = upd_here u (suc a.slot.0) (slotted child); same = refl }

  body1 : (b : ℕ) → g.slots < b → v1 b ≡ u b
  body1 b above = upd_else u (suc a.slot.0) (slotted child) b (λ e. let l = w.free.inside in omega arith)

  first_seen : seen g (put shown (suc a.slot.0) (encode (slotted child))) ≡ v1
  first_seen = seen_put g shown (suc a.slot.0) (encode (slotted child)) (slotted child) (child_lands g c shown tied d f n p w).parses

  led : entry_of g (cell n a) ≡ entry n a
  led = new_entry g c shown tied d f n p w

  -- the entry stands in a place that was not sound
  module _ (q : InPlace g u c f folder (cell n a) w.rest w.next) where
    abbrev b : ℕ
    b = number folder q.leaf

    above : g.slots < b
    above = framed g c shown tied f folder q.leaf fit q.here.below

    pub placed_seen : later ≡ upd v1 b (folder_body (back f q.leaf) (set q.here.cells q.place (cell n a)))
    placed_seen =
        ap (λ (l : List Put). seen g (puts shown l)) w.blocks
        ∙ ap (λ (l : List Put). seen g (puts (put shown (suc a.slot.0) (encode (slotted child))) l)) q.blocks
        ∙ seen_put g (put shown (suc a.slot.0) (encode (slotted child))) b (encode (folder_body (back f q.leaf) (set q.here.cells q.place (cell n a)))) (folder_body (back f q.leaf) (set q.here.cells q.place (cell n a))) (entry_lands g c shown tied d f n p w w.rest w.next q).parses
        ∙ ap (λ (z : View). upd z b (folder_body (back f q.leaf) (set q.here.cells q.place (cell n a)))) first_seen

    unsound1 : SoundAt g v1 f q.leaf q.place → ⊥
    unsound1 z = elim (child_moves.no_more f z.1 q.leaf q.place z.0 w.standing.reached z.2) [ inl s ↦ q.unsound (z.0, z.1, s) | inr s ↦ s ]

    placed_gained : Gained g u later (λ h. h ≡ a) NoneTaken
    placed_gained = subst (λ (z : View). Gained g u z (λ h. h ≡ a) NoneTaken) (sym placed_seen)
        (then_gained g u v1 _ (λ h. h ≡ a) NoneTaken gained1
        (entry_gained g v1 f folder q.leaf q.place b q.here.cells (cell n a) n a child framed1 fit1 (gained1.on f w.standing.reached) w.standing.kind q.here.below refl above
        (body1 b above ∙ q.here.body) q.here.inside unsound1 led child1 refl refl))

  -- the folder gains a leaf
  module _ (q : OnNewLeaf g u c f folder (cell n a) w.rest w.next) where
    abbrev new : ℕ
    new = q.block

    abbrev at : ℕ
    at = count folder

    abbrev bare : Content
    bare = folder_body (back f (count folder)) (replicate 15 blank_cell)

    abbrev full : Content
    full = folder_body (back f (count folder)) (cell n a ∷ replicate 14 blank_cell)

    abbrev v2 : View
    v2 = upd v1 new bare

    abbrev v3 : View
    v3 = upd v2 (suc f.slot.0) (slotted (grown folder new))

    behind : g.slots < new
    behind = q.free.above

    pub leaf_put : later ≡ upd (upd v1 new full) (suc f.slot.0) (slotted (grown folder new))
    leaf_put =
        ap (λ (l : List Put). seen g (puts shown l)) w.blocks
        ∙ ap (λ (l : List Put). seen g (puts (put shown (suc a.slot.0) (encode (slotted child))) l)) q.blocks
        ∙ seen_put g (put (put shown (suc a.slot.0) (encode (slotted child))) new (encode full)) (suc f.slot.0) (encode (slotted (grown folder new))) (slotted (grown folder new)) (folder_lands g c shown tied d f n p w w.rest w.next q).parses
        ∙ ap (λ (z : View). upd z (suc f.slot.0) (slotted (grown folder new)))
        (seen_put g (put shown (suc a.slot.0) (encode (slotted child))) new (encode full) full (body_lands g c shown tied d f n p w w.rest w.next q).parses
        ∙ ap (λ (z : View). upd z new full) first_seen)

    -- as if its entries were blank at first
    leaf_seen : later ≡ upd v3 new full
    leaf_seen = leaf_put ∙ sym (again_upd v1 new (suc f.slot.0) bare full (slotted (grown folder new)) (λ e. let l = fit.inside in let m = behind in omega arith))

    gained2 : Gained g v1 v2 Nothing NoneTaken
    gained2 = nothing_gained g v1 v2 (body_written g v1 new bare behind framed1
        (λ z. elim (gained1.held_back new z) [ inl s ↦ q.free.unheld s | inr s ↦ s ]) (past_last g v1 f folder bare fit1 refl))

    framed2 : Framed g v2
    framed2 = body_framed g v1 new bare behind framed1

    fit2 : Fits g v2 f folder
    fit2 = body_fits g v1 new bare behind framed1 f folder fit1

    stands2 : Reached g v2 f
    stands2 = gained2.on f (gained1.on f w.standing.reached)

    here2 : v2 new ≡ bare
    here2 = upd_here v1 new bare

    body2 : Body folder.kind (back f (count folder)) (v2 new)
    body2 = inr (replicate 15 blank_cell, w.standing.kind, here2)

    blank2 : (i : ℕ) (es : List Cell) (m : Name) (x : Handle) → folder.kind ≡ Folder → v2 new ≡ folder_body (back f (count folder)) es → entry_of g (get_or es i []) ≡ entry m x → ⊥
    blank2 i es m x k e z = no_such_entry (ap (λ (l : List Cell). entry_of g (get_or l i [])) (folder_cells (sym e ∙ here2)) ∙ blank_at g 15 i) z

    gained3 : Gained g v2 v3 Nothing (λ x. x ≡ new)
    gained3 = leaf_gained g v2 f folder new framed2 fit2 stands2 behind body2 blank2

    here3 : v3 new ≡ bare
    here3 = upd_else v2 (suc f.slot.0) (slotted (grown folder new)) new (λ e. let l = fit.inside in let m = behind in omega arith) ∙ here2

    fit3 : Fits g v3 f (grown folder new)
    fit3 = grown_fits g v2 f folder new framed2 fit2 stands2 behind body2 blank2

    unsound3 : SoundAt g v3 f (count folder) 0 → ⊥
    unsound3 z =
        let s = z.2 in
        let slot : s.slot ≡ grown folder new = same_slot g v3 f s.slot (grown folder new) s.fits fit3 in
        let num : number s.slot (count folder) ≡ new = ap (λ (t : Slot). number t (count folder)) slot ∙ grown_last folder new in
        no_such_entry (ap (λ (l : List Cell). entry_of g (get_or l 0 [])) (folder_cells (sym s.body ∙ ap v3 num ∙ here3)) ∙ blank_at g 15 0) s.here

    child3 : Fits g v3 a child
    child3 = fits_else g v2 v3 (suc f.slot.0) (upd_else v2 (suc f.slot.0) (slotted (grown folder new))) a child (body_fits g v1 new bare behind framed1 a child child1) (λ e. apart_slots (sym e))

    leafed_gained : Gained g u later (λ h. h ≡ a) (λ x. x ≡ new)
    leafed_gained = subst (λ (z : View). Gained g u z (λ h. h ≡ a) (λ x. x ≡ new)) (sym leaf_seen)
        (then_gained g u v1 _ (λ h. h ≡ a) (λ x. x ≡ new) gained1 (then_gained g v1 v2 _ (λ h. h ≡ a) (λ x. x ≡ new) gained2 (both_gained g v2 v3 _ (λ h. h ≡ a) (λ x. x ≡ new) gained3
        (entry_gained g v3 f (grown folder new) (count folder) 0 new (replicate 15 blank_cell) (cell n a) n a child
        (grown_framed g v2 f folder new framed2 fit2 stands2 behind body2 blank2) fit3 (gained3.on f stands2) w.standing.kind (omega (arith, grown_count folder new)) (grown_last folder new) behind
        here3 (omega arith) unsound3 led child3 refl refl))))

  root_before : Rooted g u
  root_before = rooted g c shown tied

  root_after : Rooted g later
  root_after = rooted g p.card (puts shown p.puts) (create_tied g c shown tied d f n p w)

  abbrev Result : Type 0
  Result = Marked g later (λ s. reached g u s || eqb s a.slot.0) (λ b. held g u b || some_is (body_taken g u c (open_place g u f folder)) (eqb b))

  result : (Taken : ℕ → Type 0) → ((x : ℕ) → Taken x → some_is (body_taken g u c (open_place g u f folder)) (eqb x) ≡ true) → ((x : ℕ) → some_is (body_taken g u c (open_place g u f folder)) (eqb x) ≡ true → Taken x) → Gained g u later (λ h. h ≡ a) Taken → Result
  result Taken tests taken m = record {
    reached = slot_joins g u later root_before root_after a Taken m;
    held = bodies_join g u later root_before root_after (λ h. h ≡ a) Taken (λ b. some_is (body_taken g u c (open_place g u f folder)) (eqb b)) tests taken m;
  }

  pub none_taken : InPlace g u c f folder (cell n a) w.rest w.next → body_taken g u c (open_place g u f folder) ≡ None
  none_taken q = go (open_place g u f folder) refl
    where
      go : (o : Option Place) → open_place g u f folder ≡ o → body_taken g u c o ≡ None
      go None e = absurd (q.unsound (all_sound g u f folder fit w.standing.kind e q.leaf q.place q.here))
      go (Some i) e = refl

  pub one_taken : (q : OnNewLeaf g u c f folder (cell n a) w.rest w.next) → body_taken g u c (open_place g u f folder) ≡ Some q.block
  one_taken q = go (open_place g u f folder) refl
    where
      go : (o : Option Place) → open_place g u f folder ≡ o → body_taken g u c o ≡ Some q.block
      go None e = q.first
      go (Some i) e = let z = in_place g u f folder fit w.standing.kind c (cell n a) i e in absurd (z.unsound (q.full z.leaf z.place z.here))

  pub created : Result
  created = elim w.placed [
    | inl q ↦
        (let none : (x : ℕ) → some_is (body_taken g u c (open_place g u f folder)) (eqb x) ≡ false = λ x. ap (λ (o : Option ℕ). some_is o (eqb x)) (none_taken q) in
        result NoneTaken (λ x z. absurd z) (λ x z. clash (sym (none x) ∙ z)) (placed_gained q))
    | inr q ↦
        (let test : (x : ℕ) → some_is (body_taken g u c (open_place g u f folder)) (eqb x) ≡ eqb x q.block = λ x. ap (λ (o : Option ℕ). some_is o (eqb x)) (one_taken q) in
        result (λ x. x ≡ q.block) (λ x z. test x ∙ eq-eqb x q.block z) (λ x z. eqb-true x q.block (sym (test x) ∙ z)) (leafed_gained q))
  ]

pub create_moves : CreateMoves
create_moves g c shown d f n p r tied e at =
    let w = creates g c shown tied d f n p e in
    let same : w.slot ≡ r = some_same (sym (fits_at g (seen g shown) f w.slot w.standing.fits) ∙ at) in
    subst (λ (t : Slot). Marked g (seen g (puts shown p.puts)) (λ s. reached g (seen g shown) s || eqb s p.answer.slot.0) (λ b. held g (seen g shown) b || some_is (body_taken g (seen g shown) c (open_place g (seen g shown) f t)) (eqb b))) same
    (created g c shown tied d f n p w)
