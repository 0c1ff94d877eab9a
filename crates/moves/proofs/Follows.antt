-- The marks in memory follow each accepted call.
use Rattle.std.proofs.Common.{◌≡◌, ℕ, suc, ◌-◌, ◌<◌, Bool, true, not, ◌&&◌, ◌||◌, eqb, List, ◌∷◌, get_or, set, replicate, Some, None, Option, sym, refl, ap, ◌∙◌, subst, inl, inr, arith}
use Rattle.std.specs.Option.{option_map}
use Rattle.std.proofs.lemmas.Bool.{cases_eq, and_right, or_right, not_from_true, eq-eqb, ne_eqb, cond-true, cond-false}
use Rattle.std.proofs.lemmas.List.{get_or-set_same, get_or-set_other}
use Rattle.base.specs.declared.owner.Kind.{Kind}
use Rattle.base.specs.declared.owner.Handle.{Handle}
use Rattle.base.specs.declared.owner.Back.{Back}
use Rattle.device.specs.declared.put.Put.{Put}
use Rattle.device.specs.Effect.{puts}
use Rattle.layout.specs.Format.{Name, Geometry, back, Slot, Content, blank, slotted, file_body, folder_body, cell, blank_cell}
use Rattle.rule.specs.Agree.{Shown, View, seen, slot_at, count, number, some_is, from, reached, held, back_in}
use Rattle.rule.specs.Card.{Card, Plan}
use Rattle.rule.specs.Changing.{grown, cut_to, new_slot, open_place}
use Rattle.rule.specs.Meaning.{Fits, Sound}
use Rattle.rule.specs.Calls.{Writes, Shortens, InPlace, Creates, Removes}
use Rattle.rule.proofs.Steps.{clash_none}
use Rattle.rule.proofs.Means.{fits_at, held_is_held}
use Rattle.marks.specs.declared.mark.SlotMark.{SlotMark}
use Rattle.marks.specs.declared.mark.Marks.{Marks}
use Rattle.marks.specs.Marks.{Agree, slot_line, slot_mark, body_mark, with_slot, without, with_gained}
use Rattle.moves.specs.Tied.{Tied}
use Rattle.moves.specs.Moves.{Marked, body_taken, body_added, good_among, good_from}
use Rattle.moves.specs.Marking.{Room, WriteMarks, CreateMarks, ShortenMarks, RemoveMarks}
use Rattle.moves.proofs.Views.{upd, upd_here, upd_else}
use Rattle.moves.proofs.Slots.{suc_same}
use Rattle.moves.proofs.Lands.{rooted, framed}
use Rattle.moves.proofs.Stays.{writes, shortens, creates}
use Rattle.moves.proofs.Gained.{some_same}
use Rattle.moves.proofs.Joins.{replaced_seen, appended_seen, none_added, one_added, write_moves, placed_seen, leaf_put, none_taken, one_taken, create_moves}
use Rattle.moves.proofs.Leaves.{cut_seen, shorten_moves, gone_seen, removes_child, remove_moves}
use Rattle.moves.proofs.Lines.{Alike, alike_same, alike_then, alike_upd, slot_mark_same, or_none, and_all, set_none, gained_slots, gained_bodies, without_slots, left_bodies}

-- the mark of slot s in such a list
abbrev at_slot : ℕ → List (Option SlotMark) → Option SlotMark
at_slot s l = get_or l s None

-- the body that was gained, if any, lies behind the slots and has this back line
pub record New (g : Geometry) (w : View) (c : Back) (b : ℕ) : Type 0 where
  pub above : g.slots < b
  pub inside : b < g.blocks
  pub line : back_in (w b) ≡ Some c

-- ---- write

module _ (g : Geometry) (c : Card) (shown : Shown) (tied : Tied g c shown) (h : Handle) (k : ℕ) (x : List ℕ) (p : Plan (Unit {0})) (w : Writes g (seen g shown) c h k x p) where
  abbrev v : View
  v = seen g shown

  abbrev r : Slot
  r = w.slot

  abbrev after : View
  after = seen g (puts shown p.puts)

  abbrev gain : Option ℕ
  gain = body_added g v c k (count r)

  -- no body lies in the slot's block
  apart : (b : ℕ) → g.slots < b → suc h.slot.0 ≡ b → ⊥
  apart b above e = let l = w.standing.fits.inside in omega arith

  write_keeps : (i : ℕ) → (gain ≡ Some i → ⊥) → Alike (after i) (v i)
  write_keeps i ne = elim w.blocks [
    | inl q ↦ alike_then (alike_same (ap (λ (z : View). z i) (replaced_seen g c shown tied h k x p w q)))
        (alike_upd v (number r k) (file_body (back h k) q.old) (file_body (back h k) x) q.body (record { slot = refl; body = refl }) i)
    | inr q ↦
        (let y : Content = file_body (back h (count r)) x in
        let stood : upd v q.block y (suc h.slot.0) ≡ slotted r = upd_else v q.block y (suc h.slot.0) (apart q.block q.free.above) ∙ w.standing.fits.holds in
        alike_then (alike_same (ap (λ (z : View). z i) (appended_seen g c shown tied h k x p w q)))
        (alike_then (alike_upd (upd v q.block y) (suc h.slot.0) (slotted r) (slotted (grown r q.block)) stood (record { slot = refl; body = refl }) i)
        (alike_same (upd_else v q.block y i (λ e. ne (one_added g c shown tied h k x p w q ∙ ap (λ (j : ℕ). Some j) (sym e)))))))
  ]

  write_gains : (b : ℕ) → gain ≡ Some b → New g after (back h k) b
  write_gains b e = elim w.blocks [
    | inl q ↦ clash_none (sym (none_added g c shown tied h k x p w q) ∙ e)
    | inr q ↦
        (let y : Content = file_body (back h (count r)) x in
        let here : upd v q.block y q.block ≡ y = upd_here v q.block y in
        subst (New g after (back h k)) (some_same (sym (one_added g c shown tied h k x p w q) ∙ e)) (record {
          above = q.free.above;
          inside = q.free.inside;
          line = ap (λ (z : View). back_in (z q.block)) (appended_seen g c shown tied h k x p w q)
              ∙ ap back_in (upd_else (upd v q.block y) (suc h.slot.0) (slotted (grown r q.block)) q.block (λ i. apart q.block q.free.above (sym i)) ∙ here)
              ∙ ap (λ (j : ℕ). Some (back h j)) (sym q.last);
        }))
  ]

  write_agrees : (ms : Marks) → Marked g after (reached g v) (λ b. held g v b || some_is gain (eqb b)) → Agree g v ms → Room g ms → Agree g after (with_gained ms gain (back h k))
  write_agrees ms m a room = record {
    slots = λ s. ap (at_slot s) (gained_slots ms gain (back h k)) ∙ a.slots s ∙ sym (slot_mark_same g v after s (m.reached s) (λ l. write_keeps (suc s) (λ e. let n = (write_gains (suc s) e).above in omega arith)));
    bodies = gained_bodies g v after ms (back h k) a.bodies gain m.held (λ b ne e. (write_keeps b ne).body) (λ b e. let n = write_gains b e in (n.line, (let l = n.inside in let i = room.1 in omega arith)));
  }

pub write_marks : WriteMarks
write_marks g c shown h k x p r ms tied e at a room =
    let w = writes g c shown tied h k x p e in
    let same : w.slot ≡ r = some_same (sym (fits_at g (seen g shown) h w.slot w.standing.fits) ∙ at) in
    subst (λ (t : Slot). Agree g (seen g (puts shown p.puts)) (with_gained ms (body_added g (seen g shown) c k (count t)) (back h k))) same
    (write_agrees g c shown tied h k x p w ms (write_moves g c shown h k x p w.slot tied e (fits_at g (seen g shown) h w.slot w.standing.fits)) a room)

-- ---- shorten

shorten_keeps : (g : Geometry) (c : Card) (shown : Shown) (tied : Tied g c shown) (h : Handle) (n : ℕ) (p : Plan (Unit {0})) (w : Shortens g (seen g shown) c h n p) → (i : ℕ) → Alike (seen g (puts shown p.puts) i) (seen g shown i)
shorten_keeps g c shown tied h n p w i = elim w.blocks [
  | inl q ↦ alike_same (ap (λ (l : List Put). seen g (puts shown l) i) q.1)
  | inr q ↦ alike_then (alike_same (ap (λ (z : View). z i) (cut_seen g c shown tied h n p w q.0 q.1)))
      (alike_upd (seen g shown) (suc h.slot.0) (slotted w.slot) (slotted (cut_to w.slot n)) w.standing.fits.holds (record { slot = refl; body = refl }) i)
]

pub shorten_marks : ShortenMarks
shorten_marks g c shown h n p r ms tied e at a room = record {
  slots = λ s. ap (at_slot s) (without_slots h r (from n (count r - n)) ms) ∙ a.slots s ∙ sym (slot_mark_same g v after s (m.reached s) (λ l. keeps (suc s)));
  bodies = left_bodies g v (rooted g c shown tied) h r fit after ms (from n (count r - n)) a.bodies m.held (λ b. (keeps b).body);
}
  where
    v : View
    v = seen g shown

    after : View
    after = seen g (puts shown p.puts)

    w : Shortens g v c h n p
    w = shortens g c shown tied h n p e

    fit : Fits g v h r
    fit = subst (Fits g v h) (some_same (sym (fits_at g v h w.slot w.standing.fits) ∙ at)) w.standing.fits

    m : Marked g after (reached g v) (λ b. held g v b && not (good_from v h r n b))
    m = shorten_moves g c shown h n p r tied e at

    keeps : (i : ℕ) → Alike (after i) (v i)
    keeps = shorten_keeps g c shown tied h n p w

-- ---- create

module _ (g : Geometry) (c : Card) (shown : Shown) (tied : Tied g c shown) (d : Kind) (f : Handle) (n : Name) (p : Plan Handle) (w : Creates g (seen g shown) c d f n p) where
  abbrev u : View
  u = seen g shown

  abbrev folder : Slot
  folder = w.slot

  abbrev a : Handle
  a = p.answer

  abbrev child : Slot
  child = new_slot d f a.identity.0

  abbrev later : View
  later = seen g (puts shown p.puts)

  -- the child's slot is written
  abbrev v1 : View
  v1 = upd u (suc a.slot.0) (slotted child)

  abbrev taken : Option ℕ
  taken = body_taken g u c (open_place g u f folder)

  -- the body of the folder's new leaf, if it gained one
  abbrev full : Content
  full = folder_body (back f (count folder)) (cell n a ∷ replicate 14 blank_cell)

  fit : Fits g u f folder
  fit = w.standing.fits

  apart_slots : suc f.slot.0 ≡ suc a.slot.0 → ⊥
  apart_slots e = w.free.unreached f (omega arith) w.standing.reached

  behind_child : (b : ℕ) → g.slots < b → b ≡ suc a.slot.0 → ⊥
  behind_child b above e = let l = w.free.inside in omega arith

  behind_folder : (b : ℕ) → g.slots < b → b ≡ suc f.slot.0 → ⊥
  behind_folder b above e = let l = fit.inside in omega arith

  at_child : (i : ℕ) → (i ≡ suc a.slot.0 → ⊥) → v1 i ≡ u i
  at_child = upd_else u (suc a.slot.0) (slotted child)

  above : (q : InPlace g u c f folder (cell n a) w.rest w.next) → g.slots < number folder q.leaf
  above q = framed g c shown tied f folder q.leaf fit q.here.below

  create_keeps : (i : ℕ) → (i ≡ suc a.slot.0 → ⊥) → (taken ≡ Some i → ⊥) → Alike (later i) (u i)
  create_keeps i ns nb = elim w.placed [
    | inl q ↦
        (let b = number folder q.leaf in
        alike_then (alike_same (ap (λ (z : View). z i) (placed_seen g c shown tied d f n p w q)))
        (alike_then (alike_upd v1 b (folder_body (back f q.leaf) q.here.cells) (folder_body (back f q.leaf) (set q.here.cells q.place (cell n a)))
        (at_child b (behind_child b (above q)) ∙ q.here.body) (record { slot = refl; body = refl }) i)
        (alike_same (at_child i ns))))
    | inr q ↦
        (let stood : upd v1 q.block full (suc f.slot.0) ≡ slotted folder =
        upd_else v1 q.block full (suc f.slot.0) (λ e. behind_folder q.block q.free.above (sym e)) ∙ at_child (suc f.slot.0) apart_slots ∙ fit.holds in
        alike_then (alike_same (ap (λ (z : View). z i) (leaf_put g c shown tied d f n p w q)))
        (alike_then (alike_upd (upd v1 q.block full) (suc f.slot.0) (slotted folder) (slotted (grown folder q.block)) stood (record { slot = refl; body = refl }) i)
        (alike_same (upd_else v1 q.block full i (λ e. nb (one_taken g c shown tied d f n p w q ∙ ap (λ (j : ℕ). Some j) (sym e))) ∙ at_child i ns))))
  ]

  create_child : later (suc a.slot.0) ≡ slotted child
  create_child = elim w.placed [
    | inl q ↦ ap (λ (z : View). z (suc a.slot.0)) (placed_seen g c shown tied d f n p w q)
        ∙ upd_else v1 (number folder q.leaf) (folder_body (back f q.leaf) (set q.here.cells q.place (cell n a))) (suc a.slot.0) (λ e. behind_child (number folder q.leaf) (above q) (sym e))
        ∙ upd_here u (suc a.slot.0) (slotted child)
    | inr q ↦ ap (λ (z : View). z (suc a.slot.0)) (leaf_put g c shown tied d f n p w q)
        ∙ upd_else (upd v1 q.block full) (suc f.slot.0) (slotted (grown folder q.block)) (suc a.slot.0) (λ e. apart_slots (sym e))
        ∙ upd_else v1 q.block full (suc a.slot.0) (λ e. behind_child q.block q.free.above (sym e))
        ∙ upd_here u (suc a.slot.0) (slotted child)
  ]

  create_gains : (b : ℕ) → taken ≡ Some b → New g later (back f (count folder)) b
  create_gains b e = elim w.placed [
    | inl q ↦ clash_none (sym (none_taken g c shown tied d f n p w q) ∙ e)
    | inr q ↦ subst (New g later (back f (count folder))) (some_same (sym (one_taken g c shown tied d f n p w q) ∙ e)) (record {
      above = q.free.above;
      inside = q.free.inside;
      line = ap (λ (z : View). back_in (z q.block)) (leaf_put g c shown tied d f n p w q)
          ∙ ap back_in (upd_else (upd v1 q.block full) (suc f.slot.0) (slotted (grown folder q.block)) q.block (behind_folder q.block q.free.above) ∙ upd_here v1 q.block full);
    })
  ]

  -- a held body lies behind the slots
  held_behind : (b : ℕ) → held g u b ≡ true → g.slots < b
  held_behind b e =
      let x = (held_is_held g u (rooted g c shown tied) b).0 e in
      subst (λ (i : ℕ). g.slots < i) x.here (framed g c shown tied x.owner x.good.slot x.leaf x.good.fits x.good.below)

  module _ (ms : Marks) (m : Marked g later (λ s. reached g u s || eqb s a.slot.0) (λ b. held g u b || some_is taken (eqb b))) (agree : Agree g u ms) (room : Room g ms) where
    abbrev line : Option SlotMark
    line = Some (slot_line child)

    create_slots : (s : ℕ) → get_or (set ms.slots a.slot.0 line) s None ≡ slot_mark g later s
    create_slots s = elim (cases_eq s a.slot.0) [
      | inl e ↦ subst (λ (i : ℕ). get_or (set ms.slots a.slot.0 line) i None ≡ slot_mark g later i) (sym e)
          (get_or-set_same ms.slots a.slot.0 line None (let l = w.free.inside in let i = room.0 in omega arith) ∙ sym here)
      | inr ne ↦ get_or-set_other ms.slots a.slot.0 s line None ne ∙ agree.slots s
          ∙ sym (slot_mark_same g u later s (m.reached s ∙ ap (λ (t : Bool). reached g u s || t) (ne_eqb s a.slot.0 ne) ∙ or_none (reached g u s))
          (λ l. create_keeps (suc s) (λ e. ne (suc_same e)) (λ e. let o = (create_gains (suc s) e).above in omega arith)))
    ]
      where
        here : slot_mark g later a.slot.0 ≡ line
        here =
            cond-true (reached g later a.slot.0) (option_map slot_line (slot_at g later a.slot.0)) None (m.reached a.slot.0 ∙ or_right (reached g u a.slot.0) (eqb a.slot.0 a.slot.0) (eq-eqb a.slot.0 a.slot.0 refl))
            ∙ ap (option_map slot_line) (fits_at g later a child (record { inside = w.free.inside; holds = create_child; same = refl }))

    create_agrees : Agree g later (with_gained (with_slot ms a.slot.0 line) taken (back f (count folder)))
    create_agrees = record {
      slots = λ s. ap (at_slot s) (gained_slots (with_slot ms a.slot.0 line) taken (back f (count folder))) ∙ create_slots s;
      bodies = gained_bodies g u later (with_slot ms a.slot.0 line) (back f (count folder)) agree.bodies taken m.held
          (λ b ne e. (create_keeps b (behind_child b (held_behind b e)) ne).body)
          (λ b e. let o = create_gains b e in (o.line, (let l = o.inside in let i = room.1 in omega arith)));
    }

pub create_marks : CreateMarks
create_marks g c shown d f n p r ms tied e at agree room =
    let w = creates g c shown tied d f n p e in
    let same : w.slot ≡ r = some_same (sym (fits_at g (seen g shown) f w.slot w.standing.fits) ∙ at) in
    subst (λ (t : Slot). Agree g (seen g (puts shown p.puts))
    (with_gained (with_slot ms p.answer.slot.0 (Some (slot_line (new_slot d f p.answer.identity.0)))) (body_taken g (seen g shown) c (open_place g (seen g shown) f t)) (back f (count t)))) same
    (create_agrees g c shown tied d f n p w ms (create_moves g c shown d f n p w.slot tied e (fits_at g (seen g shown) f w.slot w.standing.fits)) agree room)

-- ---- remove

module _ (g : Geometry) (c : Card) (shown : Shown) (tied : Tied g c shown) (f : Handle) (n : Name) (a : Handle) (p : Plan (Unit {0})) (w : Removes g (seen g shown) c f n a p) where
  abbrev full_view : View
  full_view = seen g shown

  abbrev left_view : View
  left_view = seen g (puts shown p.puts)

  abbrev s : Sound g full_view f w.found.leaf w.found.place n a
  s = w.found.sound

  abbrev spot : ℕ
  spot = number w.found.sound.slot w.found.leaf

  abbrev hole : Content
  hole = folder_body (back f w.found.leaf) (set w.found.sound.cells w.found.place blank_cell)

  elsewhere : spot ≡ suc a.slot.0 → ⊥
  elsewhere e = let l = s.child_fits.inside in let m = framed g c shown tied f s.slot w.found.leaf s.fits s.below in omega arith

  remove_keeps : (i : ℕ) → (i ≡ suc a.slot.0 → ⊥) → Alike (left_view i) (full_view i)
  remove_keeps i ne =
      alike_then (alike_same (ap (λ (z : View). z i) (gone_seen g c shown tied f n a p w)))
      (alike_then (alike_upd (upd full_view (suc a.slot.0) blank) spot (folder_body (back f w.found.leaf) s.cells) hole
      (upd_else full_view (suc a.slot.0) blank spot elsewhere ∙ s.body) (record { slot = refl; body = refl }) i)
      (alike_same (upd_else full_view (suc a.slot.0) blank i ne)))

  -- neither a slot nor a blank block has a back line
  remove_lines : (i : ℕ) → back_in (left_view i) ≡ back_in (full_view i)
  remove_lines i = elim (cases_eq i (suc a.slot.0)) [
    | inl e ↦ subst (λ (j : ℕ). back_in (left_view j) ≡ back_in (full_view j)) (sym e)
        (ap back_in (ap (λ (z : View). z (suc a.slot.0)) (gone_seen g c shown tied f n a p w)
        ∙ upd_else (upd full_view (suc a.slot.0) blank) spot hole (suc a.slot.0) (λ q. elsewhere (sym q)) ∙ upd_here full_view (suc a.slot.0) blank)
        ∙ sym (ap back_in s.child_fits.holds))
    | inr ne ↦ (remove_keeps i ne).body
  ]

  remove_agrees : (t : Slot) (ms : Marks) → Fits g full_view a t →
      Marked g left_view (λ x. reached g full_view x && not (eqb x a.slot.0)) (λ b. held g full_view b && not (good_from full_view a t 0 b)) → Agree g full_view ms →
      Agree g left_view (with_slot (without ms a t (from 0 (count t))) a.slot.0 None)
  remove_agrees t ms fit m agree = record { slots = slots; bodies = bodies }
    where
      rest : Marks
      rest = without ms a t (from 0 (count t))

      slots : (x : ℕ) → get_or (set rest.slots a.slot.0 None) x None ≡ slot_mark g left_view x
      slots x = elim (cases_eq x a.slot.0) [
        | inl e ↦ subst (λ (i : ℕ). get_or (set rest.slots i None) x None ≡ slot_mark g left_view x) e
            (set_none rest.slots x
            ∙ sym (cond-false (reached g left_view x) (option_map slot_line (slot_at g left_view x)) None
            (m.reached x ∙ and_right (reached g full_view x) (not (eqb x a.slot.0)) (not_from_true (eqb x a.slot.0) (eq-eqb x a.slot.0 e)))))
        | inr ne ↦ get_or-set_other rest.slots a.slot.0 x None None ne ∙ ap (at_slot x) (without_slots a t (from 0 (count t)) ms) ∙ agree.slots x
            ∙ sym (slot_mark_same g full_view left_view x (m.reached x ∙ ap (λ (b : Bool). reached g full_view x && not b) (ne_eqb x a.slot.0 ne) ∙ and_all (reached g full_view x))
            (λ l. remove_keeps (suc x) (λ e. ne (suc_same e))))
      ]

      all : count t - 0 ≡ count t
      all = omega arith

      bodies : (b : ℕ) → get_or rest.bodies b None ≡ body_mark g left_view b
      bodies = left_bodies g full_view (rooted g c shown tied) a t fit left_view ms (from 0 (count t)) agree.bodies
          (λ b. m.held b ∙ ap (λ (j : ℕ). held g full_view b && not (good_among full_view a t b (from 0 j))) all) remove_lines

pub remove_marks : RemoveMarks
remove_marks g c shown f n p r q a t ms tied e at is child slot agree room =
    let w = removes_child g c shown f n p r q a tied e at is child in
    let fit : Fits g (seen g shown) a t = subst (Fits g (seen g shown) a) (some_same (sym (fits_at g (seen g shown) a w.found.sound.child w.found.sound.child_fits) ∙ slot)) w.found.sound.child_fits in
    remove_agrees g c shown tied f n a p w t ms fit (remove_moves g c shown f n p r q a t tied e at is child slot) agree
