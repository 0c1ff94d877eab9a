-- What a card and its blocks have in common stays so after each accepted call.
use Rattle.std.proofs.Common.{◌≡◌, ℕ, suc, ◌<◌, ◌≤◌, true, List, [], ◌∷◌, get_or, set, replicate, Ok, sym, refl, ap, ◌∙◌, subst, inl, inr, arith}
use Rattle.base.specs.declared.owner.Kind.{Kind}
use Rattle.base.specs.declared.owner.Handle.{Handle}
use Rattle.device.specs.Model.{put}
use Rattle.device.specs.declared.put.Put.{Put}
use Rattle.device.specs.Effect.{puts}
use Rattle.layout.specs.Format.{Name, Geometry, back, Slot, Content, blank, slotted, file_body, folder_body, entry, entry_of, cell, blank_cell, encode}
use Rattle.layout.specs.Identities.{entry_told}
use Rattle.rule.specs.Agree.{Shown, View, seen, count, number}
use Rattle.rule.specs.Card.{Card, Plan, is_root}
use Rattle.rule.specs.Changing.{grown, cut_to, new_slot, last_identity, create, write, shorten, remove}
use Rattle.rule.specs.Meaning.{Fits, Rooted}
use Rattle.rule.specs.Calls.{Writes, Shortens, InPlace, OnNewLeaf, Creates, Removes}
use Rattle.rule.specs.Readings.{InRange}
use Rattle.rule.proofs.Plans.{ok_same, create_means, write_means, shorten_means, remove_means}
use Rattle.rule.proofs.Answered.{create_keeps_range, write_keeps_range}
use Rattle.history.proofs.Parsed.{blank_entry, child_parsed}
use Rattle.history.proofs.Stands.{entry_tells}
use Rattle.moves.specs.Tied.{Tied, CreateStaysTied, WriteStaysTied, ShortenStaysTied, RemoveStaysTied}
use Rattle.moves.proofs.Lands.{Lands, Fine, fine_put, limits_of, fine, rooted, leaf_block, grown_lands, cut_lands, file_lands, cell_lands, leaf_lands, new_lands, blank_lands, entry_size, entry_new}

module _ (g : Geometry) (c : Card) (shown : Shown) (tied : Tied g c shown) where
  abbrev v : View
  v = seen g shown

  abbrev high : ℕ
  high = c.highest

  -- no body is the root's block
  fine_body : (low top : ℕ) (before : Shown) (b : ℕ) (y : Content) → low ≤ top → Fine g low before → Lands g top b y → g.slots < b → Fine g top (put before b (encode y))
  fine_body low top before b y up f l above = fine_put g low top before b y up f l (λ e. absurd (let a = (limits_of g tied.limits).low in omega arith))

  -- a slot with other leaves is the root if it was
  root_again : (h : Handle) (r : Slot) → Fits g v h r → suc h.slot.0 ≡ 1 → is_root (slotted r) ≡ true
  root_again h r f e = ap is_root (sym f.holds ∙ ap v e) ∙ tied.root

  again : (d : Card) (shown : Shown) → d.ready ≡ c.ready → Fine g d.highest shown → d.highest ≤ last_identity → InRange g d → Tied g d shown
  again d shown same f low range = record { limits = tied.limits; ready = same ∙ tied.ready; root = f.root; counted = f.counted; narrow = low; range = range; whole = f.whole }

  -- ---- write

  write_fine : (h : Handle) (k : ℕ) (x : List ℕ) (p : Plan (Unit {0})) (w : Writes g v c h k x p) → Fine g high (puts shown p.puts)
  write_fine h k x p w = elim w.blocks [
    | inl q ↦
        (let at = leaf_block g c shown tied h w.slot k w.standing.fits q.below in
        subst (λ (l : List Put). Fine g high (puts shown l)) (sym q.blocks)
        (fine_body high high shown (number w.slot k) (file_body (back h k) x) (omega arith) (fine g c shown tied)
        (file_lands g c shown tied h w.slot k (number w.slot k) x w.standing.fits w.leaf w.size at.0 at.1) at.0))
    | inr q ↦ subst (λ (l : List Put). Fine g high (puts shown l)) (sym q.blocks)
        (fine_put g high high _ (suc h.slot.0) (slotted (grown w.slot q.block)) (omega arith)
        (fine_body high high shown q.block (file_body (back h k) x) (omega arith) (fine g c shown tied)
        (file_lands g c shown tied h w.slot k q.block x w.standing.fits w.leaf w.size q.free.above q.free.inside) q.free.above)
        (grown_lands g c shown tied high h w.slot q.block (omega arith) w.standing.fits (let l = w.leaf in let a = q.last in omega arith) q.free.above q.free.inside)
        (root_again h w.slot w.standing.fits))
  ]

  write_after : (h : Handle) (k : ℕ) (x : List ℕ) (p : Plan (Unit {0})) (w : Writes g v c h k x p) → (p.card.ready ≡ c.ready) × (p.card.highest ≡ high)
  write_after h k x p w = elim w.blocks [
    | inl q ↦ (ap (λ (d : Card). d.ready) q.after, ap (λ (d : Card). d.highest) q.after)
    | inr q ↦ (ap (λ (d : Card). d.ready) q.after, ap (λ (d : Card). d.highest) q.after)
  ]

  pub write_tied : (h : Handle) (k : ℕ) (x : List ℕ) (p : Plan (Unit {0})) → Writes g v c h k x p → Tied g p.card (puts shown p.puts)
  write_tied h k x p w =
      let a = write_after h k x p w in
      again p.card _ a.0 (subst (λ (t : ℕ). Fine g t (puts shown p.puts)) (sym a.1) (write_fine h k x p w)) (let n = tied.narrow in let e = a.1 in omega arith)
      (write_keeps_range g v c h k x p w tied.range)

  -- ---- shorten

  pub shorten_tied : (h : Handle) (n : ℕ) (p : Plan (Unit {0})) → Shortens g v c h n p → Tied g p.card (puts shown p.puts)
  shorten_tied h n p w = subst (λ (d : Card). Tied g d (puts shown p.puts)) (sym w.after) (again c _ refl fined tied.narrow tied.range)
    where
      fined : Fine g high (puts shown p.puts)
      fined = elim w.blocks [
        | inl q ↦ subst (λ (l : List Put). Fine g high (puts shown l)) (sym q.1) (fine g c shown tied)
        | inr q ↦ subst (λ (l : List Put). Fine g high (puts shown l)) (sym q.1)
            (fine_put g high high shown (suc h.slot.0) (slotted (cut_to w.slot n)) (omega arith) (fine g c shown tied) (cut_lands g c shown tied h w.slot n w.standing.fits) (root_again h w.slot w.standing.fits))
      ]

  -- ---- create

  module _ (d : Kind) (f : Handle) (n : Name) (p : Plan Handle) (w : Creates g v c d f n p) where
    abbrev a : Handle
    a = p.answer

    pub new_entry : entry_of g (cell n a) ≡ entry n a
    new_entry = entry_new g c shown tied n a w.name w.child w.free.inside w.fresh w.narrow

    entry_low : entry_told (entry_of g (cell n a)) ≤ suc high
    entry_low = let e = entry_tells (entry_of g (cell n a)) n a new_entry in let o = w.fresh in omega arith

    pub child_lands : Lands g (suc high) (suc a.slot.0) (slotted (new_slot d f a.identity.0))
    child_lands = subst (λ (i : ℕ). Lands g (suc high) (suc a.slot.0) (slotted (new_slot d f i))) (sym w.fresh) (new_lands g c shown tied d f w.slot a.slot.0 w.standing.fits w.free.inside w.narrow)

    first_fine : Fine g (suc high) (put shown (suc a.slot.0) (encode (slotted (new_slot d f a.identity.0))))
    first_fine = fine_put g high (suc high) shown (suc a.slot.0) (slotted (new_slot d f a.identity.0)) (omega arith) (fine g c shown tied) child_lands (λ e. absurd (let l = w.child in omega arith))

    pub entry_lands : (rest : List Put) (next : ℕ) (q : InPlace g v c f w.slot (cell n a) rest next) → Lands g (suc high) (number w.slot q.leaf) (folder_body (back f q.leaf) (set q.here.cells q.place (cell n a)))
    entry_lands rest next q = cell_lands g c shown tied (suc high) f w.slot q.leaf q.place q.here.cells (cell n a) (omega arith) w.standing.fits q.here.below q.here.body (entry_size g c shown tied n a w.name) entry_low

    pub body_lands : (rest : List Put) (next : ℕ) (q : OnNewLeaf g v c f w.slot (cell n a) rest next) → Lands g (suc high) q.block (folder_body (back f (count w.slot)) (cell n a ∷ replicate 14 blank_cell))
    body_lands rest next q = leaf_lands g c shown tied (suc high) f w.slot q.block (cell n a) (omega arith) w.standing.fits q.room q.free.above q.free.inside (entry_size g c shown tied n a w.name) entry_low

    pub folder_lands : (rest : List Put) (next : ℕ) (q : OnNewLeaf g v c f w.slot (cell n a) rest next) → Lands g (suc high) (suc f.slot.0) (slotted (grown w.slot q.block))
    folder_lands rest next q = grown_lands g c shown tied (suc high) f w.slot q.block (omega arith) w.standing.fits q.room q.free.above q.free.inside

    create_fine : Fine g (suc high) (puts shown p.puts)
    create_fine = subst (λ (l : List Put). Fine g (suc high) (puts shown l)) (sym w.blocks) (elim w.placed [
      | inl q ↦ subst (λ (l : List Put). Fine g (suc high) (puts (put shown (suc a.slot.0) (encode (slotted (new_slot d f a.identity.0)))) l)) (sym q.blocks)
          (fine_body (suc high) (suc high) _ (number w.slot q.leaf) _ (omega arith) first_fine (entry_lands w.rest w.next q)
          (leaf_block g c shown tied f w.slot q.leaf w.standing.fits q.here.below).0)
      | inr q ↦ subst (λ (l : List Put). Fine g (suc high) (puts (put shown (suc a.slot.0) (encode (slotted (new_slot d f a.identity.0)))) l)) (sym q.blocks)
          (fine_put g (suc high) (suc high) _ (suc f.slot.0) (slotted (grown w.slot q.block)) (omega arith)
          (fine_body (suc high) (suc high) _ q.block _ (omega arith) first_fine (body_lands w.rest w.next q) q.free.above)
          (folder_lands w.rest w.next q) (root_again f w.slot w.standing.fits))
    ])

    pub create_tied : Tied g p.card (puts shown p.puts)
    create_tied =
        let up : p.card.highest ≡ suc high = ap (λ (d : Card). d.highest) w.after ∙ w.fresh in
        again p.card _ (ap (λ (d : Card). d.ready) w.after) (subst (λ (t : ℕ). Fine g t (puts shown p.puts)) (sym up) create_fine) (let n = w.narrow in omega arith)
        (create_keeps_range g v c d f n p w tied.range)

  -- ---- remove

  module _ (f : Handle) (n : Name) (h : Handle) (p : Plan (Unit {0})) (w : Removes g v c f n h p) where
    pub above_root : 0 < h.slot.0
    above_root = child_parsed g (get_or w.found.sound.cells w.found.place []) n h w.found.sound.here

    pub hole_lands : Lands g high (number w.found.sound.slot w.found.leaf) (folder_body (back f w.found.leaf) (set w.found.sound.cells w.found.place blank_cell))
    hole_lands = let x = w.found.sound in
        cell_lands g c shown tied high f x.slot w.found.leaf w.found.place x.cells blank_cell (omega arith) x.fits x.below x.body refl (let e = ap entry_told (blank_entry g) in omega arith)

    pub gone_lands : Lands g high (suc h.slot.0) blank
    gone_lands = blank_lands g c shown tied h.slot.0 w.found.sound.child_fits.inside

    pub remove_tied : Tied g p.card (puts shown p.puts)
    remove_tied = subst (λ (d : Card). Tied g d (puts shown p.puts)) (sym w.after) (again c _ refl fined tied.narrow tied.range)
      where
        fined : Fine g high (puts shown p.puts)
        fined = subst (λ (l : List Put). Fine g high (puts shown l)) (sym w.blocks)
            (fine_put g high high _ (suc h.slot.0) blank (omega arith)
            (fine_body high high shown (number w.found.sound.slot w.found.leaf) _ (omega arith) (fine g c shown tied) hole_lands
            (leaf_block g c shown tied f w.found.sound.slot w.found.leaf w.found.sound.fits w.found.sound.below).0)
            gone_lands (λ e. absurd (let l = above_root in omega arith)))

-- ---- from the plans

module _ (g : Geometry) (c : Card) (shown : Shown) (tied : Tied g c shown) where
  pub writes : (h : Handle) (k : ℕ) (x : List ℕ) (p : Plan (Unit {0})) → write h k x c shown ≡ Ok p → Writes g (seen g shown) c h k x p
  writes h k x p e =
      let m = write_means h k x c shown p e in
      subst (λ (j : Geometry). Rooted j (seen j shown) → Writes j (seen j shown) c h k x p) (ok_same (sym m.1 ∙ tied.ready)) m.2 (rooted g c shown tied)

  pub shortens : (h : Handle) (n : ℕ) (p : Plan (Unit {0})) → shorten h n c shown ≡ Ok p → Shortens g (seen g shown) c h n p
  shortens h n p e =
      let m = shorten_means h n c shown p e in
      subst (λ (j : Geometry). Rooted j (seen j shown) → Shortens j (seen j shown) c h n p) (ok_same (sym m.1 ∙ tied.ready)) m.2 (rooted g c shown tied)

  pub creates : (d : Kind) (f : Handle) (n : Name) (p : Plan Handle) → create d f n c shown ≡ Ok p → Creates g (seen g shown) c d f n p
  creates d f n p e =
      let m = create_means d f n c shown p e in
      subst (λ (j : Geometry). Rooted j (seen j shown) → Creates j (seen j shown) c d f n p) (ok_same (sym m.1 ∙ tied.ready)) m.2 (rooted g c shown tied)

  pub removes : (f : Handle) (n : Name) (p : Plan (Unit {0})) → remove f n c shown ≡ Ok p → (h : Handle) × Removes g (seen g shown) c f n h p
  removes f n p e =
      let m = remove_means f n c shown p e in
      subst (λ (j : Geometry). Rooted j (seen j shown) → (h : Handle) × Removes j (seen j shown) c f n h p) (ok_same (sym m.1 ∙ tied.ready)) m.2 (rooted g c shown tied)

pub write_stays_tied : WriteStaysTied
write_stays_tied g c shown h k x p tied e = write_tied g c shown tied h k x p (writes g c shown tied h k x p e)

pub shorten_stays_tied : ShortenStaysTied
shorten_stays_tied g c shown h n p tied e = shorten_tied g c shown tied h n p (shortens g c shown tied h n p e)

pub create_stays_tied : CreateStaysTied
create_stays_tied g c shown d f n p tied e = create_tied g c shown tied d f n p (creates g c shown tied d f n p e)

pub remove_stays_tied : RemoveStaysTied
remove_stays_tied g c shown f n p tied e = let w = removes g c shown tied f n p e in remove_tied g c shown tied f n w.0 p w.1
