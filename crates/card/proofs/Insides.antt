-- The blocks of a plan are blocks of the card.
use Rattle.std.proofs.Common.{◌≡◌, ℕ, suc, ◌<◌, ◌≤◌, ltb, ◌⊎◌, List, [], ◌∷◌, None, Ok, sym, refl, ◌∙◌, subst, inl, inr, arith}
use Rattle.std.proofs.lemmas.Bool.{lt-ltb, cond-true}
use Rattle.base.specs.declared.owner.Kind.{Kind}
use Rattle.base.specs.declared.owner.Handle.{Handle}
use Rattle.device.specs.declared.put.Put.{Put}
use Rattle.device.specs.Effect.{first_outside}
use Rattle.layout.specs.Format.{Name, Geometry, Slot}
use Rattle.rule.specs.Agree.{Shown, seen, count, number}
use Rattle.rule.specs.Card.{Card, Plan}
use Rattle.rule.specs.Calls.{Writes, Replaces, Appends}
use Rattle.rule.specs.Changing.{create, write, shorten, remove}
use Rattle.rule.specs.Meaning.{Fits}
use Rattle.moves.specs.Tied.{Tied}
use Rattle.moves.proofs.Lands.{limits_of, leaf_block}
use Rattle.moves.proofs.Stays.{writes, shortens, creates, removes}

-- on a device of n blocks, none of these is past the end
abbrev pub Inside : ℕ → List Put → Type 0
Inside n ws = first_outside n ws ≡ None

one_inside : (n : ℕ) (w : Put) (ws : List Put) → w.block.0 < n → Inside n ws → Inside n (w ∷ ws)
unfolding first_outside
one_inside n w ws l h = cond-true (ltb w.block.0 n) _ _ (lt-ltb _ _ l) ∙ h

none_inside : (n : ℕ) → Inside n []
unfolding first_outside
none_inside n = refl

module _ (g : Geometry) (c : Card) (shown : Shown) (tied : Tied g c shown) (n : ℕ) (room : g.blocks ≤ n) where
  slot_inside : (s : ℕ) → s < g.slots → suc s < n
  slot_inside s l = let w = (limits_of g tied.limits).bodies in omega arith

  leaf_inside : (h : Handle) (r : Slot) (k : ℕ) → Fits g (seen g shown) h r → k < count r → number r k < n
  leaf_inside h r k f l = let w = (leaf_block g c shown tied h r k f l).1 in omega arith

  pub write_inside : (h : Handle) (k : ℕ) (x : List ℕ) (p : Plan (Unit {0})) → write h k x c shown ≡ Ok p → Inside n p.puts
  write_inside h k x p e = let w = writes g c shown tied h k x p e in go w w.blocks
    where
      go : (w : Writes g (seen g shown) c h k x p) → Replaces (seen g shown) c h w.slot k x p ⊎ Appends g (seen g shown) c h w.slot k x p → Inside n p.puts
      go w (inl q) = subst (Inside n) (sym q.blocks) (one_inside n _ _ (leaf_inside h w.slot k w.standing.fits q.below) (none_inside n))
      go w (inr q) = subst (Inside n) (sym q.blocks)
          (one_inside n _ _ (let b = q.free.inside in omega arith) (one_inside n _ _ (slot_inside h.slot.0 w.standing.fits.inside) (none_inside n)))

  pub shorten_inside : (h : Handle) (k : ℕ) (p : Plan (Unit {0})) → shorten h k c shown ≡ Ok p → Inside n p.puts
  shorten_inside h k p e = let w = shortens g c shown tied h k p e in elim w.blocks [
    | inl q ↦ subst (Inside n) (sym q.1) (none_inside n)
    | inr q ↦ subst (Inside n) (sym q.1) (one_inside n _ _ (slot_inside h.slot.0 w.standing.fits.inside) (none_inside n))
  ]

  pub remove_inside : (f : Handle) (m : Name) (p : Plan (Unit {0})) → remove f m c shown ≡ Ok p → Inside n p.puts
  remove_inside f m p e =
      let a = removes g c shown tied f m p e in
      let w = a.1 in
      let s = w.found.sound in
      subst (Inside n) (sym w.blocks)
      (one_inside n _ _ (leaf_inside f s.slot w.found.leaf s.fits s.below) (one_inside n _ _ (slot_inside a.0.slot.0 s.child_fits.inside) (none_inside n)))

  pub create_inside : (d : Kind) (f : Handle) (m : Name) (p : Plan Handle) → create d f m c shown ≡ Ok p → Inside n p.puts
  create_inside d f m p e =
      let w = creates g c shown tied d f m p e in
      subst (Inside n) (sym w.blocks) (one_inside n _ _ (slot_inside p.answer.slot.0 w.free.inside) (elim w.placed [
        | inl q ↦ subst (Inside n) (sym q.blocks) (one_inside n _ _ (leaf_inside f w.slot q.leaf w.standing.fits q.here.below) (none_inside n))
        | inr q ↦ subst (Inside n) (sym q.blocks) (one_inside n _ _ (let b = q.free.inside in omega arith) (one_inside n _ _ (slot_inside f.slot.0 w.standing.fits.inside) (none_inside n)))
      ]))
