-- Opening, one check after another.
use Rattle.std.proofs.Common.{◌≡◌, ℕ, ◌+◌, ◌<◌, ◌≤◌, Bool, true, false, ◌&&◌, ltb, leb, Some, None, Ok, Err, Option, sym, ap, ◌∙◌, subst, inl, inr, arith}
use Rattle.std.specs.Prelude.{MatchOption}
use Rattle.std.specs.Option.{option_map, ok_or}
use Rattle.std.proofs.lemmas.Bool.{and_parts, cond-true, leb-true, le-leb, lt-leb, lt-ltb, le-ltb}
use Rattle.base.specs.declared.refusal.Refusal.{Refusal}
use Rattle.base.specs.declared.refusal.Refusal.TheVariants.{BadCard, SmallDevice}
use Rattle.device.specs.Model.{Model, Lost, Block}
use Rattle.layout.specs.Format.{Geometry, Slot, cover, ill_formed, cover_of, in_limits}
use Rattle.rule.specs.Agree.{Shown, View, seen, slot_at, slot_in, some_is}
use Rattle.rule.specs.Card.{Ready, block, is_root, geometry_in, opening}
use Rattle.walk.specs.Copies.{copied}
use Rattle.walk.specs.Still.{Still}
use Rattle.walk.specs.declared.slot.SlotCopy.{SlotCopy}
use Rattle.walk.proofs.Stills.{still_then}
use Rattle.walk.proofs.Stepping.{bind_ok, bind_err, check_ok, check_err, demand_ok, demand_err}
use Rattle.card_lists.specs.Ready.{Kept}
use Rattle.layout.specs.Sizes.{sizes}
use Rattle.layout.specs.declared.geometry.Geometry.{Geometry as CardGeometry}
use Rattle.card.specs.Opening.{rooted, sized, Opening}

module _ (n : ℕ) (shown : Shown) (g : Geometry) where
  pub sized_small : n < g.blocks → sized n shown g ≡ Err (SmallDevice g.blocks)
  sized_small l = bind_err _ _ _ (check_err (leb g.blocks n) _ (lt-leb g.blocks n l))

  module _ (room : g.blocks ≤ n) where
    pub sized_good : is_root (seen g shown 1) ≡ true → sized n shown g ≡ Ok g
    sized_good e = bind_ok _ _ tt (check_ok (leb g.blocks n) _ (le-leb g.blocks n room)) ∙ bind_ok _ _ tt (check_ok (is_root (seen g shown 1)) _ e)

    pub sized_bad : is_root (seen g shown 1) ≡ false → sized n shown g ≡ Err (BadCard (block 1))
    sized_bad e = bind_ok _ _ tt (check_ok (leb g.blocks n) _ (le-leb g.blocks n room)) ∙ bind_err _ _ _ (check_err (is_root (seen g shown 1)) _ e)

  pub opening_cover : 0 < n → (z : Block) → z ≡ shown 0 → cover_of z ≡ cover g → opening n shown ≡ sized n shown g
  unfolding opening
  opening_cover l z e q = bind_ok _ _ tt (check_ok (ltb 0 n) _ (lt-ltb 0 n l)) ∙ bind_ok _ _ g (demand_ok (geometry_in (cover_of (shown 0))) _ g (ap (λ (y : Block). geometry_in (cover_of y)) (sym e) ∙ ap geometry_in q))

module _ (n : ℕ) (shown : Shown) where
  pub opening_empty : n ≡ 0 → opening n shown ≡ Err (BadCard (block 0))
  unfolding opening
  opening_empty e = bind_err _ _ _ (check_err (ltb 0 n) _ (le-ltb 0 n (omega arith)))

  pub opening_bad : 0 < n → (z : Block) → z ≡ shown 0 → cover_of z ≡ ill_formed → opening n shown ≡ Err (BadCard (block 0))
  unfolding opening
  opening_bad l z e q = bind_ok _ _ tt (check_ok (ltb 0 n) _ (lt-ltb 0 n l)) ∙ bind_err _ _ _ (demand_err (geometry_in (cover_of (shown 0))) _ (ap (λ (y : Block). geometry_in (cover_of y)) (sym e) ∙ ap geometry_in q))

-- a card has slots
has_slots : (g : Geometry) → in_limits g.blocks g.slots ≡ true → 0 < g.slots
has_slots g h =
    let l = leb-true 2 g.slots (and_parts (leb 2 g.slots) (leb g.slots 256 && (leb (g.slots + 2) g.blocks && leb g.blocks 4096)) h).0 in
    omega (arith, l)

module _ (g : Geometry) (v : View) (fine : in_limits g.blocks g.slots ≡ true) (o : Option SlotCopy) (at : option_map copied o ≡ slot_at g v 0) where
  first_slot : slot_in (v 1) ≡ option_map copied o
  first_slot = sym (cond-true (ltb 0 g.slots) _ _ (lt-ltb 0 g.slots (has_slots g fine))) ∙ sym at

  pub root_some : (s : SlotCopy) (b : Bool) → o ≡ Some s → b ≡ rooted (copied s) → is_root (v 1) ≡ b
  root_some s b e q = ap (λ (x : Option Slot). some_is x rooted) (first_slot ∙ ap (option_map copied) e) ∙ sym q

  pub root_none : o ≡ None → is_root (v 1) ≡ false
  root_none e = ap (λ (x : Option Slot). some_is x rooted) (first_slot ∙ ap (option_map copied) e)

-- what the cover tells, as the parser has it
module _ (z : Block) (o : Option CardGeometry) (e : Refusal) (told : MatchOption o (cover_of z ≡ ill_formed) (λ g. cover_of z ≡ cover (sizes g))) where
  pub cover_told : (g : CardGeometry) → Ok g ≡ ok_or o e → cover_of z ≡ cover (sizes g)
  cover_told g q = go o told q
    where
      go : (o : Option CardGeometry) → MatchOption o (cover_of z ≡ ill_formed) (λ g. cover_of z ≡ cover (sizes g)) → Ok g ≡ ok_or o e → cover_of z ≡ cover (sizes g)
      go (Some h) t q = let same : h ≡ g = cc in t ∙ ap (λ (i : CardGeometry). cover (sizes i)) same
      go None t q = let clash : ◌≡◌ {A = ℕ} 0 1 = cc in absurd (omega arith)

  pub cover_missed : (d : Refusal) → Err d ≡ ok_or o e → (cover_of z ≡ ill_formed) × (d ≡ e)
  cover_missed d q = go o told q
    where
      go : (o : Option CardGeometry) → MatchOption o (cover_of z ≡ ill_formed) (λ g. cover_of z ≡ cover (sizes g)) → Err d ≡ ok_or o e → (cover_of z ≡ ill_formed) × (d ≡ e)
      go (Some h) t q = let clash : ◌≡◌ {A = ℕ} 0 1 = cc in absurd (omega arith)
      go None t q = let same : d ≡ e = cc in (t, same)

lost_then : (m k n : Model) → Still m k → Lost k n → Lost m n
lost_then m k n s h = record {
  kept = record { count = h.kept.count ∙ s.kept.count; shown = h.kept.shown ∙ s.kept.shown; stands = λ i x q. s.kept.stands i x (h.kept.stands i x q) };
  off = h.off;
}

-- after the cover was read
pub opening_then : (r : Kept) (x y : Ready) (m k n : Model) → Still m k → x ≡ y → Opening r x k n → Opening r y m n
opening_then (Ok g) x y m k n s e h = (still_then m k n s h.0, sym e ∙ h.1, omega (arith, s.kept.count, h.2))
opening_then (Err d) x y m k n s e (inl h) = inl (still_then m k n s h.0, sym e ∙ h.1)
opening_then (Err d) x y m k n s e (inr h) = inr (h.0, h.1, lost_then m k n s h.2)

pub opening_refused : (r : Kept) (x : Ready) (m n : Model) (e : Refusal) → r ≡ Err e → Still m n → x ≡ Err e → Opening r x m n
opening_refused r x m n e is s q = subst (λ (z : Kept). Opening z x m n) (sym is) (inl (s, q))

pub sized_then : (m k : Model) (g : Geometry) (z : Block) → Still m k → 0 < m.count → z ≡ m.shown 0 → cover_of z ≡ cover g → sized k.count k.shown g ≡ opening m.count m.shown
sized_then m k g z s l e q =
    ap (λ (n : ℕ). sized n k.shown g) s.kept.count ∙ ap (λ (f : Shown). sized m.count f g) s.kept.shown ∙ sym (opening_cover m.count m.shown g l z e q)
