-- What holds of an image that is only looked at.
use Rattle.std.proofs.Common.{◌≡◌, ℕ, ◌+◌, ◌-◌, ◌*◌, ◌<◌, min, Bool, true, false, cond, not, eqb, ◌⊎◌, List, [], ◌∷◌, length, take, drop, Some, None, Option, sym, refl, ap, ◌∙◌, subst, inl, inr, arith}
use mathlib.Core.Path.{fun_ext}
use Rattle.std.proofs.lemmas.List.{take_all, drop_all, length-drop, length-take}
use Rattle.std.proofs.lemmas.Bool.{cases_lt, eq-eqb, eqb-true}
use Rattle.device.specs.Model.{Model, Block, In, OnlyShown, Stands, Is, Stayed, Lost, Written, Torn, Settled}
use Rattle.device.specs.Plain.{block, blocks_in}
use Rattle.device.specs.declared.put.Put.{Put}
use Rattle.rule.specs.Agree.{same_bytes}
use Rattle.rule.proofs.Steps.{clash, bytes_true, bytes_refl}
use Rattle.screen.specs.Image.{differs, may_stand, shown_stands, looked_at}

-- ---- blocks

-- a part of the image, as the code cuts it out
pub part_is : (xs : List ℕ) (b s e : ℕ) → s ≡ min (512 * b) (length xs) → e ≡ min (s + 512) (length xs) → take (e - s) (drop s xs) ≡ block xs b
part_is xs b s e p q = elim (cases_lt (512 * b) (length xs)) [
  | inl low ↦ let at : s ≡ 512 * b = omega (arith, p, low) in ap (λ (i : ℕ). take (e - s) (drop i xs)) at ∙ inside low
  | inr high ↦
      ap (take (e - s)) (drop_all s xs (omega (arith, p, high))) ∙ take_all (e - s) [] (omega arith)
      ∙ sym (ap (take 512) (drop_all (512 * b) xs high) ∙ take_all 512 [] (omega arith))
]
  where
    inside : 512 * b < length xs → take (e - s) (drop (512 * b) xs) ≡ block xs b
    inside low = elim (cases_lt (s + 512) (length xs)) [
      | inl l ↦ let all : e - s ≡ 512 = omega (arith, p, q, l) in ap (λ (i : ℕ). take i (drop (512 * b) xs)) all
      | inr l ↦
          take_all (e - s) (drop (512 * b) xs) (omega (arith, p, q, l, low, length-drop (512 * b) xs))
          ∙ sym (take_all 512 (drop (512 * b) xs) (omega (arith, p, l, low, length-drop (512 * b) xs)))
    ]

pub block_whole : (xs : List ℕ) (b : ℕ) → b < blocks_in xs → length (block xs b) ≡ 512
block_whole xs b l = length-take 512 (drop (512 * b) xs) ∙ omega (arith, l, length-drop (512 * b) xs)

-- ---- what may stand

true_of : (t : Bool) → not t ≡ false → t ≡ true
true_of true e = refl
true_of false e = clash (sym e)

-- with the power on nothing but what is shown may stand
pub on_only : (image : List ℕ) (last : Option Put) → differs image last ≡ false → OnlyShown (looked_at image last)
unfolding In
on_only image None e b x (inl q) = q
on_only image None e b x (inr h) = absurd h
on_only image (Some p) e b x (inl q) = q
on_only image (Some p) e b x (inr h) = go (eqb b p.block.0) refl h
  where
    go : (t : Bool) → eqb b p.block.0 ≡ t → In x (cond t (p.bytes ∷ []) []) → x ≡ block image b
    go true q (inl s) =
        s ∙ bytes_true p.bytes (block image p.block.0) (true_of (same_bytes p.bytes (block image p.block.0)) e)
        ∙ ap (block image) (sym (eqb-true b p.block.0 q))
    go true q (inr s) = absurd s
    go false q s = absurd s

-- with the power off something else may stand
off_other : {A : Type 0} (image : List ℕ) (last : Option Put) → differs image last ≡ true → OnlyShown (looked_at image last) → A
unfolding In
off_other image None e only = clash e
off_other image (Some p) e only =
    let b = p.block.0 in
    let here : In p.bytes (block image b ∷ cond (eqb b b) (p.bytes ∷ []) []) = inr (subst (λ (t : Bool). In p.bytes (cond t (p.bytes ∷ []) [])) (sym (eq-eqb b b refl)) (inl refl)) in
    let q : p.bytes ≡ block image b = only b p.bytes here in
    clash (sym (ap not (subst (λ (z : List ℕ). same_bytes p.bytes z ≡ true) q (bytes_refl p.bytes))) ∙ e)

-- so where nothing but what is shown may stand, no image has lost its power since
pub never_lost : {A : Type 0} (m : Model) (image : List ℕ) (last : Option Put) → OnlyShown m → Lost m (looked_at image last) → A
never_lost m image last only h =
    off_other image last (true_of (differs image last) h.off)
    (λ i x s. only i x (h.kept.stands i x s) ∙ sym (ap (λ (f : ℕ → Block). f i) h.kept.shown))

-- ---- the calls

pub on_stayed : (image : List ℕ) (last : Option Put) → differs image last ≡ false → Stayed (looked_at image last) (looked_at image last)
on_stayed image last e = record { kept = record { count = refl; shown = refl; stands = λ i x h. h }; was_on = ap not e; on = ap not e }

pub on_settled : (image : List ℕ) (last : Option Put) → differs image last ≡ false → Settled (looked_at image last) (looked_at image last)
on_settled image last e = record { stayed = on_stayed image last e; only = on_only image last e }

module _ (image : List ℕ) (last : Option Put) (p : Put) where
  write_stands : (i : ℕ) (x : Block) → Stands (looked_at image (Some p)) i x → Stands (looked_at image last) i x ⊎ Is p.block.0 p.bytes i x
  unfolding In
  write_stands i x (inl q) = inl (subst (λ (z : Block). In z (may_stand image last i)) (sym q) (shown_stands image last i))
  write_stands i x (inr h) = go (eqb i p.block.0) refl h
    where
      go : (t : Bool) → eqb i p.block.0 ≡ t → In x (cond t (p.bytes ∷ []) []) → Stands (looked_at image last) i x ⊎ Is p.block.0 p.bytes i x
      go true q (inl s) = inr (eqb-true i p.block.0 q, s)
      go true q (inr s) = absurd s
      go false q s = absurd s

  -- a write that would change its block takes the power
  pub write_torn : p.block.0 < blocks_in image → differs image (Some p) ≡ true → Torn p.block.0 p.bytes (looked_at image last) (looked_at image (Some p))
  write_torn l e = record { count = refl; off = ap not e; within = l; shown = inl refl; stands = write_stands }

  -- one that would not is accepted
  pub write_same : p.block.0 < blocks_in image → differs image last ≡ false → differs image (Some p) ≡ false → Written p.block.0 p.bytes (looked_at image last) (looked_at image (Some p))
  write_same l d e = record { count = refl; was_on = ap not d; on = ap not e; within = l; shown = fun_ext (λ i. go i (eqb i p.block.0) refl); stands = write_stands }
    where
      go : (i : ℕ) (t : Bool) → eqb i p.block.0 ≡ t → block image i ≡ cond t p.bytes (block image i)
      go i true q = ap (block image) (eqb-true i p.block.0 q) ∙ sym (bytes_true p.bytes (block image p.block.0) (true_of (same_bytes p.bytes (block image p.block.0)) e))
      go i false q = refl
