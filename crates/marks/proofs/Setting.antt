-- What marks say after one was set or taken back.
use Rattle.std.proofs.Common.{◌≡◌, ℕ, ◌<◌, ◌≤◌, Bool, true, false, cond, ◌&&◌, eqb, List, length, get_or, set, None, Option, sym, refl, ap, ◌∙◌, inl, inr, arith}
use Rattle.std.proofs.lemmas.List.{length-set, get_or-set_same, get_or-set_other, get_or_past, set_past}
use Rattle.std.proofs.lemmas.Bool.{cases_eq, cases_lt, cond-true, cond-false, eq-eqb, ne_eqb}
use Rattle.base.specs.declared.owner.Back.{Back}
use Rattle.marks.specs.declared.mark.SlotMark.{SlotMark}
use Rattle.marks.specs.declared.mark.Marks.{Marks}
use Rattle.marks.specs.Marks.{Whole, with_slot, with_body, is_leaf, released}

put_at : {A : Type 0} (xs : List A) (s i : ℕ) (x d : A) → s < length xs → get_or (set xs s x) i d ≡ cond (eqb i s) x (get_or xs i d)
put_at xs s i x d l = elim (cases_eq i s) [
  | inl e ↦ ap (λ (n : ℕ). get_or (set xs s x) n d) e ∙ get_or-set_same xs s x d l ∙ sym (cond-true (eqb i s) x (get_or xs i d) (eq-eqb i s e))
  | inr ne ↦ get_or-set_other xs s i x d ne ∙ sym (cond-false (eqb i s) x (get_or xs i d) (ne_eqb i s ne))
]

-- past the end there is no mark to take back
cleared_at : {A : Type 0} (xs : List (Option A)) (s i : ℕ) → get_or (set xs s None) i None ≡ cond (eqb i s) None (get_or xs i None)
cleared_at xs s i = elim (cases_lt s (length xs)) [
  | inl l ↦ put_at xs s i None None l
  | inr h ↦ ap (λ ys. get_or ys i None) (set_past xs s None h) ∙ past h
]
  where
    past : length xs ≤ s → get_or xs i None ≡ cond (eqb i s) None (get_or xs i None)
    past h = elim (cases_eq i s) [
      | inl e ↦ get_or_past xs i None (omega (arith, e, h)) ∙ sym (cond-true (eqb i s) None (get_or xs i None) (eq-eqb i s e))
      | inr ne ↦ sym (cond-false (eqb i s) None (get_or xs i None) (ne_eqb i s ne))
    ]

module _ (ms : Marks) where
  pub slot_put : (s i : ℕ) (x : Option SlotMark) → Whole ms → s < 256 → get_or (with_slot ms s x).slots i None ≡ cond (eqb i s) x (get_or ms.slots i None)
  slot_put s i x w l = put_at ms.slots s i x None (omega (arith, w.slots))

  pub body_put : (b i : ℕ) (x : Option Back) → Whole ms → b < 4096 → get_or (with_body ms b x).bodies i None ≡ cond (eqb i b) x (get_or ms.bodies i None)
  body_put b i x w l = put_at ms.bodies b i x None (omega (arith, w.bodies))

  pub slot_cleared : (s i : ℕ) → get_or (with_slot ms s None).slots i None ≡ cond (eqb i s) None (get_or ms.slots i None)
  slot_cleared s i = cleared_at ms.slots s i

  pub body_cleared : (b i : ℕ) → get_or (with_body ms b None).bodies i None ≡ cond (eqb i b) None (get_or ms.bodies i None)
  body_cleared b i = cleared_at ms.bodies b i

  pub released_slots : (b : ℕ) (c : Back) → (released ms b c).slots ≡ ms.slots
  released_slots b c = go (is_leaf ms b c)
    where
      go : (t : Bool) → (cond t (with_body ms b None) ms).slots ≡ ms.slots
      go true = refl
      go false = refl

  pub body_released : (b i : ℕ) (c : Back) → get_or (released ms b c).bodies i None ≡ cond (is_leaf ms b c && eqb i b) None (get_or ms.bodies i None)
  body_released b i c = go (is_leaf ms b c)
    where
      go : (t : Bool) → get_or (cond t (with_body ms b None) ms).bodies i None ≡ cond (t && eqb i b) None (get_or ms.bodies i None)
      go true = cleared_at ms.bodies b i
      go false = refl

  pub whole_slot : (s : ℕ) (x : Option SlotMark) → Whole ms → Whole (with_slot ms s x)
  whole_slot s x w = record { slots = length-set ms.slots s x ∙ w.slots; bodies = w.bodies }

  pub whole_body : (b : ℕ) (x : Option Back) → Whole ms → Whole (with_body ms b x)
  whole_body b x w = record { slots = w.slots; bodies = length-set ms.bodies b x ∙ w.bodies }

  pub whole_released : (b : ℕ) (c : Back) → Whole ms → Whole (released ms b c)
  whole_released b c w = go (is_leaf ms b c)
    where
      go : (t : Bool) → Whole (cond t (with_body ms b None) ms)
      go true = whole_body b None w
      go false = w
