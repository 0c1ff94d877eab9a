-- The leaves of an edition, by their place in its list.
use Rattle.std.proofs.Common.{◌≡◌, ℕ, ◌<◌, ◌≤◌, ◌↔◌, List, Some, Bool, IsTrue, length, get_or, sym, ap, ◌∙◌, Vec, vec_items}
use Rattle.std.proofs.lemmas.Option.{slice_get-get_or, slice_get_past, none-some, same_Some}
use Rattle.std.specs.Option.{option_map}
use Rattle.std.specs.declared.alloc.Global.{Global}
use Rattle.choir.specs.Classes.{leaf_of}

module _ (leaves : List (Vec ℕ Global)) (k : ℕ) where
  here : (v : Vec ℕ Global) → k < length leaves → v ≡ get_or leaves k v → leaf_of leaves k ≡ Some v.items
  here v l e = ap (option_map vec_items) (slice_get-get_or leaves k v l ∙ ap Some (sym e))

  -- within the list a leaf is told by comparing its bytes
  pub leaf_here : (v : Vec ℕ Global) (x : List ℕ) (b : Bool) → k < length leaves → v ≡ get_or leaves k v → (IsTrue b ↔ (v.items ≡ x)) → IsTrue b ↔ (leaf_of leaves k ≡ Some x)
  leaf_here v x b l e same =
      (λ t. here v l e ∙ ap Some (same.0 t), λ is. same.1 (same_Some _ _ (sym (here v l e) ∙ is)))

  pub no_leaf : (x : List ℕ) → length leaves ≤ k → leaf_of leaves k ≡ Some x → ⊥
  no_leaf x l e = none-some x (sym (ap (option_map vec_items) (slice_get_past leaves k l)) ∙ e)
