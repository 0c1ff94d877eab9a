-- Taking executable tests apart.
use Rattle.std.proofs.Common.{◌≡◌, ℕ, Bool, true, false, cond, eqb, ◌⊎◌, List, [], ◌∷◌, ◌++◌, Some, None, Option, sym, refl, ap, subst, inl, inr, arith}
use Rattle.std.proofs.lemmas.Bool.{and_parts, and_from, eqb-true, eq-eqb}
use Rattle.base.specs.declared.owner.Kind.{Kind}
use Rattle.base.specs.declared.owner.Kind.TheVariants.{File, Folder}
use Rattle.base.specs.declared.owner.Handle.{Handle}
use Rattle.base.specs.declared.owner.Back.{Back}
use Rattle.layout.specs.Format.{Cell, Content, blank, cover, slotted, file_body, folder_body, ill_formed}
use Rattle.rule.specs.Agree.{same_handle, same_back, same_bytes, names, first, some_is, given}
use Rattle.rule.specs.Meaning.{Body}

pub clash : {A : Type 0} → false ≡ true → A
clash e = let z : ◌≡◌ {A = ℕ} 0 1 = cc in absurd (omega arith)

pub clash_none : {A B : Type 0} {a : B} → None ≡ Some a → A
clash_none e = let z : ◌≡◌ {A = ℕ} 0 1 = cc in absurd (omega arith)

pub given_some : {A B : Type 0} (o : Option A) (k : A → Option B) (b : B) → given o k ≡ Some b → (a : A) × (o ≡ Some a) × (k a ≡ Some b)
given_some None k b e = clash_none e
given_some (Some a) k b e = (a, refl, e)

pub some_is_true : {A : Type 0} (o : Option A) (p : A → Bool) → some_is o p ≡ true → (a : A) × (o ≡ Some a) × (p a ≡ true)
some_is_true None p e = clash e
some_is_true (Some a) p e = (a, refl, e)

pub cond_some : {A : Type 0} (b : Bool) (x y : A) → cond b (Some x) None ≡ Some y → (b ≡ true) × (x ≡ y)
cond_some true x y e = (refl, cc)
cond_some false x y e = clash_none e

pub handle_true : (a b : Handle) → same_handle a b ≡ true → a ≡ b
handle_true a b e =
    let h = and_parts (eqb a.slot.0 b.slot.0) (eqb a.identity.0 b.identity.0) e in
    λ i. record { slot = record { 0 = eqb-true a.slot.0 b.slot.0 h.0 i }; identity = record { 0 = eqb-true a.identity.0 b.identity.0 h.1 i } }

pub handle_same : (a b : Handle) → a ≡ b → same_handle a b ≡ true
handle_same a b e = and_from _ _ (eq-eqb a.slot.0 b.slot.0 (ap (λ (h : Handle). h.slot.0) e)) (eq-eqb a.identity.0 b.identity.0 (ap (λ (h : Handle). h.identity.0) e))

pub back_true : (a b : Back) → same_back a b ≡ true → a ≡ b
back_true a b e =
    let h = and_parts (same_handle a.owner b.owner) (eqb a.leaf.0 b.leaf.0) e in
    λ i. record { owner = handle_true a.owner b.owner h.0 i; leaf = record { 0 = eqb-true a.leaf.0 b.leaf.0 h.1 i } }

pub back_same : (a b : Back) → a ≡ b → same_back a b ≡ true
back_same a b e = and_from _ _ (handle_same a.owner b.owner (ap (λ (h : Back). h.owner) e)) (eq-eqb a.leaf.0 b.leaf.0 (ap (λ (h : Back). h.leaf.0) e))

pub bytes_true : (a b : List ℕ) → same_bytes a b ≡ true → a ≡ b
bytes_true [] [] e = refl
bytes_true [] (y ∷ ys) e = clash e
bytes_true (x ∷ xs) [] e = clash e
bytes_true (x ∷ xs) (y ∷ ys) e =
    let h = and_parts (eqb x y) (same_bytes xs ys) e in
    λ i. eqb-true x y h.0 i ∷ bytes_true xs ys h.1 i

pub bytes_refl : (a : List ℕ) → same_bytes a a ≡ true
bytes_refl [] = refl
bytes_refl (x ∷ xs) = and_from _ _ (eq-eqb x x refl) (bytes_refl xs)

pub names_true : (d : Kind) (b : Back) (c : Content) → names d b c ≡ true → Body d b c
names_true File b (file_body a x) e = inl (x, refl, ap (λ (k : Back). file_body k x) (sym (back_true b a e)))
names_true Folder b (folder_body a es) e = inr (es, refl, ap (λ (k : Back). folder_body k es) (sym (back_true b a e)))
names_true File b (folder_body a es) e = clash e
names_true Folder b (file_body a x) e = clash e
names_true d b blank e = clash e
names_true d b (cover g) e = clash e
names_true d b (slotted r) e = clash e
names_true d b ill_formed e = clash e

pub names_file : (b : Back) (c : Content) (x : List ℕ) → c ≡ file_body b x → names File b c ≡ true
names_file b c x e = subst (λ (z : Content). names File b z ≡ true) (sym e) (back_same b b refl)

pub names_folder : (b : Back) (c : Content) (es : List Cell) → c ≡ folder_body b es → names Folder b c ≡ true
names_folder b c es e = subst (λ (z : Content). names Folder b z ≡ true) (sym e) (back_same b b refl)

pub names_from : (d : Kind) (b : Back) (c : Content) → Body d b c → names d b c ≡ true
names_from d b c (inl (x, k, e)) = subst (λ (z : Kind). names z b c ≡ true) (sym k) (names_file b c x e)
names_from d b c (inr (x, k, e)) = subst (λ (z : Kind). names z b c ≡ true) (sym k) (names_folder b c x e)

-- ---- the first that passes

module _ {A : Type 0} (p : A → Bool) where
  pub first_passes : (xs : List A) (a : A) → first p xs ≡ Some a → p a ≡ true
  first_passes [] a e = clash_none e
  first_passes (x ∷ xs) a e = go (p x) refl (first_passes xs a) e
    where
      go : (b : Bool) → p x ≡ b → (first p xs ≡ Some a → p a ≡ true) → cond b (Some x) (first p xs) ≡ Some a → p a ≡ true
      go true h k e = let s : x ≡ a = cc in subst (λ (z : A). p z ≡ true) s h
      go false h k e = k e

  pub first_append : (xs ys : List A) → (first p (xs ++ ys) ≡ first p xs) ⊎ ((first p xs ≡ None) × (first p (xs ++ ys) ≡ first p ys))
  first_append [] ys = inr (refl, refl)
  first_append (x ∷ xs) ys = go (p x) (first_append xs ys)
    where
      go : (b : Bool) → (first p (xs ++ ys) ≡ first p xs) ⊎ ((first p xs ≡ None) × (first p (xs ++ ys) ≡ first p ys)) →
          (cond b (Some x) (first p (xs ++ ys)) ≡ cond b (Some x) (first p xs)) ⊎ ((cond b (Some x) (first p xs) ≡ None) × (cond b (Some x) (first p (xs ++ ys)) ≡ first p ys))
      go true h = inl refl
      go false h = h

  pub first_append_none : (xs ys : List A) → first p (xs ++ ys) ≡ None → (first p xs ≡ None) × (first p ys ≡ None)
  first_append_none [] ys e = (refl, e)
  first_append_none (x ∷ xs) ys e = go (p x) e (first_append_none xs ys)
    where
      go : (b : Bool) → cond b (Some x) (first p (xs ++ ys)) ≡ None → (first p (xs ++ ys) ≡ None → (first p xs ≡ None) × (first p ys ≡ None)) → (cond b (Some x) (first p xs) ≡ None) × (first p ys ≡ None)
      go true e rest = clash_none (sym e)
      go false e rest = rest e
