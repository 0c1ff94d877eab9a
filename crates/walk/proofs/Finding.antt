-- The search for a name, cell by cell and leaf by leaf.
use lib.Pointwise.{pointwise}
use Rattle.std.proofs.Common.{◌≡◌, ℕ, suc, ◌+◌, ◌-◌, ◌<◌, Bool, true, false, cond, not, ◌&&◌, eqb, ltb, List, [], ◌∷◌, ◌++◌, take, Some, None, Decides, Option, is_some, sym, refl, ap, ◌∙◌, subst, inl, inr, add-one, arith}
use Rattle.std.proofs.lemmas.Bool.{cases_Bool, cond-true, cond-false, and_from, and_parts}
use Rattle.base.specs.declared.owner.Kind.TheVariants.{File, Folder}
use Rattle.base.specs.declared.owner.Handle.{Handle}
use Rattle.layout.specs.Format.{Geometry, Name, Cell, Slot, Entry, entry, entry_of, back}
use Rattle.rule.specs.Agree.{Shown, View, seen, Place, first, has_name, agrees, good, number, cells_in, places_of, places_over, from, some_is, given, slot_at, same_handle, same_bytes, names, count}
use Rattle.rule.specs.Meaning.{Body}
use Rattle.rule.proofs.Steps.{clash, clash_none, bytes_true, bytes_refl, first_append, cond_some, names_true}
use Rattle.layout.specs.Head.{cells}
use Rattle.walk.specs.Copies.{child_slot, folder_bytes, Holds, LeafIs}
use Rattle.walk.specs.declared.leaf_copy.LeafCopy.{LeafCopy}
use Rattle.walk.specs.declared.entry.Found.{Found}
use Rattle.walk.specs.Finding.{hits, Leads, FirstIs, first_hit, leaf_places}

pub bytes_decided : (a b : List ℕ) (r : Bool) → Decides r (a ≡ b) → r ≡ same_bytes a b
bytes_decided a b true d = sym (subst (λ (x : List ℕ). same_bytes a x ≡ true) (d.0 refl) (bytes_refl a))
bytes_decided a b false d = elim (cases_Bool (same_bytes a b)) [ inl t ↦ clash (d.1 (bytes_true a b t)) | inr t ↦ sym t ]

pointwise_bytes : (a b : List ℕ) → pointwise eqb a b ≡ same_bytes a b
pointwise_bytes [] [] = refl
pointwise_bytes [] (y ∷ ys) = refl
pointwise_bytes (x ∷ xs) [] = refl
pointwise_bytes (x ∷ xs) (y ∷ ys) = ap (λ (b : Bool). eqb x y && b) (pointwise_bytes xs ys)

-- names that `!=` does not tell apart
pub same_from_ne : (a b : List ℕ) → false ≡ not (pointwise eqb a b) → same_bytes a b ≡ true
same_from_ne a b e = go (pointwise eqb a b) e (pointwise_bytes a b)
  where
    go : (p : Bool) → false ≡ not p → p ≡ same_bytes a b → same_bytes a b ≡ true
    go true e q = sym q
    go false e q = clash e

-- one list after another
pub first_past : {A : Type 0} (p : A → Bool) (xs ys : List A) → first p xs ≡ None → first p (xs ++ ys) ≡ first p ys
first_past p [] ys e = refl
first_past p (x ∷ xs) ys e = go (p x) e (first_past p xs ys)
  where
    go : (b : Bool) → cond b (Some x) (first p xs) ≡ None → (first p xs ≡ None → first p (xs ++ ys) ≡ first p ys) → cond b (Some x) (first p (xs ++ ys)) ≡ first p ys
    go true e rest = clash_none (sym e)
    go false e rest = rest e

pub first_here : {A : Type 0} (p : A → Bool) (xs ys : List A) (a : A) → first p xs ≡ Some a → first p (xs ++ ys) ≡ Some a
first_here p xs ys a e = elim (first_append p xs ys) [ inl s ↦ s ∙ e | inr s ↦ clash_none (sym s.0 ∙ e) ]

no_kind : {A : Type 0} → File ≡ Folder → A
no_kind e = let z : ◌≡◌ {A = ℕ} 0 1 = cc in absurd (omega arith)

-- the cells of a good leaf of the folder f, whose slot is r, as copied
pub leaf_cells : (v : View) (f : Handle) (r : Slot) (k : ℕ) (l : LeafCopy) → r.kind ≡ Folder → good v f r k ≡ true → Holds l (v (number r k)) → cells (folder_bytes l) ≡ cells_in (v (number r k))
leaf_cells v f r k l d e h =
    go (names_true r.kind (back f k) (v (number r k)) (and_parts (ltb k (count r)) (names r.kind (back f k) (v (number r k))) e).1)
  where
    go : Body r.kind (back f k) (v (number r k)) → cells (folder_bytes l) ≡ cells_in (v (number r k))
    go (inl (x, file, is)) = no_kind (sym file ∙ d)
    go (inr (es, folder, is)) =
        let w = subst (Holds l) is h in
        ap (λ (u : ℕ). cells (take u l.bytes)) (sym w.0) ∙ w.1 ∙ ap cells_in (sym is)

module _ (g : Geometry) (v : View) (f : Handle) (n : Name) where
  -- the child's slot is there exactly when the entry agrees
  child_agrees : (m : Name) (c : Handle) (r : Slot) → child_slot g v f c ≡ Some r → agrees g v f (entry m c) ≡ true
  child_agrees m c r e = go (slot_at g v c.slot.0) e
    where
      go : (o : Option Slot) → given o (λ r. cond (eqb r.identity c.identity.0 && same_handle r.parent f) (Some r) None) ≡ Some r → some_is o (λ r. eqb r.identity c.identity.0 && same_handle r.parent f) ≡ true
      go None e = clash_none e
      go (Some s) e = (cond_some (eqb s.identity c.identity.0 && same_handle s.parent f) s r e).0

  pub leads_from : (e : Cell) (m : Name) (c : Handle) (r : Slot) → entry m c ≡ entry_of g e → same_bytes n m ≡ true → child_slot g v f c ≡ Some r → Leads g v f n e c r
  leads_from e m c r q s k = record {
    hit = subst (λ (x : Entry). (has_name n x && agrees g v f x) ≡ true) q (and_from (same_bytes n m) (agrees g v f (entry m c)) s (child_agrees m c r k));
    here = sym q ∙ ap (λ (x : Name). entry x c) (sym (bytes_true n m s));
    child = k;
  }

  -- leaf by leaf, of the folder whose slot is r
  module _ (r : Slot) where
    pub leaf_bad : (k : ℕ) → good v f r k ≡ false → first_hit g v f n (leaf_places v f r k) ≡ None
    leaf_bad k e = ap (first_hit g v f n) (cond-false (good v f r k) (places_of k 0 (cells_in (v (number r k)))) [] e)

    over_more : (k c : ℕ) → k < c → places_over v f r (from k (c - k)) ≡ leaf_places v f r k ++ places_over v f r (from (k + 1) (c - (k + 1)))
    over_more k c l =
        let m : c - k ≡ suc (c - (k + 1)) = omega arith in
        ap (λ (m : ℕ). places_over v f r (from k m)) m
        ∙ ap (λ (j : ℕ). leaf_places v f r k ++ places_over v f r (from j (c - (k + 1)))) (sym (add-one k))

    pub leaves_more : (k c : ℕ) → k < c → first_hit g v f n (leaf_places v f r k) ≡ None →
        first_hit g v f n (places_over v f r (from k (c - k))) ≡ first_hit g v f n (places_over v f r (from (k + 1) (c - (k + 1))))
    leaves_more k c l e = ap (first_hit g v f n) (over_more k c l) ∙ first_past (λ (q : Place). hits g v f n q.cell) (leaf_places v f r k) (places_over v f r (from (k + 1) (c - (k + 1)))) e

    pub leaves_found : (k c : ℕ) (q : Place) → k < c → first_hit g v f n (leaf_places v f r k) ≡ Some q →
        first_hit g v f n (places_over v f r (from k (c - k))) ≡ Some q
    leaves_found k c q l e = ap (first_hit g v f n) (over_more k c l) ∙ first_here (λ (q : Place). hits g v f n q.cell) (leaf_places v f r k) (places_over v f r (from (k + 1) (c - (k + 1)))) q e

    -- a file has no entries
    pub file_none : r.kind ≡ File → (ks : List ℕ) → first_hit g v f n (places_over v f r ks) ≡ None
    file_none d [] = refl
    file_none d (k ∷ ks) = first_past (λ (q : Place). hits g v f n q.cell) (leaf_places v f r k) (places_over v f r ks) (ap (first_hit g v f n) (no_cells (good v f r k) refl)) ∙ file_none d ks
      where
        go : Body r.kind (back f k) (v (number r k)) → cells_in (v (number r k)) ≡ []
        go (inl (x, file, is)) = ap cells_in is
        go (inr (es, folder, is)) = no_kind (sym d ∙ folder)

        no_cells : (b : Bool) → good v f r k ≡ b → cond b (places_of k 0 (cells_in (v (number r k)))) [] ≡ []
        no_cells false e = refl
        no_cells true e = ap (places_of k 0) (go (names_true r.kind (back f k) (v (number r k)) (and_parts (ltb k (count r)) (names r.kind (back f k) (v (number r k))) e).1))

-- a step of each search, at the answer of what it calls
module _ (g : Geometry) (v : View) (f : Handle) (n : Name) (s : Option Place) where
  module _ (r : Slot) (k c : ℕ) (inv : s ≡ first_hit g v f n (places_over v f r (from k (c - k)))) (l : k < c) where
    pub leaf_found : (o : Option Found) → true ≡ is_some o → FirstIs g v f n (first_hit g v f n (leaf_places v f r k)) o → FirstIs g v f n s o
    leaf_found None e w = clash (sym e)
    leaf_found (Some x) e w = (w.0, inv ∙ leaves_found g v f n r k c w.0 l w.1, w.2)

    pub leaf_next : (o : Option Found) → false ≡ is_some o → FirstIs g v f n (first_hit g v f n (leaf_places v f r k)) o → s ≡ first_hit g v f n (places_over v f r (from (k + 1) (c - (k + 1))))
    leaf_next None e w = inv ∙ leaves_more g v f n r k c l w
    leaf_next (Some x) e w = clash e

-- the search in a good leaf, read after `was` was shown
pub leaf_says : (g : Geometry) (was shown : Shown) (f : Handle) (n : Name) (r : Slot) (k : ℕ) (c : Option LeafCopy) (l : LeafCopy) (cs : List Cell) → cs ≡ cells (folder_bytes l) → shown ≡ was → r.kind ≡ Folder → c ≡ Some l → LeafIs (seen g was) f r k c → (o : Option Found) →
    FirstIs g (seen g shown) f n (first_hit g (seen g shown) f n (places_of k 0 cs)) o → FirstIs g (seen g was) f n (first_hit g (seen g was) f n (leaf_places (seen g was) f r k)) o
leaf_says g was shown f n r k c l cs q e d is w o x =
    let y = subst (LeafIs (seen g was) f r k) is w in
    let same = cond-true (good (seen g was) f r k) _ _ y.0 ∙ ap (places_of k 0) (sym (q ∙ leaf_cells (seen g was) f r k l d y.0 y.1)) in
    subst (λ (qs : List Place). FirstIs g (seen g was) f n (first_hit g (seen g was) f n qs) o) (sym same)
    (subst (λ (s : Shown). FirstIs g (seen g s) f n (first_hit g (seen g s) f n (places_of k 0 cs)) o) e x)
