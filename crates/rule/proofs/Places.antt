-- The first place that passes, by leaf, then place.
use Rattle.std.proofs.Common.{◌≡◌, ℕ, zero, suc, ◌+◌, ◌<◌, ◌≤◌, Bool, true, false, cond, ◌⊎◌, List, [], ◌∷◌, ◌++◌, length, get_or, Some, None, Option, sym, refl, ap, ◌∙◌, subst, inl, inr, arith}
use Rattle.std.proofs.lemmas.Bool.{cases_lt}
use Rattle.base.specs.declared.owner.Handle.{Handle}
use Rattle.layout.specs.Format.{Cell, Slot}
use Rattle.rule.specs.Agree.{View, first, Place, places_of, places_over, from, cells_in, good, number}
use Rattle.rule.proofs.Steps.{clash, clash_none, first_append, first_append_none}

abbrev pub at : ℕ → ℕ → Cell → Place
at k p e = record { leaf = k; place = p; cell = e }

-- the cells of leaf k
abbrev pub cells_at : View → Slot → ℕ → List Cell
cells_at v r k = cells_in (v (number r k))

module _ (p : Place → Bool) where
  pub record FirstCell (k i : ℕ) (es : List Cell) (q : Place) : Type 0 where
    pub j : ℕ
    pub inside : j < length es
    pub is : q ≡ at k (i + j) (get_or es j [])
    pub passes : p q ≡ true
    pub before : (m : ℕ) → m < j → p (at k (i + m) (get_or es m [])) ≡ false

  pub cell_first : (k i : ℕ) (es : List Cell) (q : Place) → first p (places_of k i es) ≡ Some q → FirstCell k i es q
  cell_first k i [] q e = clash_none e
  cell_first k i (x ∷ es) q e = go (p (at k i x)) refl e (cell_first k (suc i) es q)
    where
      zeroth : at k (i + 0) x ≡ at k i x
      zeroth = ap (λ (n : ℕ). at k n x) (omega arith)

      go : (b : Bool) → p (at k i x) ≡ b → cond b (Some (at k i x)) (first p (places_of k (suc i) es)) ≡ Some q → (first p (places_of k (suc i) es) ≡ Some q → FirstCell k (suc i) es q) → FirstCell k i (x ∷ es) q
      go true h e rest =
          let s : at k i x ≡ q = cc in
          record { j = 0; inside = omega arith; is = sym s ∙ sym zeroth; passes = subst (λ (z : Place). p z ≡ true) s h; before = λ m l. absurd (omega arith) }
      go false h e rest =
          let w = rest e in
          record {
            j = suc w.j;
            inside = omega (arith, w.inside);
            is = w.is ∙ ap (λ (n : ℕ). at k n (get_or es w.j [])) (omega arith);
            passes = w.passes;
            before = earlier w.j w.before;
          }
        where
          earlier : (j : ℕ) → ((m : ℕ) → m < j → p (at k (suc i + m) (get_or es m [])) ≡ false) → (m : ℕ) → m < suc j → p (at k (i + m) (get_or (x ∷ es) m [])) ≡ false
          earlier j b zero l = ap p zeroth ∙ h
          earlier j b (suc m) l = ap (λ (n : ℕ). p (at k n (get_or es m []))) (omega arith) ∙ b m (omega arith)

  pub cell_none : (k i : ℕ) (es : List Cell) → first p (places_of k i es) ≡ None → (m : ℕ) → m < length es → p (at k (i + m) (get_or es m [])) ≡ false
  cell_none k i [] e m l = absurd (omega arith)
  cell_none k i (x ∷ es) e m l = go (p (at k i x)) refl e (cell_none k (suc i) es) m l
    where
      go : (b : Bool) → p (at k i x) ≡ b → cond b (Some (at k i x)) (first p (places_of k (suc i) es)) ≡ None → (first p (places_of k (suc i) es) ≡ None → (m : ℕ) → m < length es → p (at k (suc i + m) (get_or es m [])) ≡ false) →
          (m : ℕ) → m < suc (length es) → p (at k (i + m) (get_or (x ∷ es) m [])) ≡ false
      go true h e rest m l = clash_none (sym e)
      go false h e rest zero l = ap (λ (n : ℕ). p (at k n x)) (omega arith) ∙ h
      go false h e rest (suc m) l = ap (λ (n : ℕ). p (at k n (get_or es m []))) (omega arith) ∙ rest e m (omega arith)

  module _ (v : View) (h : Handle) (r : Slot) where
    pub record FirstLeaf (i n : ℕ) (q : Place) : Type 0 where
      pub k : ℕ
      pub low : i ≤ k
      pub high : k < i + n
      pub fine : good v h r k ≡ true
      pub here : first p (places_of k 0 (cells_at v r k)) ≡ Some q
      pub before : (m : ℕ) → i ≤ m → m < k → good v h r m ≡ true → first p (places_of m 0 (cells_at v r m)) ≡ None

    NoneThere : ℕ → Type 0
    NoneThere m = good v h r m ≡ true → first p (places_of m 0 (cells_at v r m)) ≡ None

    -- the first leaf has None, or it has the first
    leaf_cases : (k : ℕ) (ys : List Place) (o : Option Place) → first p (cond (good v h r k) (places_of k 0 (cells_at v r k)) [] ++ ys) ≡ o →
        ((good v h r k ≡ true) × (first p (places_of k 0 (cells_at v r k)) ≡ o)) ⊎ (NoneThere k × (first p ys ≡ o))
    unfolding NoneThere
    leaf_cases k ys o e = go (good v h r k) refl e
      where
        go : (b : Bool) → good v h r k ≡ b → first p (cond b (places_of k 0 (cells_at v r k)) [] ++ ys) ≡ o →
            ((good v h r k ≡ true) × (first p (places_of k 0 (cells_at v r k)) ≡ o)) ⊎ (NoneThere k × (first p ys ≡ o))
        go true h e = elim (first_append p (places_of k 0 (cells_at v r k)) ys) [ inl s ↦ inl (h, sym s ∙ e) | inr s ↦ inr (λ z. s.0, sym s.1 ∙ e) ]
        go false h e = inr (λ z. clash (sym h ∙ z), e)

    pub leaf_first : (i n : ℕ) (q : Place) → first p (places_over v h r (from i n)) ≡ Some q → FirstLeaf i n q
    unfolding NoneThere
    leaf_first i zero q e = clash_none e
    leaf_first i (suc n) q e = go (leaf_cases i (places_over v h r (from (suc i) n)) (Some q) e) (leaf_first (suc i) n q)
      where
        go : ((good v h r i ≡ true) × (first p (places_of i 0 (cells_at v r i)) ≡ Some q)) ⊎ (NoneThere i × (first p (places_over v h r (from (suc i) n)) ≡ Some q)) →
            (first p (places_over v h r (from (suc i) n)) ≡ Some q → FirstLeaf (suc i) n q) → FirstLeaf i (suc n) q
        go (inl w) rest = record { k = i; low = omega arith; high = omega arith; fine = w.0; here = w.1; before = λ m a b. absurd (omega arith) }
        go (inr w) rest =
            let l = rest w.1 in
            record { k = l.k; low = omega (arith, l.low); high = omega (arith, l.high); fine = l.fine; here = l.here; before = λ m a b. earlier m l.k l.before a b }
          where
            earlier : (m k : ℕ) → ((m : ℕ) → suc i ≤ m → m < k → NoneThere m) → i ≤ m → m < k → NoneThere m
            earlier m k b a c = elim (cases_lt i m) [ inl d ↦ b m d c | inr d ↦ subst (λ (x : ℕ). NoneThere x) (omega arith) w.0 ]

    pub leaf_none : (i n : ℕ) → first p (places_over v h r (from i n)) ≡ None → (m : ℕ) → i ≤ m → m < i + n → good v h r m ≡ true → first p (places_of m 0 (cells_at v r m)) ≡ None
    unfolding NoneThere
    leaf_none i zero e m a b = absurd (omega arith)
    leaf_none i (suc n) e m a b = go (good v h r i) refl e (leaf_none (suc i) n) (cases_lt i m)
      where
        go : (t : Bool) → good v h r i ≡ t → first p (cond t (places_of i 0 (cells_at v r i)) [] ++ places_over v h r (from (suc i) n)) ≡ None →
            (first p (places_over v h r (from (suc i) n)) ≡ None → (m : ℕ) → suc i ≤ m → m < suc i + n → NoneThere m) → (i < m) ⊎ (m ≤ i) → NoneThere m
        go true f e rest (inl c) = rest (first_append_none p (places_of i 0 (cells_at v r i)) (places_over v h r (from (suc i) n)) e).1 m c (omega arith)
        go true f e rest (inr c) = subst (λ (x : ℕ). NoneThere x) (omega arith) (λ z. (first_append_none p (places_of i 0 (cells_at v r i)) (places_over v h r (from (suc i) n)) e).0)
        go false f e rest (inl c) = rest e m c (omega arith)
        go false f e rest (inr c) = subst (λ (x : ℕ). NoneThere x) (omega arith) (λ z. clash (sym f ∙ z))
