-- A walk up a partial function below n ends within n steps, if it ends.
use Rattle.std.proofs.Common.{◌≡◌, ℕ, zero, suc, ◌+◌, ◌<◌, ◌≤◌, Bool, true, false, cond, eqb, ◌⊎◌, Some, Option, sym, refl, ap, ◌∙◌, subst, inl, inr, arith}
use Rattle.std.proofs.lemmas.Bool.{cases_lt, cond-true, eqb-true, eq-eqb}
use Rattle.rule.specs.Agree.{some_is, climbs}
use Rattle.rule.proofs.Steps.{clash, some_is_true}

-- how many below n pass
abbrev tally : (ℕ → Bool) → ℕ → ℕ
tally p zero = 0
tally p (suc n) = cond (p n) 1 0 + tally p n

one_at_most : (b : Bool) → cond b 1 0 ≤ 1
one_at_most true = omega arith
one_at_most false = omega arith

tally_most : (p : ℕ → Bool) (n : ℕ) → tally p n ≤ n
tally_most p zero = omega arith
tally_most p (suc n) = omega (arith, one_at_most (p n), tally_most p n)

one_grows : (a b : Bool) → (a ≡ true → b ≡ true) → cond a 1 0 ≤ cond b 1 0
one_grows true true h = omega arith
one_grows true false h = clash (h refl)
one_grows false true h = omega arith
one_grows false false h = omega arith

tally_grows : (p q : ℕ → Bool) (n : ℕ) → ((s : ℕ) → p s ≡ true → q s ≡ true) → tally p n ≤ tally q n
tally_grows p q zero h = omega arith
tally_grows p q (suc n) h = omega (arith, one_grows (p n) (q n) (h n), tally_grows p q n h)

-- below n, q passes no more than p, or more pass q
Same : (p q : ℕ → Bool) → ℕ → Type 0
Same p q n = (s : ℕ) → s < n → q s ≡ true → p s ≡ true

split_last : (s n : ℕ) → s < suc n → (s < n) ⊎ (s ≡ n)
split_last s n l = elim (cases_lt s n) [ inl d ↦ inl d | inr d ↦ inr (omega arith) ]

grows_or_not : (p q : ℕ → Bool) (n : ℕ) → ((s : ℕ) → p s ≡ true → q s ≡ true) → Same p q n ⊎ (suc (tally p n) ≤ tally q n)
unfolding Same
grows_or_not p q zero h = inl (λ s l e. absurd (omega arith))
grows_or_not p q (suc n) h = go (p n) (q n) refl refl (grows_or_not p q n h)
  where
    last : (q n ≡ true → p n ≡ true) → Same p q n → Same p q (suc n)
    last k same s l e = elim (split_last s n l) [ inl d ↦ same s d e | inr d ↦ subst (λ (x : ℕ). p x ≡ true) (sym d) (k (subst (λ (x : ℕ). q x ≡ true) d e)) ]

    go : (a b : Bool) → p n ≡ a → q n ≡ b → Same p q n ⊎ (suc (tally p n) ≤ tally q n) → Same p q (suc n) ⊎ (suc (cond (p n) 1 0 + tally p n) ≤ cond (q n) 1 0 + tally q n)
    go a b ea eb (inr m) = inr (omega (arith, one_grows (p n) (q n) (h n), m))
    go true b ea eb (inl same) = inl (last (λ e. ea) same)
    go false false ea eb (inl same) = inl (last (λ e. clash (sym eb ∙ e)) same)
    go false true ea eb (inl same) =
        let a : ◌≡◌ {A = ℕ} (cond (p n) 1 0) 0 = ap (λ (x : Bool). cond {A = ℕ} x 1 0) ea in
        let b : ◌≡◌ {A = ℕ} (cond (q n) 1 0) 1 = ap (λ (x : Bool). cond {A = ℕ} x 1 0) eb in
        inr (omega (arith, tally_grows p q n h, a, b))

pub climbs_root : (up : ℕ → Option ℕ) (n s : ℕ) → s ≡ 0 → climbs up n s ≡ true
climbs_root up zero s e = eq-eqb s 0 e
climbs_root up (suc n) s e = cond-true (eqb s 0) true _ (eq-eqb s 0 e)

pub climbs_up : (up : ℕ → Option ℕ) (n s t : ℕ) → up s ≡ Some t → climbs up n t ≡ true → climbs up (suc n) s ≡ true
climbs_up up n s t e h = go (eqb s 0)
  where
    go : (b : Bool) → cond b true (some_is (up s) (climbs up n)) ≡ true
    go true = refl
    go false = ap (λ (o : Option ℕ). some_is o (climbs up n)) e ∙ h

pub climbs_parts : (up : ℕ → Option ℕ) (n s : ℕ) → climbs up (suc n) s ≡ true → (s ≡ 0) ⊎ ((t : ℕ) × (up s ≡ Some t) × (climbs up n t ≡ true))
climbs_parts up n s = go (eqb s 0) refl
  where
    go : (b : Bool) → eqb s 0 ≡ b → cond b true (some_is (up s) (climbs up n)) ≡ true → (s ≡ 0) ⊎ ((t : ℕ) × (up s ≡ Some t) × (climbs up n t ≡ true))
    go true e h = inl (eqb-true s 0 e)
    go false e h = inr (some_is_true (up s) (climbs up n) h)

climbs_more : (up : ℕ → Option ℕ) (n s : ℕ) → climbs up n s ≡ true → climbs up (suc n) s ≡ true
climbs_more up zero s h = climbs_root up 1 s (eqb-true s 0 h)
climbs_more up (suc n) s h = elim (climbs_parts up n s h) [ inl e ↦ climbs_root up (suc (suc n)) s e | inr w ↦ climbs_up up (suc n) s w.0 w.1 (climbs_more up n w.0 w.2) ]

module _ (up : ℕ → Option ℕ) (top : ℕ) (below : (s t : ℕ) → up s ≡ Some t → t < top) where
  steady : (n : ℕ) → Same (climbs up n) (climbs up (suc n)) top → Same (climbs up (suc n)) (climbs up (suc (suc n))) top
  unfolding Same
  steady n h s l e = elim (climbs_parts up (suc n) s e) [ inl z ↦ climbs_root up (suc n) s z | inr w ↦ climbs_up up n s w.0 w.1 (h w.0 (below s w.0 w.1) w.2) ]

  steady_or_many : (n : ℕ) → Same (climbs up n) (climbs up (suc n)) top ⊎ (suc n ≤ tally (climbs up (suc n)) top)
  steady_or_many zero = elim (grows_or_not (climbs up 0) (climbs up 1) top (climbs_more up 0)) [ inl h ↦ inl h | inr h ↦ inr (omega arith) ]
  steady_or_many (suc n) = elim (steady_or_many n) [
    | inl h ↦ inl (steady n h)
    | inr m ↦ elim (grows_or_not (climbs up (suc n)) (climbs up (suc (suc n))) top (climbs_more up (suc n))) [ inl h ↦ inl h | inr h ↦ inr (omega arith) ]
  ]

  at_top : Same (climbs up top) (climbs up (suc top)) top
  at_top = elim (steady_or_many top) [ inl h ↦ h | inr m ↦ absurd (omega (arith, tally_most (climbs up (suc top)) top)) ]

  pub climbs_within : (m s : ℕ) → s < top → climbs up m s ≡ true → climbs up top s ≡ true
  unfolding Same
  climbs_within zero s l h = climbs_root up top s (eqb-true s 0 h)
  climbs_within (suc m) s l h = elim (climbs_parts up m s h) [
    | inl z ↦ climbs_root up top s z
    | inr w ↦ at_top s l (climbs_up up top s w.0 w.1 (climbs_within m w.0 (below s w.0 w.1) w.2))
  ]
