-- The first that is free, from a cursor on and round.
use Rattle.std.proofs.Common.{◌≡◌, ℕ, zero, suc, ◌+◌, ◌-◌, ◌<◌, ◌≤◌, Bool, true, false, cond, not, ◌⊎◌, Some, None, sym, refl, ◌∙◌, subst, inl, inr, arith}
use Rattle.std.proofs.lemmas.Bool.{cases_lt, not-true, not-false, not_from_true}
use Rattle.layout.specs.Format.{Geometry}
use Rattle.rule.specs.Agree.{View, first, from, round, within, reached, held, free_slot, free_body}
use Rattle.rule.specs.Meaning.{Passed, Next, FreeSlot, FreeBody, FreeSlotIsNext, FreeBodyIsNext, NoSlotFree, NoBodyFree}
use Rattle.rule.proofs.Steps.{clash, clash_none, first_append, first_append_none}
use Rattle.rule.proofs.Walks.{climbs_root}
use Rattle.rule.proofs.Means.{unreached, unheld}

module _ (p : ℕ → Bool) where
  record FirstFrom (i n b : ℕ) : Type 0 where
    pub low : i ≤ b
    pub high : b < i + n
    pub passes : p b ≡ true
    pub before : (x : ℕ) → i ≤ x → x < b → p x ≡ false

  from_first : (i n b : ℕ) → first p (from i n) ≡ Some b → FirstFrom i n b
  from_first i zero b e = clash_none e
  from_first i (suc n) b e = go (p i) refl e (from_first (suc i) n b)
    where
      go : (t : Bool) → p i ≡ t → cond t (Some i) (first p (from (suc i) n)) ≡ Some b → (first p (from (suc i) n) ≡ Some b → FirstFrom (suc i) n b) → FirstFrom i (suc n) b
      go true h e rest =
          let s : i ≡ b = cc in
          record { low = omega (arith, s); high = omega (arith, s); passes = subst (λ (z : ℕ). p z ≡ true) s h; before = λ x a l. absurd (omega (arith, s)) }
      go false h e rest =
          let w = rest e in
          record { low = omega (arith, w.low); high = omega (arith, w.high); passes = w.passes; before = earlier w.before }
        where
          earlier : ((x : ℕ) → suc i ≤ x → x < b → p x ≡ false) → (x : ℕ) → i ≤ x → x < b → p x ≡ false
          earlier k x a l = elim (cases_lt i x) [ inl d ↦ k x d l | inr d ↦ subst (λ (z : ℕ). p z ≡ false) (omega arith) h ]

  from_none : (i n : ℕ) → first p (from i n) ≡ None → (x : ℕ) → i ≤ x → x < i + n → p x ≡ false
  from_none i zero e x a l = absurd (omega arith)
  from_none i (suc n) e x a l = go (p i) refl e (from_none (suc i) n) (cases_lt i x)
    where
      go : (t : Bool) → p i ≡ t → cond t (Some i) (first p (from (suc i) n)) ≡ None → (first p (from (suc i) n) ≡ None → (x : ℕ) → suc i ≤ x → x < suc i + n → p x ≡ false) → (i < x) ⊎ (x ≤ i) → p x ≡ false
      go true h e rest d = clash_none (sym e)
      go false h e rest (inl d) = rest e x d (omega arith)
      go false h e rest (inr d) = subst (λ (z : ℕ). p z ≡ false) (omega arith) h

  none_from : (i n : ℕ) → ((x : ℕ) → i ≤ x → x < i + n → p x ≡ false) → first p (from i n) ≡ None
  none_from i zero h = refl
  none_from i (suc n) h = go (p i) (h i (omega arith) (omega arith)) (none_from (suc i) n (λ x a l. h x (omega arith) (omega arith)))
    where
      go : (t : Bool) → t ≡ false → first p (from (suc i) n) ≡ None → cond t (Some i) (first p (from (suc i) n)) ≡ None
      go true e rest = clash (sym e)
      go false e rest = rest

module _ (taken : ℕ → Bool) (low high : ℕ) where
  abbrev free : ℕ → Bool
  free x = not (taken x)

  -- what is given lies inside and is not taken, wherever the cursor is
  inside : (at b : ℕ) → first free (round low high at) ≡ Some b → (low ≤ b) × (b < high) × (taken b ≡ false)
  inside at b e = go (first_append free (from w (high - w)) (from low (w - low)))
    where
      w : ℕ
      w = within low high at

      go : (first free (round low high at) ≡ first free (from (within low high at) (high - within low high at))) ⊎ ((first free (from (within low high at) (high - within low high at)) ≡ None) × (first free (round low high at) ≡ first free (from low (within low high at - low)))) → (low ≤ b) × (b < high) × (taken b ≡ false)
      go (inl s) = let k = from_first free (within low high at) (high - within low high at) b (sym s ∙ e) in (omega (arith, k.low, k.high), omega (arith, k.low, k.high), not-true (taken b) k.passes)
      go (inr s) = let k = from_first free low (within low high at - low) b (sym s.1 ∙ e) in (omega (arith, k.low, k.high), omega (arith, k.low, k.high), not-true (taken b) k.passes)

  none_free : (at : ℕ) → first free (round low high at) ≡ None → (x : ℕ) → low ≤ x → x < high → taken x ≡ true
  none_free at e x a l =
      let n = first_append_none free (from (within low high at) (high - within low high at)) (from low (within low high at - low)) e in
      elim (cases_lt x (within low high at)) [
        | inl d ↦ not-false (taken x) (from_none free low (within low high at - low) n.1 x a (omega arith))
        | inr d ↦ not-false (taken x) (from_none free (within low high at) (high - within low high at) n.0 x d (omega arith))
      ]

  all_taken : (at : ℕ) → ((x : ℕ) → low ≤ x → x < high → taken x ≡ true) → first free (round low high at) ≡ None
  all_taken at h = go (first_append free (from (within low high at) (high - within low high at)) (from low (within low high at - low)))
    where
      go : (first free (round low high at) ≡ first free (from (within low high at) (high - within low high at))) ⊎ ((first free (from (within low high at) (high - within low high at)) ≡ None) × (first free (round low high at) ≡ first free (from low (within low high at - low)))) → first free (round low high at) ≡ None
      go (inl s) = s ∙ none_from free (within low high at) (high - within low high at) (λ x a l. not_from_true (taken x) (h x (omega arith) (omega arith)))
      go (inr s) = s.1 ∙ none_from free low (within low high at - low) (λ x a l. not_from_true (taken x) (h x (omega arith) (omega arith)))

  is_next : (at b : ℕ) → low ≤ at → at ≤ high → first free (round low high at) ≡ Some b → Next low high at taken b
  is_next at b a t e = go (first_append free (from (within low high at) (high - within low high at)) (from low (within low high at - low))) (inside at b e)
    where
      go : (first free (round low high at) ≡ first free (from (within low high at) (high - within low high at))) ⊎ ((first free (from (within low high at) (high - within low high at)) ≡ None) × (first free (round low high at) ≡ first free (from low (within low high at - low)))) → (low ≤ b) × (b < high) × (taken b ≡ false) → Next low high at taken b
      go (inl s) (m, n, o) =
          let k = from_first free (within low high at) (high - within low high at) b (sym s ∙ e) in
          record { above = m; below = n; free = o; first = λ x c d q. passed k.low k.before x c d q }
        where
          passed : within low high at ≤ b → ((x : ℕ) → within low high at ≤ x → x < b → free x ≡ false) → (x : ℕ) → low ≤ x → x < high → Passed at b x → taken x ≡ true
          passed l k x c d (inl q) = not-false (taken x) (k x (omega (arith, q.0)) q.1)
          passed l k x c d (inr q) = absurd (omega (arith, q.0))
      go (inr s) (m, n, o) =
          let k = from_first free low (within low high at - low) b (sym s.1 ∙ e) in
          record { above = m; below = n; free = o; first = λ x c d q. passed k.high k.before x c d q }
        where
          passed : b < low + (within low high at - low) → ((x : ℕ) → low ≤ x → x < b → free x ≡ false) → (x : ℕ) → low ≤ x → x < high → Passed at b x → taken x ≡ true
          passed l k x c d (inl q) = absurd (omega (arith, q.0, q.1))
          passed l k x c d (inr (f, inl q)) = not-false (taken x) (from_none free (within low high at) (high - within low high at) s.0 x (omega arith) (omega arith))
          passed l k x c d (inr (f, inr q)) = not-false (taken x) (k x c q)

pub free_slot_is_next : FreeSlotIsNext
free_slot_is_next g v at s l e = is_next (reached g v) 0 g.slots at s (omega arith) l e

pub free_body_is_next : FreeBodyIsNext
free_body_is_next g v at b a l e = is_next (held g v) (suc g.slots) g.blocks at b a l e

pub no_free_slot : NoSlotFree
no_free_slot g v at = (λ e s l. none_free (reached g v) 0 g.slots at e s (omega arith) l, λ h. all_taken (reached g v) 0 g.slots at (λ x a l. h x l))

pub no_free_body : NoBodyFree
no_free_body g v at = (none_free (held g v) (suc g.slots) g.blocks at, all_taken (held g v) (suc g.slots) g.blocks at)

-- what a create and an append are given
pub slot_given : (g : Geometry) (v : View) (at s : ℕ) → free_slot g v at ≡ Some s → FreeSlot g v s × (0 < s) × (reached g v s ≡ false)
slot_given g v at s e =
    let w = inside (reached g v) 0 g.slots at s e in
    (unreached g v s w.1 w.2, above s w.2, w.2)
  where
    above : (s : ℕ) → reached g v s ≡ false → 0 < s
    above zero e = clash (sym e ∙ climbs_root _ g.slots 0 refl)
    above (suc s) e = omega arith

pub body_given : (g : Geometry) (v : View) (at b : ℕ) → free_body g v at ≡ Some b → FreeBody g v b
body_given g v at b e = let w = inside (held g v) (suc g.slots) g.blocks at b e in unheld g v b w.0 w.1 w.2
