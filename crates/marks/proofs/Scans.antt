-- Scans of the places from one number up to another.
use Rattle.std.proofs.Common.{◌≡◌, ℕ, zero, suc, ◌+◌, ◌-◌, ◌<◌, ◌≤◌, Bool, true, false, cond, List, [], ◌∷◌, ◌++◌, length, get_or, take, drop, replicate, is_some, Some, None, Option, sym, refl, ap, ◌∙◌, arith, drop-cons}
use Rattle.std.proofs.lemmas.Bool.{cond-true, cond-false, false≢true}
use Rattle.std.specs.List.{count_by}
use Rattle.std.proofs.lemmas.List.Sums.{sum_by-cons}
use Rattle.marks.specs.Marks.{is_unmarked, unmarked}
use Rattle.rule.specs.Agree.{first, those, from, round, within}

pub all_none : {A : Type 0} (n i : ℕ) → get_or {A = Option A} (replicate n None) i None ≡ None
all_none zero i = refl
all_none (suc n) zero = refl
all_none (suc n) (suc i) = all_none n i

from_more : (i h : ℕ) → i < h → from i (h - i) ≡ i ∷ from (i + 1) (h - (i + 1))
from_more i h l = ap (from i) n ∙ ap (λ (j : ℕ). i ∷ from j (h - (i + 1))) next
  where
    n : h - i ≡ suc (h - (i + 1))
    n = omega arith

    next : suc i ≡ i + 1
    next = omega arith

module _ (p : ℕ → Bool) (i h : ℕ) where
  pub first_here : i < h → p i ≡ true → first p (from i (h - i)) ≡ Some i
  first_here l e = ap (first p) (from_more i h l) ∙ cond-true (p i) (Some i) (first p (from (i + 1) (h - (i + 1)))) e

  pub first_on : i < h → p i ≡ false → first p (from i (h - i)) ≡ first p (from (i + 1) (h - (i + 1)))
  first_on l e = ap (first p) (from_more i h l) ∙ cond-false (p i) (Some i) (first p (from (i + 1) (h - (i + 1)))) e

-- how many places of a part are free
pub counted : {A : Type 0} (xs : List (Option A)) (i n : ℕ) → i + n ≤ length xs → length (those (unmarked xs) (from i n)) ≡ count_by is_unmarked (take n (drop i xs))
counted xs i zero h = refl
counted xs i (suc n) h =
    let within : i < length xs = omega arith in
    one (unmarked xs i) (those (unmarked xs) (from (suc i) n)) (counted xs (suc i) n (omega arith))
    ∙ sym (ap (λ ys. count_by is_unmarked (take (suc n) ys)) (drop-cons xs i None within) ∙ sum_by-cons (λ x. cond (is_unmarked x) 1 0) (get_or xs i None) (take n (drop (suc i) xs)))
  where
    one : (b : Bool) {c : ℕ} (d : List ℕ) → length d ≡ c → length (cond b (i ∷ d) d) ≡ cond b 1 0 + c
    one true d e = omega arith
    one false d e = omega arith

module _ {A : Type 0} (p : A → Bool) where
  -- of two lists the first one counts, if something in it passes
  first_left : (xs ys : List A) → is_some (first p xs) ≡ true → first p (xs ++ ys) ≡ first p xs
  first_left [] ys e = absurd (false≢true e)
  first_left (x ∷ xs) ys e = go (p x) e (first_left xs ys)
    where
      go : (b : Bool) → is_some (cond b (Some x) (first p xs)) ≡ true → (is_some (first p xs) ≡ true → first p (xs ++ ys) ≡ first p xs) → cond b (Some x) (first p (xs ++ ys)) ≡ cond b (Some x) (first p xs)
      go true e rest = refl
      go false e rest = rest e

  first_right : (xs ys : List A) → is_some (first p xs) ≡ false → first p (xs ++ ys) ≡ first p ys
  first_right [] ys e = refl
  first_right (x ∷ xs) ys e = go (p x) e (first_right xs ys)
    where
      go : (b : Bool) → is_some (cond b (Some x) (first p xs)) ≡ false → (is_some (first p xs) ≡ false → first p (xs ++ ys) ≡ first p ys) → cond b (Some x) (first p (xs ++ ys)) ≡ first p ys
      go true e rest = absurd (false≢true (sym e))
      go false e rest = rest e

-- from a cursor w on, and round
module _ (p : ℕ → Bool) (low high at w : ℕ) (cursor : w ≡ within low high at) where
  round_is : first p (round low high at) ≡ first p (from w (high - w) ++ from low (w - low))
  round_is = ap (λ (n : ℕ). first p (from n (high - n) ++ from low (n - low))) (sym cursor)

  pub round_left : (o : Option ℕ) → o ≡ first p (from w (high - w)) → is_some o ≡ true → o ≡ first p (round low high at)
  round_left o e there = e ∙ sym (round_is ∙ first_left p (from w (high - w)) (from low (w - low)) (ap is_some (sym e) ∙ there))

  pub round_right : (o r : Option ℕ) → o ≡ first p (from w (high - w)) → is_some o ≡ false → r ≡ first p (from low (w - low)) → r ≡ first p (round low high at)
  round_right o r e there f = f ∙ sym (round_is ∙ first_right p (from w (high - w)) (from low (w - low)) (ap is_some (sym e) ∙ there))
