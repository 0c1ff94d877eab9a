-- The climb, and rows that are filled one by one.
use Rattle.std.proofs.Common.{◌≡◌, ℕ, suc, ◌+◌, ◌-◌, ◌<◌, ◌≤◌, true, cond, eqb, Option, ap, arith}
use Rattle.rule.specs.Agree.{some_is, climbs}

-- one step of the climb
pub climbs_next : (up : ℕ → Option ℕ) (n i s : ℕ) → i < n → climbs up (n - i) s ≡ cond (eqb s 0) true (some_is (up s) (climbs up (n - (i + 1))))
climbs_next up n i s l = ap (λ (k : ℕ). climbs up k s) (let e : n - i ≡ suc (n - (i + 1)) = omega arith in e)

-- none is left
pub climbs_last : (up : ℕ → Option ℕ) (n i s : ℕ) → n ≤ i → climbs up (n - i) s ≡ eqb s 0
climbs_last up n i s l = ap (λ (k : ℕ). climbs up k s) (let e : n - i ≡ 0 = omega arith in e)
