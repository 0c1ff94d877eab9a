-- What a head, what follows it and zeros to the end are.
use Rattle.std.proofs.Common.{◌≡◌, ℕ, ◌-◌, List, ◌++◌, length, drop, replicate, ap, arith}
use Rattle.std.proofs.lemmas.List.{drop-replicate}
use Rattle.layout.specs.Format.{padded}

-- both are written over zeros
pub written : (n : ℕ) (h r : List ℕ) → h ++ (r ++ drop (length r - 0) (drop (length h) (replicate n 0))) ≡ h ++ padded (n - length h) r
written n h r =
    let m : n - length h - (length r - 0) ≡ n - length h - length r = omega arith in
    rw (drop-replicate, drop-replicate) (ap (λ m. h ++ (r ++ replicate m 0)) m)
