use Rattle.std.proofs.Common.{◌≡◌, ℕ, ◌<◌, ◌≤◌, MatchOption}
use Rattle.buffered.specs.Buffered.{Used, at_place, number}
use Rattle.buffered.proofs.table.highest.Given as goal

abbrev pub invariant-loop-place : goal.invariant-loop-place
invariant-loop-place l =
    MatchOption l.best
    ((l.top.0 ≡ 0) × ((k : ℕ) → k < l.place → Used (at_place l.table k) → ⊥))
    (λ i. (i < l.place) × (Used (at_place l.table i) × ((l.top.0 ≡ number (at_place l.table i)) × (((k : ℕ) → k < l.place → Used (at_place l.table k) → number (at_place l.table k) ≤ l.top.0) × ((k : ℕ) → i < k → k < l.place → Used (at_place l.table k) → number (at_place l.table k) < l.top.0)))))
