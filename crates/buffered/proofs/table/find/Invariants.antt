use Rattle.std.proofs.Common.{ℕ, ◌<◌}
use Rattle.buffered.specs.Buffered.{Holds, at_place}
use Rattle.buffered.proofs.table.find.Given as goal

abbrev pub invariant-loop-place : goal.invariant-loop-place
invariant-loop-place l = (k : ℕ) → k < l.place → Holds (at_place l.table k) l.at.0 → ⊥
