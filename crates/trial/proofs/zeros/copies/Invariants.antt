use Rattle.std.specs.Prelude.{◌≡◌, replicate}
use Rattle.trial.proofs.zeros.copies.Given as goal

abbrev pub invariant-loop-i : goal.invariant-loop-i
invariant-loop-i g l = l.all.items ≡ replicate l._i l.value
