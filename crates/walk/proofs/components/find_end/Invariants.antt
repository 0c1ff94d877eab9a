use Rattle.std.proofs.Common.{◌≡◌, ◌+◌, drop}
use Rattle.walk.specs.Paths.{name_end}
use Rattle.walk.proofs.components.find_end.Given as goal

abbrev pub invariant-loop-end : goal.invariant-loop-end
invariant-loop-end l = l.end + name_end (drop l.end l.path) ≡ name_end l.path
