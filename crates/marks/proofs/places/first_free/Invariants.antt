use Rattle.std.proofs.Common.{◌≡◌, ◌-◌}
use Rattle.rule.specs.Agree.{first, from}
use Rattle.marks.specs.Marks.{unmarked}
use Rattle.marks.proofs.places.first_free.Given as goal

abbrev pub invariant-loop-at : goal.invariant-loop-at
invariant-loop-at g l = first (unmarked l.marks) (from l.low (l.high - l.low)) ≡ first (unmarked l.marks) (from l.at (l.high - l.at))
