use Rattle.std.proofs.Common.{◌≡◌, ◌-◌}
use Rattle.marks.specs.Marks.{without}
use Rattle.rule.specs.Agree.{from}
use Rattle.walk.specs.Copies.{copied}
use Rattle.change.proofs.drop.drop_leaves.Given as goal

abbrev pub invariant-loop-k : goal.invariant-loop-k
invariant-loop-k l = without l.initial.marks l.node.handle (copied l.node.slot) (from l.fn.n.0 (l.node.slot.count - l.fn.n.0)) ≡ without l.marks l.node.handle (copied l.node.slot) (from l.k (l.node.slot.count - l.k))
