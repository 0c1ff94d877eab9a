use Rattle.std.proofs.Common.{◌≡◌}
use Rattle.rule.specs.Agree.{from}
use Rattle.walk.specs.Copies.{copied}
use Rattle.walk.specs.Still.{Still, shows}
use Rattle.tours.specs.Lists.{Adds}
use Rattle.tours.specs.Damage.{leaf_rows}
use Rattle.tours.proofs.damage.check_leaves.Given as goal

abbrev pub invariant-loop-k : goal.invariant-loop-k
invariant-loop-k g l = record {
  still : Still (g.D.Device.model l.initial.device) (g.D.Device.model l.device);
  adds : Adds l.k (leaf_rows (shows l.g (g.D.Device.model l.initial.device)) l.node.handle (copied l.node.slot) (from 0 l.k)) l.initial.lines.count l.initial.lines.lines.now l.lines.count l.lines.lines.now;
  same : l.lines.lines.ghost_name ≡ l.initial.lines.lines.ghost_name;
}
