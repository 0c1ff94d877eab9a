use Rattle.std.proofs.Common.{◌-◌}
use Rattle.layout.specs.Sizes.{sizes}
use Rattle.walk.specs.Still.{Still, shows}
use Rattle.tours.specs.Marks.{Underway}
use Rattle.tours.proofs.marks.mark_reached.Given as goal

abbrev pub invariant-loop-slot : goal.invariant-loop-slot
invariant-loop-slot g l = record {
  still : Still (g.D.Device.model l.initial.device) (g.D.Device.model l.device);
  underway : Underway (sizes l.g) (shows l.g (g.D.Device.model l.initial.device)) l.work;
}

abbrev pub decreases-loop-slot : goal.decreases-loop-slot
decreases-loop-slot g l = 256 - l.work.head
