use Rattle.layout.specs.Sizes.{sizes}
use Rattle.walk.specs.Copies.{copied}
use Rattle.walk.specs.Still.{Still, shows}
use Rattle.tours.specs.Marks.{Onward, LeavesDone}
use Rattle.tours.proofs.marks.mark_leaves.Given as goal

abbrev pub invariant-loop-k : goal.invariant-loop-k
invariant-loop-k g l = record {
  still : Still (g.D.Device.model l.initial.device) (g.D.Device.model l.device);
  onward : Onward (sizes l.g) (shows l.g (g.D.Device.model l.initial.device)) l.initial.work l.work;
  done : LeavesDone (sizes l.g) (shows l.g (g.D.Device.model l.initial.device)) l.folder.handle (copied l.folder.slot) l.k l.work.marks;
}
