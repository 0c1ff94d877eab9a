use Rattle.layout.specs.Sizes.{sizes}
use Rattle.walk.specs.Still.{Still, shows}
use Rattle.tours.specs.Marks.{Onward, CellsDone}
use Rattle.tours.proofs.marks.mark_cells.Given as goal

abbrev pub invariant-loop-cell : goal.invariant-loop-cell
invariant-loop-cell g l = record {
  still : Still (g.D.Device.model l.initial.device) (g.D.Device.model l.device);
  onward : Onward (sizes l.g) (shows l.g (g.D.Device.model l.initial.device)) l.initial.work l.work;
  done : CellsDone (sizes l.g) (shows l.g (g.D.Device.model l.initial.device)) l.folder l.cells l.cell-index l.work.marks;
}
