use Rattle.std.proofs.Common.{◌≡◌, take}
use Rattle.layout.specs.Sizes.{sizes}
use Rattle.walk.specs.Still.{Still, shows}
use Rattle.tours.specs.Lists.{Adds, cell_rows}
use Rattle.tours.proofs.list.list_cells.Given as goal

abbrev pub invariant-loop-cell : goal.invariant-loop-cell
invariant-loop-cell g l = record {
  still : Still (g.D.Device.model l.initial.device) (g.D.Device.model l.device);
  adds : Adds l.cell-index (cell_rows (sizes l.g) (shows l.g (g.D.Device.model l.initial.device)) l.folder (take l.cell-index l.cells)) l.initial.lines.count l.initial.lines.lines.now l.lines.count l.lines.lines.now;
  same : l.lines.lines.ghost_name ≡ l.initial.lines.lines.ghost_name;
}
