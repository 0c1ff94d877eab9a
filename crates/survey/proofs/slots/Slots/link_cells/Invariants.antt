use Rattle.std.proofs.Common.{◌≡◌, drop}
use Rattle.layout.specs.Sizes.{sizes}
use Rattle.survey.specs.Known.{links}
use Rattle.survey.proofs.slots.Slots.link_cells.Given as goal

abbrev pub invariant-loop-cell : goal.invariant-loop-cell
invariant-loop-cell l = links (sizes l.g) l.body.back.owner (drop l.cell-index l.cell-items) l.self ≡ links (sizes l.g) l.body.back.owner l.cell-items l.initial.self
