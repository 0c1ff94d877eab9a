use Rattle.std.proofs.Common.{List, ap, ◌∙◌}
use Rattle.layout.specs.Format.{Cell}
use Rattle.layout.specs.Sizes.{sizes}
use Rattle.survey.specs.Known.{links}
use Rattle.survey.proofs.Links.{left_more, left_none}
use Rattle.survey.proofs.slots.Slots.link_cells.Goals as goal

pub loop-cell-preserved : goal.loop-cell-preserved
loop-cell-preserved c =
    left_more (sizes c.args.g.now) c.args.body.now.back.owner c.cells-cell-items.result.now c.loop-cell.cell-index c.loop-cell.self _ c.link_cell.new.self c.loop-cell-test.true c.link_cell.ensures c.loop-cell.invariant

pub returns : goal.returns
returns c =
    left_none (sizes c.args.g.now) c.args.body.now.back.owner c.cells-cell-items.result.now c.loop-cell.cell-index c.loop-cell.self _ c.loop-cell-test.false c.loop-cell.invariant
    ∙ ap (λ (es : List Cell). links (sizes c.args.g.now) c.args.body.now.back.owner es c.args.self.now) (c.cells-cell-items.ensures.leaf c.args.body.now.sized)
