use Rattle.std.proofs.Common.{◌+◌, max, drop, ap, ◌∙◌}
use Rattle.layout.specs.Identities.{highest_in}
use Rattle.layout.specs.Sizes.{sizes}
use Rattle.entries.proofs.Highest.{in_more, in_all}
use Rattle.entries.proofs.identity.highest_in.Goals as goal

pub loop-cell-preserved : goal.loop-cell-preserved
loop-cell-preserved c =
    ap (λ n. max n (highest_in (sizes c.args.g.now) (drop (c.loop-cell.cell-index + 1) c.cells-cell-items.result.now))) c.max-high.ensures
    ∙ in_more (sizes c.args.g.now) c.cells-cell-items.result.now c.loop-cell.cell-index c.loop-cell.high _ c.told_by.result c.loop-cell-test.true c.told_by.ensures c.loop-cell.invariant

pub returns : goal.returns
returns c =
    in_all (sizes c.args.g.now) c.cells-cell-items.result.now c.loop-cell.cell-index c.loop-cell.high _ c.loop-cell-test.false c.loop-cell.invariant
    ∙ ap (highest_in (sizes c.args.g.now)) (c.cells-cell-items.ensures.leaf c.args.body.now.sized)
