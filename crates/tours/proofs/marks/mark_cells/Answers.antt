use Rattle.std.proofs.Common.{[], slice_index_or, arith}
use Rattle.layout.specs.Sizes.{sizes}
use Rattle.rule.specs.Agree.{Shown, seen}
use Rattle.walk.proofs.Stills.{still, still_then}
use Rattle.tours.specs.Marks.{Chained, CellChained}
use Rattle.tours.proofs.Marking.{onward_none, onward_then, moved, cells_more}
use Rattle.tours.proofs.marks.mark_cells.Goals as goal

pub loop-cell-init : goal.loop-cell-init
loop-cell-init g c = record { still = still _; onward = onward_none _ _ _ c.requires.0; done = λ j h n x e a. absurd (omega arith) }

pub mark_cell-requires : goal.mark_cell-requires
mark_cell-requires g c =
    let z = sizes c.args.g.now in
    let m = g.D.Device.model c.args.device.now in
    let k = g.D.Device.model c.loop-cell.device in
    let v = c.loop-cell.invariant in
    let i = c.loop-cell.cell-index in (
      moved (λ (sh : Shown). Chained z (seen z sh) c.loop-cell.work) m k v.still v.onward.chained,
      moved (λ (sh : Shown). CellChained z (seen z sh) c.args.folder.now (slice_index_or c.args.cells.now i [])) m k v.still (c.requires.1 i c.loop-cell-test.true),
    )

pub loop-cell-preserved : goal.loop-cell-preserved
loop-cell-preserved g c =
    let z = sizes c.args.g.now in
    let m = g.D.Device.model c.args.device.now in
    let k = g.D.Device.model c.loop-cell.device in
    let v = c.loop-cell.invariant in
    let e = c.in_ok-mark_cell.ensures in
    record {
      still = still_then m k _ v.still e.0;
      onward = onward_then z m k _ _ _ v.still v.onward e.1.0;
      done = cells_more z m k c.args.folder.now c.args.cells.now c.loop-cell.cell-index _ _ v.still e.1.0.grew.more v.done e.1.1;
    }
