use Rattle.std.proofs.Common.{◌∷◌, [], slice_index_or, refl, ◌∙◌, arith}
use Rattle.layout.specs.Sizes.{sizes}
use Rattle.rule.specs.Agree.{Shown, seen}
use Rattle.walk.proofs.Stills.{still_then}
use Rattle.tours.specs.Lists.{cell_rows}
use Rattle.tours.proofs.Adding.{adds_more}
use Rattle.tours.proofs.Rows.{rows_more}
use Rattle.tours.proofs.list.list_cells.Goals as goal

pub loop-cell-preserved : goal.loop-cell-preserved
loop-cell-preserved g c =
    let z = sizes c.args.g.now in
    let m = g.D.Device.model c.args.device.now in
    let k = g.D.Device.model c.loop-cell.device in
    let es = c.args.cells.now in
    let f = c.args.folder.now in
    let v = c.loop-cell.invariant in
    let i = c.loop-cell.cell-index in
    let x = slice_index_or es i [] in
    let e = c.in_ok-list_cell.ensures in
    record {
      still = still_then m k _ v.still e.added.0;
      adds = adds_more (λ (sh : Shown). cell_rows z (seen z sh) f (x ∷ [])) m k i 1 _ _ _ _ _ _ _ _ _ v.still (omega arith)
          (rows_more z (seen z m.shown) f es i x c.loop-cell-test.true refl) v.adds e.added.1;
      same = e.same ∙ v.same;
    }
