use Rattle.std.proofs.Common.{length, sym, subst}
use Rattle.layout.specs.Sizes.{sizes}
use Rattle.rule.specs.Agree.{Shown, seen}
use Rattle.walk.specs.Copies.{copied, LeafIs}
use Rattle.tours.specs.Marks.{Chained, CellsChained, CellsDone, LeafDone}
use Rattle.tours.proofs.Rows.{leaf_cells}
use Rattle.tours.proofs.Marking.{moved, moved_back, worked_then, leaf_chained, leaf_done}
use Rattle.tours.proofs.marks.mark_leaf.Goals as goal

pub mark_cells-requires : goal.mark_cells-requires
mark_cells-requires g c =
    let z = sizes c.args.g.now in
    let m = g.D.Device.model c.args.device.now in
    let k = g.D.Device.model c.read_leaf.new.device in
    let f = c.args.folder.now.handle in
    let r = copied c.args.folder.now.slot in
    let l = c.in-Some.copy in
    let e = c.in_ok-copy.ensures in
    let is = subst (LeafIs (seen z m.shown) f r c.args.leaf.0) c.in-Some.is e.1 in
    let es = c.cells.result.now in
    let same = leaf_cells z (seen z m.shown) f r c.args.leaf.0 l es c.cells.ensures.value c.requires.0.kind is.0 is.1 in (
      moved (λ (sh : Shown). Chained z (seen z sh) c.args.work.now) m k e.0 c.requires.1,
      moved (λ (sh : Shown). CellsChained z (seen z sh) f es) m k e.0
          (subst (CellsChained z (seen z m.shown) f) (sym same) (leaf_chained z (seen z m.shown) f r c.args.leaf.0 c.requires.0 is.0)),
    )

pub returns : goal.returns
returns g c =
    let z = sizes c.args.g.now in
    let m = g.D.Device.model c.args.device.now in
    let k = g.D.Device.model c.read_leaf.new.device in
    let f = c.args.folder.now.handle in
    let r = copied c.args.folder.now.slot in
    let l = c.in-Some.copy in
    let es = c.cells.result.now in
    let e = c.in_ok-copy.ensures in
    let is = subst (LeafIs (seen z m.shown) f r c.args.leaf.0) c.in-Some.is e.1 in
    let same = leaf_cells z (seen z m.shown) f r c.args.leaf.0 l es c.cells.ensures.value c.requires.0.kind is.0 is.1 in
    let ms' = c.mark_cells.new.work.marks in
    worked_then c.args.g.now c.mark_cells.result (CellsDone z (seen z k.shown) f es (length es)) (LeafDone z (seen z m.shown) f r c.args.leaf.0) m k _ c.args.work.now c.mark_cells.new.work e.0
    (λ h. leaf_done z (seen z m.shown) f r c.args.leaf.0 es ms' same (moved_back (λ (sh : Shown). CellsDone z (seen z sh) f es (length es) ms') m k e.0 h))
    c.mark_cells.ensures
