use Rattle.std.proofs.Common.{length, subst, arith}
use Rattle.layout.specs.Sizes.{sizes}
use Rattle.rule.specs.Agree.{Shown, seen}
use Rattle.walk.specs.Copies.{copied, LeafIs}
use Rattle.walk.proofs.Stills.{says_then}
use Rattle.walk.specs.Finding.{leaf_places}
use Rattle.tours.specs.Lists.{Adds, cell_rows, entry_rows}
use Rattle.tours.proofs.Adding.{adds_is}
use Rattle.tours.proofs.Rows.{leaf_good}
use Rattle.tours.proofs.list.list_leaf.Goals as goal

pub returns-clause-added : goal.returns-clause-added
returns-clause-added g c =
    let z = sizes c.args.g.now in
    let m = g.D.Device.model c.args.device.now in
    let k = g.D.Device.model c.read_leaf.new.device in
    let n = g.D.Device.model c.list_cells.new.device in
    let f = c.args.folder.now.handle in
    let r = copied c.args.folder.now.slot in
    let l = c.in-Some.copy in
    let es = c.cells.result.now in
    let e = c.in_ok-copy.ensures in
    let is = subst (LeafIs (seen z m.shown) f r c.args.leaf.0) c.in-Some.is e.1 in
    let was = c.args.lines.now in
    let now = c.list_cells.new.lines in
    says_then c.args.g.now c.list_cells.result
    (λ _. Adds (length es) (cell_rows z (seen z k.shown) f es) was.count was.lines.now now.count now.lines.now)
    (λ _. Adds 15 (entry_rows z (seen z m.shown) f (leaf_places (seen z m.shown) f r c.args.leaf.0)) was.count was.lines.now now.count now.lines.now)
    m k n e.0
    (λ _ h. adds_is (length es) 15 _ _ _ _ _ _ (omega (arith, c.cells.ensures.count))
    (leaf_good z (seen z m.shown) f r c.args.leaf.0 l es c.cells.ensures.value c.requires is.0 is.1)
    (subst (λ (sh : Shown). Adds (length es) (cell_rows z (seen z sh) f es) was.count was.lines.now now.count now.lines.now) e.0.kept.shown h))
    c.list_cells.ensures.added
