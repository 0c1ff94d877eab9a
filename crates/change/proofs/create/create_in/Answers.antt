use Rattle.std.proofs.Common.{None, sym, subst}
use Rattle.std.proofs.lemmas.Result.{err_from_is_err_and}
use Rattle.layout.specs.Sizes.{sizes}
use Rattle.rule.specs.Changing.{open_place}
use Rattle.walk.specs.Copies.{copied}
use Rattle.walk.specs.Still.{shows}
use Rattle.change.specs.Scanning.{SpotOr}
use Rattle.change.proofs.Creates.{good_named, no_child}
use Rattle.change.proofs.create.create_in.Goals as goal

pub returns-in_err-child : goal.returns-in_err-child
returns-in_err-child c m w x =
    let p = err_from_is_err_and c.from_residual.result c.from_residual.ensures.1 in
    rw (p.1, p.2) (no_child _ _ _ _ _ _ _ _ w _ (sym c.in_err-child.ensures))

pub returns-in-Some : goal.returns-in-Some
returns-in-Some c m w x =
    let v = shows c.args.known.now.geometry m in
    let q = subst (SpotOr v (copied c.args.folder.now.slot) (open_place (sizes c.args.known.now.geometry) v c.args.folder.now.handle (copied c.args.folder.now.slot)) None) c.in-Some.is x in
    c.create_in_place.ensures m c.args.name.now q.0
    (record { entering = w; child = sym c.in_ok-child.ensures; cell = c.entry_cell-cell.ensures (good_named c.args.name.now w.name) }) q.1 q.2

pub returns-in-None : goal.returns-in-None
returns-in-None c m w x =
    let v = shows c.args.known.now.geometry m in
    let none = subst (SpotOr v (copied c.args.folder.now.slot) (open_place (sizes c.args.known.now.geometry) v c.args.folder.now.handle (copied c.args.folder.now.slot)) None) c.in-None.is x in
    c.create_on_leaf.ensures m c.args.name.now
    (record { entering = w; child = sym c.in_ok-child.ensures; cell = c.entry_cell-cell.ensures (good_named c.args.name.now w.name) }) none
