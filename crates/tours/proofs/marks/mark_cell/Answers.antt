use Rattle.std.proofs.Common.{◌<◌, sym, rules}
use Rattle.layout.specs.Sizes.{sizes}
use Rattle.walk.specs.Still.{shows}
use Rattle.tours.proofs.Rows.{child_there}
use Rattle.tours.proofs.Marking.{entered, one_done}
use Rattle.tours.proofs.marks.mark_cell.Goals as goal

pub returns-then-is_some : goal.returns-then-is_some
returns-then-is_some g c =
    let z = sizes c.args.g.now in
    let v = shows c.args.g.now (g.D.Device.model c.args.device.now) in
    let f = c.args.folder.now in
    let n = c.in-Used.entry.name.now in
    let child = c.in-Used.entry.child in
    let e = c.in_ok-read_child.ensures in
    let here = c.in-Used.ensures.leads (search rules) in
    let sound = child_there z v f n child _ e.1 (sym c.if-is_some.ensures) in
    let small : c.in-Used.entry.child.slot.0 < 256 = search rules in
    let went = entered z v c.args.work.now c.enter.new.self child.slot c.requires.0 small (c.requires.1 n child (sym here) sound) c.enter.ensures in
    (e.0, (went.0, one_done z v f c.args.cell.now n child _ here went.1))
