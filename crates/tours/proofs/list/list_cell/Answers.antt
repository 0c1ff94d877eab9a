use Rattle.std.proofs.Common.{sym, rules}
use Rattle.layout.specs.Sizes.{sizes}
use Rattle.walk.specs.Still.{shows}
use Rattle.tours.proofs.Rows.{unsound}
use Rattle.tours.proofs.list.list_cell.Goals as goal

pub returns-else-is_some-clause-added : goal.returns-else-is_some-clause-added
returns-else-is_some-clause-added g c =
    let e = c.in_ok-read_child.ensures in
    let was = c.args.lines.now in
    (e.0, unsound (sizes c.args.g.now) (shows c.args.g.now (g.D.Device.model c.args.device.now)) c.args.folder.now c.args.cell.now c.in-Used.entry.name.now c.in-Used.entry.child _ was.count was.lines.now e.1 (sym c.if-is_some.ensures) (c.in-Used.ensures.leads (search rules)))
