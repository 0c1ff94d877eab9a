use Rattle.std.proofs.Common.{sym, ap, ◌∙◌}
use Rattle.layout.specs.Sizes.{sizes}
use Rattle.std.specs.Option.{option_map}
use Rattle.walk.specs.Copies.{copied}
use Rattle.walk.specs.Still.{shows}
use Rattle.walk.proofs.Finding.{leads_from, same_from_ne}
use Rattle.walk.proofs.entry.try_cell.Goals as goal

pub returns : goal.returns
returns g c =
    let e = c.in_ok-slot.ensures in
    (e.0, leads_from (sizes c.args.g.now) (shows c.args.g.now (g.D.Device.model c.args.device.now)) c.args.folder.now c.args.name.now c.args.cell.now c.in-Used.entry.name.now c.in-Used.entry.child (copied c.in-Some.slot) (c.in-Used.ensures.leads c.told-cell) (same_from_ne c.args.name.now c.in-Used.entry.name.now c.if-ne.ensures) (sym e.1 ∙ ap (option_map copied) c.in-Some.is))
