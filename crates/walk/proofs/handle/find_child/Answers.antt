use Rattle.layout.specs.Sizes.{sizes}
use Rattle.walk.proofs.Stepping.{step_refused, step_enters, gives_then}
use Rattle.walk.proofs.handle.find_child.Goals as goal

pub returns : goal.returns
returns g c =
    let e = c.in_ok-slot.ensures in
    gives_then c.args.g.now _ c.enter.result _ _ _ _ _ (g.D.Device.model c.enter.new.device) e.0
    (step_refused (sizes c.args.g.now) (g.D.Device.model c.args.device.now).shown _ c.args.folder.now c.args.name.now _ e.0.kept.shown e.1)
    (step_enters (sizes c.args.g.now) (g.D.Device.model c.args.device.now).shown _ c.args.folder.now c.args.name.now _ e.0.kept.shown e.1)
    c.enter.ensures
