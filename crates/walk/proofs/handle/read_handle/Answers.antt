use Rattle.std.proofs.Common.{inl, false-eqb}
use Rattle.layout.specs.Sizes.{sizes}
use Rattle.walk.specs.Still.{shows}
use Rattle.walk.proofs.Stepping.{fits_other, fits_none}
use Rattle.walk.proofs.handle.read_handle.Goals as goal
use Rattle.walk.proofs.handle.read_handle.Goals.{in_default-via-in-Some+else-eq, in_default-via-in_default}

pub returns-in_default : goal.returns-in_default
returns-in_default g c =
    let e = c.in_ok-slot.ensures in
    let v = shows c.args.g.now (g.D.Device.model c.args.device.now) in
    elim c.in_default.branch [
      | in_default-via-in-Some+else-eq w ↦ inl (e.0, fits_other (sizes c.args.g.now) v c.args.handle.now _ e.1 _ w.in-Some.is (false-eqb _ _ w.if-eq.ensures))
      | in_default-via-in_default w ↦ inl (e.0, fits_none (sizes c.args.g.now) v c.args.handle.now _ e.1 w.in_default.is)
    ]
