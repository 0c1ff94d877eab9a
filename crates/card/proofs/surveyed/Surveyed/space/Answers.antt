use Rattle.std.proofs.Common.{ap}
use Rattle.std.specs.Result.{result_map_both}
use Rattle.std.proofs.lemmas.Result.{err_from_is_err_and}
use Rattle.card.specs.Views.{space_view}
use Rattle.card.proofs.Plans.{is_known}
use Rattle.card.proofs.Syncs.{space_early, space_told}
use Rattle.card.proofs.surveyed.Surveyed.space.Goals as goal

pub returns-in_err-g : goal.returns-in_err-g
returns-in_err-g g c =
    let me = c.args.self.now in
    let p = err_from_is_err_and c.from_residual.result c.from_residual.ensures.1 in
    record { reads = space_early me.core.ready me.memory (g.D.Device.model me.core.device) _ _ _ c.in_err-g.was (ap (result_map_both space_view (λ e. e)) p.1) p.2 }

pub returns : goal.returns
returns g c =
    let me = c.args.self.now in
    let m = g.D.Device.model me.core.device in
    record { reads = space_told me.core.ready c.in_ok-g.g me.memory me.marks m _ _ c.in_ok-g.was (is_known me.core.ready c.in_ok-g.g me.memory me.marks m c.in_ok-g.was me.known) c.bodies_left.ensures c.slots_left.ensures }
