use Rattle.std.proofs.Common.{Err, ap, ◌∙◌}
use Rattle.std.specs.Result.{result_map_both}
use Rattle.std.proofs.lemmas.Result.{err_from_is_err_and}
use Rattle.card.specs.Views.{surveying_view}
use Rattle.card.proofs.Surveys.{step_unready, step_over, stepped_seen, stepped_ok, stepped_err}
use Rattle.card.proofs.opened.Opened.step.Goals as goal

pub returns-in_err-g : goal.returns-in_err-g
returns-in_err-g g c =
    let me = c.args.self.now in
    let p = err_from_is_err_and c.from_residual.result c.from_residual.ensures.1 in
    record { surveys = step_unready me.core.ready me.progress (g.D.Device.model me.core.device) _ _ _ c.in_err-g.was (ap (result_map_both surveying_view (λ e. e)) p.1) p.2 }

pub returns-then-next-g : goal.returns-then-next-g
returns-then-next-g g c =
    let me = c.args.self.now in
    record { surveys = step_over c.in_ok-g.g me.core.ready c.in_ok-g.was me.progress (g.D.Device.model me.core.device) c.if-next-g.true }

pub invariant_of-self-2 : goal.invariant_of-self-2
invariant_of-self-2 g c =
    let me = c.args.self.now in
    record { seen = stepped_seen g.D.Device.model c.in_ok-g.g me.core.ready c.in_ok-g.was me.progress c.examine_next-examined.new.self (g.D.Device.model me.core.device) me.seen c.if-next-g.false c.examine_next-examined.ensures.examined c.keep.ensures }

pub returns-in_err-keep : goal.returns-in_err-keep
returns-in_err-keep g c =
    let me = c.args.self.now in
    let p = err_from_is_err_and c.from_residual-in_err-keep.result c.from_residual-in_err-keep.ensures.1 in
    record {
      surveys = stepped_err g.D.Device.model c.in_ok-g.g me.core.ready c.in_ok-g.was me.progress c.examine_next-examined.new.self (g.D.Device.model me.core.device) me.seen c.if-next-g.false c.examine_next-examined.ensures.examined c.keep.ensures
          _ c.in_err-keep.was c.examine_next-examined.ensures.kept _ (ap (result_map_both surveying_view (λ e. e)) (p.1 ∙ ap Err p.2));
    }

pub returns : goal.returns
returns g c =
    let me = c.args.self.now in
    record { surveys = stepped_ok g.D.Device.model c.in_ok-g.g me.core.ready c.in_ok-g.was me.progress c.examine_next-examined.new.self (g.D.Device.model me.core.device) me.seen c.if-next-g.false c.examine_next-examined.ensures.examined c.keep.ensures _ c.in_ok-keep.was }
