use Rattle.std.proofs.Common.{Err, refl, ap, ◌∙◌}
use Rattle.std.specs.Result.{result_map_both}
use Rattle.std.proofs.lemmas.Result.{err_from_is_err_and}
use Rattle.layout.specs.Sizes.{sizes}
use Rattle.rule.specs.Reading.{status}
use Rattle.walk.specs.Still.{shows}
use Rattle.card_lists.specs.Ready.{ready_view}
use Rattle.card.specs.Views.{status_view}
use Rattle.card.proofs.Quiet.{fits_quiet}
use Rattle.card.proofs.Cores.{core_exit, core_kept, status_unready, status_refused, status_told}
use Rattle.card.proofs.inner.Core.status.Goals as goal

pub returns-in_err-g : goal.returns-in_err-g
returns-in_err-g g c =
    let p = err_from_is_err_and c.from_residual.result c.from_residual.ensures.1 in
    record { reads = core_exit (status c.args.handle.now) c.args.self.now.ready (g.D.Device.model c.args.self.now.device) _ _ _ (ap (result_map_both status_view (λ e. e)) p.1) p.2 (status_unready c.args.handle.now _ _ _ (ap ready_view c.in_err-g.was)) }

pub returns-in_err-slot : goal.returns-in_err-slot
returns-in_err-slot g c =
    let p = err_from_is_err_and c.from_residual-in_err-slot.result c.from_residual-in_err-slot.ensures.1 in
    let m = g.D.Device.model c.args.self.now.device in
    record {
      reads = core_kept g.D.Device.model (status c.args.handle.now) (λ s. record { kind = s.kind; count = s.count; parent = s.parent }) c.read_handle-answer.ensures c.in_ok-g.was c.args.self.now.fitting (fits_quiet (sizes c.in_ok-g.g) (shows c.in_ok-g.g m) c.args.handle.now)
          (λ s q. status_told c.args.handle.now m.shown _ _ s (ap ready_view c.in_ok-g.was) q) (λ e q. status_refused c.args.handle.now m.shown _ _ e (ap ready_view c.in_ok-g.was) q) c.in_err-slot.ensures (ap (result_map_both status_view (λ e. e)) (p.1 ∙ ap Err p.2));
    }

pub returns : goal.returns
returns g c =
    let m = g.D.Device.model c.args.self.now.device in
    record {
      reads = core_kept g.D.Device.model (status c.args.handle.now) (λ s. record { kind = s.kind; count = s.count; parent = s.parent }) c.read_handle-answer.ensures c.in_ok-g.was c.args.self.now.fitting (fits_quiet (sizes c.in_ok-g.g) (shows c.in_ok-g.g m) c.args.handle.now)
          (λ s q. status_told c.args.handle.now m.shown _ _ s (ap ready_view c.in_ok-g.was) q) (λ e q. status_refused c.args.handle.now m.shown _ _ e (ap ready_view c.in_ok-g.was) q) c.in_ok-slot.ensures refl;
    }
