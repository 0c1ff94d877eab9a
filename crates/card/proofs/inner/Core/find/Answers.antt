use Rattle.std.proofs.Common.{Err, refl, ap, ◌∙◌}
use Rattle.std.proofs.lemmas.Result.{err_from_is_err_and}
use Rattle.layout.specs.Sizes.{sizes}
use Rattle.rule.specs.Reading.{find}
use Rattle.walk.specs.Still.{shows}
use Rattle.card_lists.specs.Ready.{ready_view}
use Rattle.card.proofs.Quiet.{step_quiet}
use Rattle.card.proofs.Cores.{core_exit, core_kept, find_bad, find_unready, find_ready}
use Rattle.card.proofs.inner.Core.find.Goals as goal

pub returns-in_err-check_name : goal.returns-in_err-check_name
returns-in_err-check_name g c =
    let p = err_from_is_err_and c.from_residual.result c.from_residual.ensures.1 in
    record { reads = core_exit (find c.args.folder.now c.args.name.now) c.args.self.now.ready (g.D.Device.model c.args.self.now.device) _ _ _ p.1 p.2 (find_bad c.args.folder.now c.args.name.now _ _ _ c.in_err-check_name.ensures) }

pub returns-in_err-g : goal.returns-in_err-g
returns-in_err-g g c =
    let p = err_from_is_err_and c.from_residual-in_err-g.result c.from_residual-in_err-g.ensures.1 in
    record { reads = core_exit (find c.args.folder.now c.args.name.now) c.args.self.now.ready (g.D.Device.model c.args.self.now.device) _ _ _ p.1 p.2 (find_unready c.args.folder.now c.args.name.now _ _ _ c.in_ok-check_name.ensures (ap ready_view c.in_err-g.was)) }

pub returns-in_err-keep : goal.returns-in_err-keep
returns-in_err-keep g c =
    let p = err_from_is_err_and c.from_residual-in_err-keep.result c.from_residual-in_err-keep.ensures.1 in
    let m = g.D.Device.model c.args.self.now.device in
    let at = find_ready c.args.folder.now c.args.name.now m.shown _ _ c.in_ok-check_name.ensures (ap ready_view c.in_ok-g.was) in
    record {
      reads = core_kept g.D.Device.model (find c.args.folder.now c.args.name.now) (λ h. h.child.handle) c.find_child-found.ensures c.in_ok-g.was c.args.self.now.fitting (step_quiet (sizes c.in_ok-g.g) (shows c.in_ok-g.g m) c.args.folder.now c.args.name.now)
          (λ a q. at ∙ q.child) (λ e q. at ∙ q) c.in_err-keep.ensures (p.1 ∙ ap Err p.2);
    }

pub returns : goal.returns
returns g c =
    let m = g.D.Device.model c.args.self.now.device in
    let at = find_ready c.args.folder.now c.args.name.now m.shown _ _ c.in_ok-check_name.ensures (ap ready_view c.in_ok-g.was) in
    record {
      reads = core_kept g.D.Device.model (find c.args.folder.now c.args.name.now) (λ h. h.child.handle) c.find_child-found.ensures c.in_ok-g.was c.args.self.now.fitting (step_quiet (sizes c.in_ok-g.g) (shows c.in_ok-g.g m) c.args.folder.now c.args.name.now)
          (λ a q. at ∙ q.child) (λ e q. at ∙ q) c.in_ok-keep.ensures refl;
    }
