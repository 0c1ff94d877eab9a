use Rattle.std.proofs.Common.{sym, ap, ◌∙◌}
use Rattle.std.proofs.lemmas.Result.{err_from_is_err_and}
use Rattle.layout.specs.Sizes.{sizes}
use Rattle.rule.specs.Agree.{root}
use Rattle.rule.specs.Reading.{path, components}
use Rattle.walk.specs.Still.{shows}
use Rattle.card.proofs.Walks.{ready_ok, path_bad, path_unready, path_ready, path_exit, path_told, path_noted, walk_quiet}
use Rattle.card.proofs.inner.Core.path.Goals as goal

pub returns-in_err-check_path : goal.returns-in_err-check_path
returns-in_err-check_path g c =
    let p = err_from_is_err_and c.from_residual.result c.from_residual.ensures.1 in
    record { reads = (0, path_exit (path c.args.path.now) c.args.self.now.ready (g.D.Device.model c.args.self.now.device) _ _ _ p.1 p.2 (path_bad c.args.path.now _ _ _ c.in_err-check_path.ensures)) }

pub returns-in_err-g : goal.returns-in_err-g
returns-in_err-g g c =
    let p = err_from_is_err_and c.from_residual-in_err-g.result c.from_residual-in_err-g.ensures.1 in
    record {
      reads = (
        0,
        path_exit (path c.args.path.now) c.args.self.now.ready (g.D.Device.model c.args.self.now.device) _ _ _ p.1 p.2
            (path_unready c.args.path.now _ c.in_ok-check_path.ensures c.args.self.now.ready _ (sym c.at_component.ensures ∙ c.in_err-g.was)),
      );
    }

pub returns-in-Err : goal.returns-in-Err
returns-in-Err g c =
    let m = g.D.Device.model c.args.self.now.device in
    let good = ready_ok c.args.self.now.ready c.in_ok-g.g (sym c.at_component.ensures ∙ c.in_ok-g.was) in
    let e = c.note.ensures in
    record {
      reads = (
        _,
        path_noted (path c.args.path.now) c.in_ok-g.g c.walk_path-answer.ensures (path_ready c.args.path.now m.shown c.in_ok-check_path.ensures c.args.self.now.ready c.in_ok-g.g good) c.in-Err.e c.in-Err.is good c.args.self.now.fitting
            (walk_quiet (sizes c.in_ok-g.g) (shows c.in_ok-g.g m) 0 root (components c.args.path.now)) (ap g.D.Device.model e.0) e.1,
      );
    }

pub returns-in_default : goal.returns-in_default
returns-in_default g c =
    let m = g.D.Device.model c.args.self.now.device in
    let good = ready_ok c.args.self.now.ready c.in_ok-g.g (sym c.at_component.ensures ∙ c.in_ok-g.was) in
    record { reads = (0, path_told (path c.args.path.now) c.in_ok-g.g c.walk_path-answer.ensures (path_ready c.args.path.now m.shown c.in_ok-check_path.ensures c.args.self.now.ready c.in_ok-g.g good) _ c.in_default.is) }
