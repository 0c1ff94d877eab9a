use Rattle.std.proofs.Common.{◌≡◌, Err, subst}
use Rattle.std.proofs.lemmas.Result.{err_from_is_err_and}
use Rattle.base.specs.declared.refusal.Refusal.{Refusal}
use Rattle.format.specs.Formats.{Formats}
use Rattle.trial.proofs.Living.{formatted, lived, same_refusal}
use Rattle.trial.proofs.run.run.Goals as goal

pub returns-in_err-format-clause-refused : goal.returns-in_err-format-clause-refused
returns-in_err-format-clause-refused g c e is =
    let p = err_from_is_err_and c.from_residual.result c.from_residual.ensures.1 in
    let same : c.in_err-format.field-0.0 ≡ e = same_refusal _ _ _ _ p.1 p.2 is in
    (_, subst (λ (x : Refusal). Formats c.args.blocks c.args.slots (g.D.Device.model c.args.device) (Err x) (g.D.Device.model c.format.new.device)) same c.in_err-format.ensures)

pub returns-clause-lived : goal.returns-clause-lived
returns-clause-lived g c = lived c.args.blocks c.args.slots _ _ _ _ (formatted c.args.blocks c.args.slots _ _ c.in_ok-format.ensures) c.in_ok-live.ensures
