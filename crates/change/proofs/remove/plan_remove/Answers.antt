use Rattle.std.proofs.Common.{refl, inl, inr}
use Rattle.std.proofs.lemmas.Result.{err_from_is_err_and}
use Rattle.walk.proofs.Stills.{still, still_then, failed_then}
use Rattle.walk.proofs.Stepping.{refused_as}
use Rattle.change.proofs.Checks.{tells_of}
use Rattle.change.proofs.Removes.{bad_name, no_folder, no_name}
use Rattle.change.proofs.Sounding.{named_none, named_some}
use Rattle.change.proofs.remove.plan_remove.Goals as goal

pub returns-in_err-check_name : goal.returns-in_err-check_name
returns-in_err-check_name g c t =
    let m = g.D.Device.model c.args.device.now in
    let p = err_from_is_err_and c.from_residual.result c.from_residual.ensures.1 in
    rw (p.1, p.2) (inl (still m, bad_name c.args.known.now.geometry m _ _ _ _ c.in_err-check_name.ensures))

pub returns-in_err-folder : goal.returns-in_err-folder
returns-in_err-folder g c t =
    let m = g.D.Device.model c.args.device.now in
    let tells = tells_of t in
    let p = err_from_is_err_and c.from_residual-in_err-folder.result c.from_residual-in_err-folder.ensures.1 in
    rw (p.1, p.2) (refused_as c.args.known.now.geometry _ _ _ _ _ (no_folder c.args.known.now.geometry m _ _ _ c.in_ok-check_name.ensures _) (c.in_err-folder.ensures tells))

pub returns-in_err-scan : goal.returns-in_err-scan
returns-in_err-scan g c t =
    let m = g.D.Device.model c.args.device.now in
    let tells = tells_of t in
    let e = c.in_ok-folder.ensures tells in
    let p = err_from_is_err_and c.from_residual-in_err-scan.result c.from_residual-in_err-scan.ensures.1 in
    rw (p.1, p.2) (inr (c.in_err-scan.field-0.0, refl, failed_then c.args.known.now.geometry _ _ _ c.in_err-scan.field-0.0 e.0 c.in_err-scan.ensures))

pub returns-in_default : goal.returns-in_default
returns-in_default g c t =
    let m = g.D.Device.model c.args.device.now in
    let tells = tells_of t in
    let e = c.in_ok-folder.ensures tells in
    let d = c.in_ok-scan.ensures in
    let none = named_none c.args.known.now.geometry _ _ _ _ _ _ _ tells e.0 e.1.1 d.1 c.in_default.is in
    rw (← e.1.0) (inl (still_then _ _ _ e.0 d.0, no_name c.args.known.now.geometry m _ _ _ c.in_ok-check_name.ensures _ e.1.1 none))

pub returns : goal.returns
returns g c t =
    let m = g.D.Device.model c.args.device.now in
    let tells = tells_of t in
    let e = c.in_ok-folder.ensures tells in
    let d = c.in_ok-scan.ensures in
    let some = named_some c.args.known.now.geometry _ _ _ _ _ _ _ tells e.0 e.1.1 d.1 c.in-Some.spot c.in-Some.is in
    rw (← e.1.0) (c.remove_found.ensures m c.args.name.now (still_then _ _ _ e.0 d.0)
    (record { rooted = t.rooted; tells = tells; name = c.in_ok-check_name.ensures; slot = e.1.1; place = some.0; is = some.1; spot = some.2 }))
