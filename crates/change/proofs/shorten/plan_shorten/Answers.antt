use Rattle.std.proofs.lemmas.Result.{err_from_is_err_and}
use Rattle.walk.proofs.Stepping.{refused_as}
use Rattle.change.proofs.Checks.{tells_of, gives_decided}
use Rattle.change.proofs.Shortens.{no_file}
use Rattle.change.proofs.shorten.plan_shorten.Goals as goal

pub returns-in_err-file : goal.returns-in_err-file
returns-in_err-file g c t =
    let m = g.D.Device.model c.args.device.now in
    let tells = tells_of t in
    let p = err_from_is_err_and c.from_residual.result c.from_residual.ensures.1 in
    rw (p.1, p.2) (refused_as c.args.known.now.geometry _ _ _ _ _ (no_file c.args.known.now.geometry m _ _ _ _) (c.in_err-file.ensures tells))

pub returns : goal.returns
returns g c t =
    let m = g.D.Device.model c.args.device.now in
    let tells = tells_of t in
    let e = c.in_ok-file.ensures tells in
    rw (← e.1.0) (gives_decided c.args.known.now.geometry c.shorten_file.result _ _ m _ e.0 (c.shorten_file.ensures m e.1.1))
