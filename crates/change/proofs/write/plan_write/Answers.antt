use Rattle.std.proofs.Common.{inl, arith}
use Rattle.std.proofs.lemmas.Result.{err_from_is_err_and}
use Rattle.walk.proofs.Stills.{still}
use Rattle.walk.proofs.Stepping.{refused_as}
use Rattle.change.proofs.Checks.{tells_of, gives_decided}
use Rattle.change.proofs.Writes.{too_long, no_file}
use Rattle.change.proofs.write.plan_write.Goals as goal

pub returns-then-bytes-gt496 : goal.returns-then-bytes-gt496
returns-then-bytes-gt496 g c t =
    let m = g.D.Device.model c.args.device.now in
    inl (still m, too_long c.args.known.now.geometry m _ _ _ _ (omega arith))

pub returns-in_err-file : goal.returns-in_err-file
returns-in_err-file g c t =
    let m = g.D.Device.model c.args.device.now in
    let tells = tells_of t in
    let p = err_from_is_err_and c.from_residual.result c.from_residual.ensures.1 in
    rw (p.1, p.2) (refused_as c.args.known.now.geometry _ _ _ _ _ (no_file c.args.known.now.geometry m _ _ _ _ (omega arith) _) (c.in_err-file.ensures tells))

pub returns : goal.returns
returns g c t =
    let m = g.D.Device.model c.args.device.now in
    let tells = tells_of t in
    let e = c.in_ok-file.ensures tells in
    rw (← e.1.0) (gives_decided c.args.known.now.geometry c.write_leaf.result _ _ m _ e.0 (c.write_leaf.ensures m (record { tells = tells; slot = e.1.1; short = omega arith })))
