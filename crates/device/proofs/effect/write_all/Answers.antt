use Rattle.std.proofs.Common.{◌≡◌, [], None, arith}
use Rattle.std.proofs.lemmas.Result.{err_from_is_err_and}
use Rattle.device.specs.Effect.{first_outside}
use Rattle.device.proofs.Effects.{altered_more, refused_at, cut_refused}
use Rattle.device.proofs.effect.write_all.Goals as goal

pub returns-in_err-write : goal.returns-in_err-write
returns-in_err-write g c =
    let p = err_from_is_err_and c.from_residual.result c.from_residual.ensures.1 in
    let m = g.D.Device.model in
    let inside : first_outside (m c.args.device.now).count c.args.puts.now ≡ None = let e = c.in_default.ensures in cc in
    let h = refused_at c.args.puts.now c.loop-put.put-index (record { block = record { 0 = 0 }; bytes = [] }) (omega arith) (m c.args.device.now) (m c.loop-put.device) (m c.write.new.self) c.loop-put.invariant inside c.in_err-write.field-0.0 c.in_err-write.ensures in
    record { answer = rw (p.1, p.2) h; cut = cut_refused c.args.puts.now (m c.args.device.now) (m c.write.new.self) c.in_err-write.field-0.0 h }

pub loop-put-preserved : goal.loop-put-preserved
loop-put-preserved g c =
    let m = g.D.Device.model in
    altered_more c.args.puts.now c.loop-put.put-index (record { block = record { 0 = 0 }; bytes = [] }) (omega arith) (m c.args.device.now) (m c.loop-put.device) (m c.write.new.self) c.loop-put.invariant c.in_ok-write.ensures
