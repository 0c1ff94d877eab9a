use Rattle.std.proofs.Common.{◌∙◌, arith}
use Rattle.std.proofs.lemmas.Result.{err_from_is_err_and}
use Rattle.rule.proofs.Syncs.{landed_is}
use Rattle.format.proofs.News.{format_outside, format_small, write_refused, sync_refused, sync_answered, refused_early}
use Rattle.format.proofs.format.Goals as goal

pub returns-in_default : goal.returns-in_default
returns-in_default g c =
    let m = g.D.Device.model c.args.device.now in
    refused_early c.args.blocks c.args.slots m _ (format_outside m.count c.args.blocks c.args.slots c.in_default.ensures)

pub returns-then-count-blocks : goal.returns-then-count-blocks
returns-then-count-blocks g c =
    let m = g.D.Device.model c.args.device.now in
    refused_early c.args.blocks c.args.slots m _ (format_small m.count c.args.blocks c.args.slots c.in-Some.ensures.0 (omega (arith, c.count.ensures, c.if-count-blocks.true)))

pub returns-in_err-write_new : goal.returns-in_err-write_new
returns-in_err-write_new g c =
    let p = err_from_is_err_and c.from_residual.result c.from_residual.ensures.1 in
    write_refused c.in-Some.g c.args.blocks c.args.slots c.in-Some.ensures.1 c.in-Some.ensures.2 (g.D.Device.model c.args.device.now) _ _ (omega (arith, c.count.ensures, c.if-count-blocks.false)) _ c.in_err-write_new.field-0.0 p.1 p.2 c.in_err-write_new.ensures

pub returns-in_err-sync : goal.returns-in_err-sync
returns-in_err-sync g c =
    let p = err_from_is_err_and c.from_residual-in_err-sync.result c.from_residual-in_err-sync.ensures.1 in
    sync_refused c.in-Some.g c.args.blocks c.args.slots c.in-Some.ensures.1 c.in-Some.ensures.2 (g.D.Device.model c.args.device.now) _ _ (omega (arith, c.count.ensures, c.if-count-blocks.false)) _ _ c.in_err-sync.field-0.0 c.in_ok-write_new.ensures.1 p.1 p.2 c.in_err-sync.ensures

pub returns : goal.returns
returns g c =
    sync_answered c.in-Some.g c.args.blocks c.args.slots c.in-Some.ensures.1 c.in-Some.ensures.2 (g.D.Device.model c.args.device.now) _ _ (omega (arith, c.count.ensures, c.if-count-blocks.false)) (g.D.Device.model c.write_new.new.device) _ c.in_ok-write_new.ensures.1 (c.landed.ensures ∙ landed_is _) c.in_ok-sync.ensures
