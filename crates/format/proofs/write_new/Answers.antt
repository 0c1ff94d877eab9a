use Rattle.std.proofs.Common.{◌≡◌, take, arith}
use Rattle.std.proofs.lemmas.List.{take_all}
use Rattle.std.proofs.lemmas.Result.{err_from_is_err_and}
use Rattle.layout.specs.Sizes.{sizes}
use Rattle.format.specs.Formats.{new_card}
use Rattle.format.proofs.News.{as_many, card_inside, written_more, write_refused_at}
use Rattle.format.proofs.write_new.Goals as goal

pub loop-at-preserved : goal.loop-at-preserved
loop-at-preserved g c =
    let m = g.D.Device.model in
    written_more c.args.g.now c.loop-at.at _ (omega arith) c.new_block.ensures (m c.args.device.now) (m c.loop-at.device) (m c.write.new.self) c.loop-at.invariant c.in_ok-write.ensures

pub returns-in_err-write : goal.returns-in_err-write
returns-in_err-write g c =
    let p = err_from_is_err_and c.from_residual.result c.from_residual.ensures.1 in
    let m = g.D.Device.model in
    rw (p.1, p.2)
    (write_refused_at c.args.g.now c.loop-at.at _ (omega arith) c.new_block.ensures (m c.args.device.now) (m c.loop-at.device) (m c.write.new.self) c.loop-at.invariant c.requires c.in_err-write.field-0.0 c.in_err-write.ensures)

pub returns : goal.returns
returns g c =
    let card = new_card (sizes c.args.g.now) in
    let all : take c.loop-at.at card ≡ card = take_all c.loop-at.at card (omega (arith, as_many c.args.g.now)) in
    (card_inside c.args.g.now _ c.requires, rw all at c.loop-at.invariant)
