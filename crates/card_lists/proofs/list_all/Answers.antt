use Rattle.std.proofs.Common.{◌≡◌, length, rules}
use Rattle.layout.specs.Sizes.{sizes}
use Rattle.card_lists.proofs.Lining.{lined}
use Rattle.card_lists.proofs.list_all.Goals as goal

pub returns : goal.returns
returns g c =
    let m = g.D.Device.model c.args.device.now in
    let long : length c.fill-answer.new.lines ≡ length c.args.lines.now = search rules in
    lined g.A.Asked.line_of c.args.g.now _ m _ c.args.lines.now g.A.Line.Line.zero c.fill-answer.result c.fill-answer.new.lines _ long c.zero_if_gone.ensures
    (g.met.A.Asked.spared c.args.asked.now (sizes c.args.g.now) m.shown) c.fill-answer.ensures
