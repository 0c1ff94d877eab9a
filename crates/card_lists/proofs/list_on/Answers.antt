use Rattle.layout.specs.Sizes.{sizes}
use Rattle.card_lists.proofs.Lining.{unready, listing}
use Rattle.card_lists.proofs.list_on.Goals as goal

pub returns-in-Ok : goal.returns-in-Ok
returns-in-Ok g c = λ fit.
    let m = g.D.Device.model c.args.device.now in
    listing g.A.Asked.line_of g.A.Line.Line.zero (g.A.Asked.rule c.args.asked.now) c.args.ready.now m c.args.lines.now c.list_all-answer.new.lines c.in-Ok.g c.in-Ok.is fit
    (g.met.A.Asked.spared c.args.asked.now (sizes c.in-Ok.g) m.shown)
    c.list_all-answer.result c.keep_gone.new.ready (g.D.Device.model c.list_all-answer.new.device) c.keep_gone.ensures c.list_all-answer.ensures

pub returns-in-Err : goal.returns-in-Err
returns-in-Err g c = λ fit.
    let m = g.D.Device.model c.args.device.now in
    unready g.A.Asked.line_of g.A.Line.Line.zero (g.A.Asked.rule c.args.asked.now) c.args.ready.now m c.args.lines.now c.zero_if_gone.new.lines c.in-Err.e c.in-Err.is
    (g.met.A.Asked.handed_on c.args.asked.now c.in-Err.e m.shown) c.zero_if_gone.ensures
