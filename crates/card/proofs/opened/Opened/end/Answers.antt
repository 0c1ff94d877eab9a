use Rattle.std.proofs.Common.{sym, refl, ap, ◌∙◌, subst}
use Rattle.history.specs.Events.{Ends}
use Rattle.change.specs.declared.plan.Memory.{Memory}
use Rattle.card_lists.specs.Ready.{Kept}
use Rattle.card.specs.Valid.{Sees, Seen, Knows, opened_state}
use Rattle.card.proofs.Surveys.{end_unready, end_done, end_knows, end_refused, surveyed_same}
use Rattle.card.proofs.opened.Opened.end.Goals as goal

pub returns-in-Err : goal.returns-in-Err
returns-in-Err g c =
    let me = c.args.self in
    let m = g.D.Device.model me.core.device in
    let u = c.unsurveyed.ensures in
    record { ends = subst (Ends (opened_state me.core.ready me.progress m)) (sym (surveyed_same (u.1 ∙ sym c.in-Err.is) u.2 (ap g.D.Device.model u.0))) (end_unready me.core.ready me.progress m _ c.in-Err.is) }

pub returns-in-Err-examine_rest : goal.returns-in-Err-examine_rest
returns-in-Err-examine_rest g c =
    let me = c.args.self in
    let m = g.D.Device.model me.core.device in
    let v : Sees c.in-Ok.g me.progress m = subst (λ (z : Kept). Seen z me.progress m) c.in-Ok.is me.seen in
    let u = c.unsurveyed-in-Err-examine_rest.ensures in
    record {
      ends = subst (Ends (opened_state me.core.ready me.progress m)) (sym (surveyed_same u.1 u.2 (ap g.D.Device.model u.0)))
          (end_refused c.in-Ok.g me.core.ready c.in-Ok.is me.progress m (g.D.Device.model c.examine_rest.new.device) c.in-Err-examine_rest.refusal v (c.in-Err-examine_rest.ensures v.learned));
    }

pub invariant_of-result-2 : goal.invariant_of-result-2
invariant_of-result-2 g c =
    let me = c.args.self in
    let m = g.D.Device.model me.core.device in
    let n = g.D.Device.model c.examine_rest.new.device in
    let v : Sees c.in-Ok.g me.progress m = subst (λ (z : Kept). Seen z me.progress m) c.in-Ok.is me.seen in
    let e = c.in_default.ensures v.learned in
    record {
      known = subst (λ (z : Memory). Knows c.in-Ok.g z c.finish.result n) (sym c.first_memory.ensures.memory)
          (end_knows c.in-Ok.g me.core.ready c.in-Ok.is me.progress m c.examine_rest.new.self n e.1.1 e.1.2 e.0 c.finish.result c.first_memory.ensures.narrow e.1.0 v c.finish.ensures.whole c.finish.ensures.agrees);
    }

pub returns : goal.returns
returns g c =
    let me = c.args.self in
    let m = g.D.Device.model me.core.device in
    let n = g.D.Device.model c.examine_rest.new.device in
    let v : Sees c.in-Ok.g me.progress m = subst (λ (z : Kept). Seen z me.progress m) c.in-Ok.is me.seen in
    let e = c.in_default.ensures v.learned in
    record {
      ends = subst (Ends (opened_state me.core.ready me.progress m)) (sym (surveyed_same (sym c.in-Ok.is) c.first_memory.ensures.memory refl))
          (end_done c.in-Ok.g me.core.ready c.in-Ok.is me.progress m c.examine_rest.new.self n e.1.1 e.1.2 e.0);
    }
