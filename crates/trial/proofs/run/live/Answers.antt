use Rattle.std.proofs.Common.{rules, ◌<◌, length}
use Rattle.trial.specs.declared.call.Call.TheVariants.{Open}
use Rattle.trial.proofs.Living.{next_one}
use Rattle.trial.proofs.run.live.Goals as goal

pub loop-call-preserved : goal.loop-call-preserved
loop-call-preserved g c =
    let less : c.loop-call.call-index < length c.args.calls.now = search rules in
    next_one _ c.args.calls.now c.loop-call.call-index Open _ _ _ _ c.in_ok-after.answer less c.loop-call.invariant c.in_ok-after.ensures c.in_ok-push.ensures.items
