use Rattle.std.proofs.Common.{sym, ◌∙◌}
use Rattle.walk.proofs.Stills.{still_then}
use Rattle.card.proofs.Progresses.{learned_moved, turn_agrees}
use Rattle.card.proofs.progress.Progress.examine_rest.Goals as goal

pub loop-self-preserved : goal.loop-self-preserved
loop-self-preserved g c = λ w.
    let z = c.args.g.now in
    let m = g.D.Device.model c.args.device.now in
    let k = g.D.Device.model c.loop-self.device in
    let v = c.loop-self.invariant w in
    let p = c.loop-self.self in
    let q = c.examine_next.new.self in
    let e = c.in_ok-examine_next.ensures.examined (learned_moved z m k p v.0.kept.shown v.1) in (
      still_then m k _ v.0 e.0,
      learned_moved z k m q (sym v.0.kept.shown) e.1.0,
      turn_agrees z m k p q v.0.kept.shown c.loop-self-test.true e.1.1 ∙ v.2,
    )
