use Rattle.std.proofs.Common.{◌≡◌, refl, arith}
use Rattle.std.proofs.lemmas.Result.{err_from_is_err_and}
use Rattle.buffered.specs.Steps.{met}
use Rattle.buffered.proofs.Buffers.{sending_none, sending_more, fewer_wait, sync_halted, sync_answered}
use Rattle.buffered.proofs.buffered.BufferedDevice.sync.Goals as goal
use Rattle.buffered.proofs.buffered.BufferedDevice.sync.Goals.{in-Err-PowerGone, in_default-matches, in_default-matches-2}

pub loop-top-init : goal.loop-top-init
loop-top-init g c = sending_none _ c.if-self.false

pub loop-top-smaller : goal.loop-top-smaller
loop-top-smaller g c = fewer_wait _ _ _ c.in_ok-send_down.ensures

pub loop-top-preserved : goal.loop-top-preserved
loop-top-preserved g c = sending_more _ _ c.loop-top.invariant _ _ c.in_ok-send_down.ensures

pub returns-in_err-send_down : goal.returns-in_err-send_down
returns-in_err-send_down g c =
    let p = err_from_is_err_and c.from_residual.result c.from_residual.ensures.1 in
    let h = c.in_err-send_down.ensures in
    let ends = sync_halted _ _ c.loop-top.invariant _ _ (record { 0 = 65535 }) refl c.in-Some.ensures.top c.loop-top.self.inside h.1 in
    record { answer = rw (p.1, p.2, h.0) ends.answer; exact = rw (p.1, p.2, h.0) ends.exact }

pub returns : goal.returns
returns g c =
    let is : c.match-matches.self ≡ met c.sync-answer.result = elim c.match-matches.branch [ in-Err-PowerGone w ↦ grind arith | in_default-matches w ↦ grind arith | in_default-matches-2 w ↦ grind arith ] in
    let ends = sync_answered _ _ c.loop-top.invariant c.in_default.ensures _ _ _ c.if-self.false is c.sync-answer.ensures in
    record { answer = grind (arith, ends.answer); exact = grind (arith, ends.exact) }
