use Rattle.std.proofs.Common.{◌≡◌, ◌<◌, length, arith, le_refl}
use Rattle.power.specs.Calls.{chosen, pick}
use Rattle.power.proofs.Logs.{chosen_is, landed_more, landed_above}
use Rattle.power.proofs.ledger.Ledger.land_all.Goals as goal

pub loop-at-preserved : goal.loop-at-preserved
loop-at-preserved c =
    let log = c.args.self.now.log.items in
    let ts = c.loop-at.block-items in
    let at = c.loop-at.at in
    let inv = c.loop-at.invariant in
    let l : at < length ts = omega arith in
    let is : c.landing_at.result ≡ chosen (pick c.args.landing.now at) ts log at = chosen_is ts log at l _ _ (rw (c.deref.ensures.value, c.pick.ensures) at c.landing_at.ensures) in (
      landed_more _ _ ts log at _ (omega arith) (omega arith) inv.0 (inv.1 at (le_refl at)) is,
      landed_above _ ts at _ inv.1,
    )
