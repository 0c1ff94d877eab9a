-- What a device answers to a sync is what the rule has a card answer.
use Rattle.std.proofs.Common.{◌≡◌, refl}
use Rattle.device.specs.Answers.{landed}
use Rattle.device.specs.declared.fault.Synced.{Synced}
use Rattle.device.specs.declared.fault.Synced.TheVariants.{Settled, Unsure}
use Rattle.rule.specs.Changing.{synced}

pub landed_is : (a : Synced) → landed a ≡ synced a
unfolding synced
landed_is Settled = refl
landed_is Unsure = refl
