use Rattle.std.proofs.Common.{take}
use Rattle.device.specs.Effect.{Altered, accepted}
use Rattle.device.proofs.effect.write_all.Given as goal

abbrev pub invariant-loop-put : goal.invariant-loop-put
invariant-loop-put g l =
    Altered accepted (take l.put-index l.puts) (g.D.Device.model l.initial.device) (g.D.Device.model l.device)
