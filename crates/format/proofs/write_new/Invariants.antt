use Rattle.std.proofs.Common.{take}
use Rattle.device.specs.Effect.{Altered, accepted}
use Rattle.layout.specs.Sizes.{sizes}
use Rattle.format.specs.Formats.{new_card}
use Rattle.format.proofs.write_new.Given as goal

abbrev pub invariant-loop-at : goal.invariant-loop-at
invariant-loop-at g l =
    Altered accepted (take l.at (new_card (sizes l.g))) (g.D.Device.model l.initial.device) (g.D.Device.model l.device)
