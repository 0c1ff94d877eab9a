-- What a cut does to a buffered card.
use Rattle.device.specs.Model.{Model, Cut}
use Rattle.buffered.specs.Buffered.{State, buffered}

-- After a cut nothing waits: a device found after a cut of the one below is one that may be found after a cut of the buffered card.
abbrev pub CutBelowIsCut : Type 0
CutBelowIsCut = (s : State) (n : Model) → Cut s.below n → Cut (buffered s) n
