use Rattle.buffered.specs.Buffered.{waiting}
use Rattle.buffered.specs.Card.{on}
use Rattle.buffered.specs.Inner.{Sending}
use Rattle.buffered.proofs.buffered.BufferedDevice.sync.Given as goal

abbrev pub invariant-loop-top : goal.invariant-loop-top
invariant-loop-top g l = Sending (on l.initial.self) (on l.self)

abbrev pub decreases-loop-top : goal.decreases-loop-top
decreases-loop-top g l = waiting l.self.table
