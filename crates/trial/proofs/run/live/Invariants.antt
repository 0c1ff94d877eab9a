use Rattle.std.proofs.Common.{take}
use Rattle.history.specs.Events.{closed}
use Rattle.trial.specs.Stands.{on}
use Rattle.trial.specs.Record.{Follows}
use Rattle.trial.proofs.run.live.Given as goal

-- what was done so far
abbrev pub invariant-loop-call : goal.invariant-loop-call
invariant-loop-call g l = Follows (record { device = g.D.Device.model l.fn.device; card = closed }) (take l.call-index l.calls) l.answers.items (on l.stand)
