use Rattle.std.proofs.Common.{◌≡◌, drop}
use Rattle.power.specs.Calls.{replay}
use Rattle.power.proofs.ledger.land.Given as goal

-- what is left of the log leads to the same blocks
abbrev pub invariant-loop-put : goal.invariant-loop-put
invariant-loop-put l = replay l.settled (drop l.put-index l.log) ≡ replay l.initial.settled l.log
