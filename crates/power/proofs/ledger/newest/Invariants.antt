use Rattle.std.proofs.Common.{◌≡◌, drop}
use Rattle.power.specs.View.{newest_of, written}
use Rattle.power.proofs.ledger.newest.Given as goal

-- what is left of the log gives the answer
abbrev pub invariant-loop-put : goal.invariant-loop-put
invariant-loop-put l = newest_of l.shown (written (drop l.put-index l.log) l.at) ≡ newest_of l.initial.shown (written l.log l.at)
