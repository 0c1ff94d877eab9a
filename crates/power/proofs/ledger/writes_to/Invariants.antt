use Rattle.std.proofs.Common.{◌≡◌, ◌+◌, ◌≤◌, length, drop}
use Rattle.power.specs.View.{written}
use Rattle.power.proofs.ledger.writes_to.Given as goal

-- what is left of the log gives the answer
abbrev pub invariant-loop-put : goal.invariant-loop-put
invariant-loop-put l =
    (l.many ≤ l.put-index) × (l.many + length (written (drop l.put-index l.log) l.at) ≡ length (written l.log l.at))
