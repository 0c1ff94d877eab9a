use Rattle.std.proofs.Common.{◌≡◌, ◌≤◌, [], ◌∷◌, length, get_or, drop}
use Rattle.power.specs.View.{written}
use Rattle.power.proofs.ledger.nth.Given as goal

-- what is left of the log has the answer
abbrev pub invariant-loop-put : goal.invariant-loop-put
invariant-loop-put l =
    (l.left ≤ length (written (drop l.put-index l.log) l.at))
    × (get_or (l.content ∷ written (drop l.put-index l.log) l.at) l.left [] ≡ get_or (l.initial.content ∷ written l.log l.at) l.initial.left [])
