use Rattle.std.proofs.Common.{◌≡◌, ℕ, ◌<◌, ◌≤◌, [], get_or, vec_items}
use Rattle.power.specs.Calls.{pick, chosen}
use Rattle.power.proofs.ledger.Ledger.land_all.Given as goal

-- what was chosen has landed below `at`; from there on nothing has changed
abbrev pub invariant-loop-at : goal.invariant-loop-at
invariant-loop-at l =
    ((k : ℕ) → k < l.at → get_or l.block-items k [] ≡ chosen (pick l.landing k) l.initial.block-items (vec_items l.fn.self.log) k)
    × ((k : ℕ) → l.at ≤ k → get_or l.block-items k [] ≡ get_or l.initial.block-items k [])
