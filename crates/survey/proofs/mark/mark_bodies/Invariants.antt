use Rattle.std.proofs.Common.{◌≡◌, ℕ, ◌<◌, ◌≤◌, get_or, None}
use Rattle.survey.specs.Known.{body_mark_by}
use Rattle.survey.proofs.mark.mark_bodies.Given as goal

abbrev pub invariant-loop-mark : goal.invariant-loop-mark
invariant-loop-mark l =
    ((b : ℕ) → b < l.mark-index → get_or l.mark-items b None ≡ body_mark_by l.marks (get_or l.bodies b None))
    × ((b : ℕ) → l.mark-index ≤ b → get_or l.mark-items b None ≡ get_or l.bodies b None)
