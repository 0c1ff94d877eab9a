use Rattle.std.proofs.Common.{◌≡◌, ℕ, ◌<◌, length, get_or, None}
use Rattle.survey.specs.Known.{slot_mark_by}
use Rattle.survey.proofs.slots.Slots.marks.Given as goal

abbrev pub invariant-loop-s : goal.invariant-loop-s
invariant-loop-s l = (length l.mark-items ≡ 256) × ((k : ℕ) → k < l.s → get_or l.mark-items k None ≡ slot_mark_by l.most l.self k)
