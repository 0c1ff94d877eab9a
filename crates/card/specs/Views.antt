-- What the answers of a card's calls stand for.
use Rattle.std.specs.Prelude.{ℕ}
use Rattle.rule.specs.Reading as rule_of_reading
use Rattle.card.specs.declared.inner.Status.{Status}
use Rattle.card.specs.declared.opened.Surveying.{Surveying}
use Rattle.card.specs.declared.surveyed.Space.{Space}

abbrev pub status_view : Status → rule_of_reading.Status
status_view s = record { kind = s.kind; count = s.count; parent = s.parent }

-- what a step of the survey answers
abbrev pub surveying_view : Surveying → ℕ × ℕ
surveying_view s = (s.remain, s.highest.0)

abbrev pub space_view : Space → rule_of_reading.Space
space_view s = record { bodies = s.bodies; slots = s.slots }
