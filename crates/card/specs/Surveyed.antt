-- A surveyed card, on its device.
use Rattle.history.specs.Events.{State, surveyed}
use Rattle.rule.specs.Card as rule_of_card
use Rattle.card.specs.Valid.{memory_view}
use Rattle.card.specs.declared.surveyed.Surveyed.{Surveyed}

abbrev pub surveyed_view : {D : Type 0} {d : _} → Surveyed D d → rule_of_card.Card
surveyed_view c = memory_view c.core.ready c.memory

-- where it stands in its history
abbrev pub on : {D : Type 0} {d : _} → Surveyed D d → State
on {D} {d} c = record { device = d.model c.core.device; card = surveyed (surveyed_view c) }
