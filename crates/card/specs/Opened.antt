-- A card only opened, on its device.
use Rattle.history.specs.Events.{State, opened}
use Rattle.rule.specs.Card as rule_of_card
use Rattle.card_lists.specs.Ready.{ready_view}
use Rattle.card.specs.Progress.{so_far}
use Rattle.card.specs.declared.opened.Opened.{Opened}

abbrev pub opened_view : {D : Type 0} {d : _} → Opened D d → rule_of_card.Opened
opened_view c = so_far (ready_view c.core.ready) c.progress

-- where it stands in its history
abbrev pub on : {D : Type 0} {d : _} → Opened D d → State
on {D} {d} c = record { device = d.model c.core.device; card = opened (opened_view c) }
