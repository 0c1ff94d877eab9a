-- Where a card on its device stands in its history.
use Rattle.history.specs.Events.{State, closed}
use Rattle.card.specs.Opened.{on as opened_on}
use Rattle.card.specs.Surveyed.{on as surveyed_on}
use Rattle.trial.specs.declared.stand.Stand.{Stand}
use Rattle.trial.specs.declared.stand.Stand.TheVariants.{Closed, Opened, Surveyed}

abbrev pub on : {D : Type 0} {d : _} → Stand D d → State
on {D} {d} (Closed m) = record { device = d.model m; card = closed }
on {D} {d} (Opened c) = opened_on c
on {D} {d} (Surveyed c) = surveyed_on c
