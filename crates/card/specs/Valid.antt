-- What holds of every card that there is: its type says it.
use Rattle.std.specs.Prelude.{◌≡◌, ◌≤◌, Ok, Err}
use Rattle.device.specs.Model.{Model}
use Rattle.history.specs.Events.{State, opened as in_opening, surveyed as in_use}
use Rattle.layout.specs.Sizes.{sizes}
use Rattle.layout.specs.declared.geometry.Geometry.{Geometry as CardGeometry}
use Rattle.marks.specs.Marks.{Agree}
use Rattle.marks.specs.declared.mark.Marks.{Marks}
use Rattle.moves.specs.Tied.{Tied}
use Rattle.moves.specs.Marking.{Room}
use Rattle.walk.specs.Still.{shows}
use Rattle.change.specs.Plans.{card_view}
use Rattle.change.specs.declared.plan.Memory.{Memory}
use Rattle.card_lists.specs.Ready.{Kept, ready_view}
use Rattle.rule.specs.Card.{Card, opening, opened, surveyed}
use Rattle.card.specs.Progress.{Learned, so_far}
use Rattle.card.specs.declared.progress.Progress.{Progress}

-- a good card only opened: it is no larger than its device, and what its survey has learned so far is true of the blocks shown
pub record Sees (g : CardGeometry) (p : Progress) (m : Model) : Type 0 where
  pub fits : g.blocks ≤ m.count
  pub opens : opening m.count m.shown ≡ Ok (sizes g)
  pub learned : Learned g m p
  -- the survey will end as one that starts now
  pub agrees : surveyed (so_far (Ok (sizes g)) p) m.shown ≡ surveyed (opened m.count m.shown) m.shown

abbrev pub Seen : Kept → Progress → Model → Type 0
Seen (Ok g) p m = Sees g p m
Seen (Err e) p m = Unit {0}

-- a good surveyed card: it is no larger than its device, its memory is tied to the blocks shown, and its marks agree with them
pub record Knows (g : CardGeometry) (mem : Memory) (ms : Marks) (m : Model) : Type 0 where
  pub fits : g.blocks ≤ m.count
  pub tied : Tied (sizes g) (card_view g mem) m.shown
  pub marked : Agree (sizes g) (shows g m) ms
  pub room : Room (sizes g) ms

-- nothing is said of a card that is bad or has met power gone
abbrev pub Known : Kept → Memory → Marks → Model → Type 0
Known (Ok g) mem ms m = Knows g mem ms m
Known (Err e) mem ms m = Unit {0}

-- ---- where such a card stands in its history

abbrev pub opened_state : Kept → Progress → Model → State
opened_state c p m = record { device = m; card = in_opening (so_far (ready_view c) p) }

abbrev pub memory_view : Kept → Memory → Card
memory_view c mem = record { ready = ready_view c; highest = mem.highest.0; next_slot = mem.next_slot; next_body = mem.next_body }

abbrev pub surveyed_state : Kept → Memory → Model → State
surveyed_state c mem m = record { device = m; card = in_use (memory_view c mem) }
