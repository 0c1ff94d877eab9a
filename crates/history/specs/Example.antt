-- A history that there is: a file is made and written, a sync settles, a create is broken off, and the power is cut.
-- The broken-off create has left its slot but no entry: the first file reads as at the sync, and a new create gets another identity.
use Rattle.std.specs.Prelude.{◌≡◌, ℕ, List, [], ◌∷◌, Ok, Err}
use Rattle.base.specs.declared.owner.Kind.TheVariants.{File}
use Rattle.base.specs.declared.refusal.Refusal.TheVariants.{PowerGone}
use Rattle.layout.specs.Format.{Name, Geometry, handle}
use Rattle.rule.specs.Agree.{root}
use Rattle.rule.specs.Card.{block}
use Rattle.history.specs.Events.{State, Event, opening, ending, path, read, create, write, sync, cut}
use Rattle.history.specs.History.{Moment, History}

abbrev pub small : Geometry
small = record { blocks = 8; slots = 3 }

abbrev pub alto : Name
alto = 97 ∷ 108 ∷ 116 ∷ 111 ∷ []

abbrev pub bass : Name
bass = 98 ∷ 97 ∷ 115 ∷ 115 ∷ []

abbrev pub ABC : List ℕ
ABC = 65 ∷ 66 ∷ 67 ∷ []

abbrev pub events : List Moment → List Event
events [] = []
events (m ∷ ms) = m.event ∷ events ms

-- the newest first
abbrev pub story : List Event
story =
    create File root bass (Ok (handle 2 4)) ∷
    read (handle 1 2) 0 496 (Ok ABC) ∷
    path alto (Ok (handle 1 2)) ∷
    ending ∷
    opening ∷
    cut ∷
    create File root bass (Err (PowerGone (block 4))) ∷
    sync (Ok tt) ∷
    write (handle 1 2) 0 ABC (Ok tt) ∷
    create File root alto (Ok (handle 1 2)) ∷
    ending ∷
    opening ∷
    []

abbrev pub ItHappens : Type 0
ItHappens = (s : State) × (ms : List Moment) × History small s ms × (events ms ≡ story)
