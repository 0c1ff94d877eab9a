-- Whole histories of one card since an accepted format, and what each of their calls made.
use Rattle.std.specs.Prelude.{◌≡◌, ℕ, suc, Bool, false, cond, List, [], ◌∷◌, ◌++◌, length, Ok, Err, Result}
use Rattle.base.specs.declared.owner.Kind.{Kind}
use Rattle.base.specs.declared.owner.Handle.{Handle}
use Rattle.device.specs.Model.{Model, Settled}
use Rattle.device.specs.Effect.{accepted, Altered}
use Rattle.device.specs.declared.put.Put.{Put}
use Rattle.layout.specs.Format.{Name, Geometry}
use Rattle.rule.specs.Agree.{Shown, same_handle}
use Rattle.rule.specs.Card.{Card}
use Rattle.rule.specs.Reading as rule_of_reading
use Rattle.rule.specs.Changing as rule_of_changing
use Rattle.history.specs.Events.{Phase, closed, opened, surveyed, State, Event, opening, survey, ending, find, path, list, status, damage, space, read, create, write, shorten, remove, sync, cut, Step}

-- a format of a card of geometry g has just been accepted: its blocks were written on some device, and a sync settled
pub record Formatted (g : Geometry) (s : State) : Type 0 where
  pub before : Model
  pub written : Model
  pub puts : List Put
  pub plan : rule_of_changing.format before.count g.blocks g.slots ≡ Ok puts
  pub altered : Altered accepted puts before written
  pub settled : Settled written s.device
  pub card : s.card ≡ closed

-- an event, and the state that it left
pub record Moment : Type 0 where
  pub event : Event
  pub state : State

-- the state after these moments, the newest of which stands first
abbrev pub present : State → List Moment → State
present s [] = s
present s (m ∷ ms) = m.state

-- the moments ms follow one another, from a format that left s
abbrev pub History : Geometry → State → List Moment → Type 0
History g s [] = Formatted g s
History g s (m ∷ ms) = History g s ms × Step (present s ms) m.event m.state

-- ---- what was made

-- what a changing call did, or was to do when power gone broke it off
pub data Deed : Type 0 where
  -- a file or folder in this folder, under this name, with this handle
  created : Kind → Handle → Name → Handle → Deed
  -- this leaf of this file, with these bytes
  wrote : Handle → ℕ → List ℕ → Deed
  shortened : Handle → Deed
  -- the child that the entry named
  removed : Handle → Deed
  nothing : Deed

abbrev pub from_answer : {A E : Type 0} → Result A E → (A → Deed) → Deed
from_answer (Ok a) k = k a
from_answer (Err e) k = nothing

-- by the call's plan on the blocks shown before it: where there is a plan the call is accepted or broken off, and counts as made
abbrev pub planned : Card → Shown → Event → Deed
planned c shown (create d f n r) = from_answer (rule_of_changing.create d f n c shown) (λ p. created d f n p.answer)
planned c shown (write h k x r) = from_answer (rule_of_changing.write h k x c shown) (λ p. wrote h k x)
planned c shown (shorten h n r) = from_answer (rule_of_changing.shorten h n c shown) (λ p. shortened h)
planned c shown (remove f n r) = from_answer (rule_of_changing.remove f n c shown) (λ p. from_answer (rule_of_reading.find f n c.ready shown) removed)
planned c shown opening = nothing
planned c shown (survey r) = nothing
planned c shown ending = nothing
planned c shown (find f n r) = nothing
planned c shown (path p r) = nothing
planned c shown (list f r) = nothing
planned c shown (status h r) = nothing
planned c shown (damage r) = nothing
planned c shown (space r) = nothing
planned c shown (read h k room r) = nothing
planned c shown (sync r) = nothing
planned c shown cut = nothing

abbrev pub deed_on : Phase → Shown → Event → Deed
deed_on closed shown e = nothing
deed_on (opened o) shown e = nothing
deed_on (surveyed c) shown e = planned c shown e

abbrev pub deed : State → Event → Deed
deed s e = deed_on s.card s.device.shown e

-- a create that gave the handle h
abbrev pub gives : Deed → Handle → Bool
gives (created d f n c) h = same_handle c h
gives (wrote f k x) h = false
gives (shortened f) h = false
gives (removed c) h = false
gives nothing h = false

-- the create that h is of, after ms: the last that gave h, by its place in the history; 0 is the format's, of which the root is.
-- Two handles are of the same file or folder when they are equal and of the same create
abbrev pub maker : State → List Moment → Handle → ℕ
maker s [] h = 0
maker s (m ∷ ms) h = cond (gives (deed (present s ms) m.event) h) (suc (length ms)) (maker s ms h)

-- after `older` came an event of ms that did d
pub record Done (s : State) (ms : List Moment) (d : Deed) (older : List Moment) : Type 0 where
  pub newer : List Moment
  pub moment : Moment
  pub whole : ms ≡ newer ++ (moment ∷ older)
  pub did : deed (present s older) moment.event ≡ d
