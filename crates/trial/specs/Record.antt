-- What a list of calls made of a card.
use Rattle.std.specs.Prelude.{◌≡◌, ℕ, ◌⊎◌, List, [], ◌∷◌, reverse}
use Rattle.history.specs.Events.{State, Step}
use Rattle.history.specs.History.{Moment, present, History}
use Rattle.trial.specs.Tells.{Tells, Idle}
use Rattle.trial.specs.Lawful.{Lawful}
use Rattle.trial.specs.declared.call.Call.{Call}
use Rattle.trial.specs.declared.answer.Answer.{Answer}

-- these calls with these answers are the events of the moments ms, one by one; the newest stands first in each list. A
-- call that was not made, or that is none of the card's, is no event
abbrev pub Told : State → List Call → List Answer → List Moment → Type 0
Told s [] [] ms = ms ≡ []
Told s (c ∷ cs) (a ∷ xs) ms =
    ((m : Moment) × (older : List Moment) × (ms ≡ m ∷ older) × Tells c a m.event × Told s cs xs older)
    ⊎ (Idle c a (present s ms).card × Told s cs xs ms)
Told s cs xs ms = ⊥

-- each moment is a step from the one before it
abbrev pub Steps : State → List Moment → Type 0
Steps s [] = Unit {0}
Steps s (m ∷ ms) = Steps s ms × Step (present s ms) m.event m.state

-- the calls led from s to t, by steps
pub record Follows (s : State) (calls : List Call) (answers : List Answer) (t : State) : Type 0 where
  pub moments : List Moment
  pub steps : Steps s moments
  pub told : Told s (reverse calls) (reverse answers) moments
  pub stands : present s moments ≡ t

-- the calls, made one after another since a format of a card of N blocks and S slots was accepted, are a history, by the
-- very steps that the calls' contracts give; it has come to t, and the three laws hold at each of its points
pub record Lived (N S : ℕ) (calls : List Call) (answers : List Answer) (t : State) : Type 0 where
  pub start : State
  pub moments : List Moment
  pub history : History (record { blocks = N; slots = S }) start moments
  pub told : Told start (reverse calls) (reverse answers) moments
  pub stands : present start moments ≡ t
  pub lawful : Lawful (record { blocks = N; slots = S }) start moments
