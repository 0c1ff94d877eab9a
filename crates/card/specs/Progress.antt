-- What a survey has learned on its way.
use Rattle.std.specs.Prelude.{◌≡◌, ℕ, ◌<◌, ◌≤◌, length, Ok}
use Rattle.device.specs.Model.{Model}
use Rattle.layout.specs.Sizes.{sizes}
use Rattle.layout.specs.declared.geometry.Geometry.{Geometry as CardGeometry}
use Rattle.rule.specs.Card.{Ready, Opened}
use Rattle.rule.specs.Check.{Answer}
use Rattle.survey.specs.Survey.{Sofar}
use Rattle.walk.specs.Still.{Gives, shows}
use Rattle.card.specs.declared.progress.Progress.{Progress}

-- as the rule has it
abbrev pub so_far : Ready → Progress → Opened
so_far ready p = record { ready = ready; next = p.next; highest = p.highest.0 }

-- the blocks below the next were examined, and each of them was whole. `Sofar` names a sound entry for each mark, of several
-- that there may be: here it says only that there is one
pub record Learned (g : CardGeometry) (m : Model) (p : Progress) : Type 0 where
  pub low : 0 < p.next
  pub high : p.next ≤ g.blocks
  pub sofar : ∥ Sofar (sizes g) (shows g m) p.next p.survey ∥₁
  pub whole : (b : ℕ) → 0 < b → b < p.next → length (m.shown b) ≡ 512

-- blocks were read: P holds, or a read was refused; the rule refuses nothing here
abbrev pub Examines : CardGeometry → Answer (Unit {0}) → Type 0 → Model → Model → Type 0
Examines g r P m n = Gives {B = Unit {0}} g r (Ok tt) (λ _. P) m n
