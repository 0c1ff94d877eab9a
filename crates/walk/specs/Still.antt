-- Calls that only read: what is shown stays, contents that may stand may be dropped.
use Rattle.std.specs.Prelude.{◌≡◌, ◌<◌, ◌⊎◌, Err, Result, MatchResult}
use Rattle.device.specs.Model.{Model, Kept, Lost}
use Rattle.device.specs.declared.fault.Fault.{Fault}
use Rattle.device.specs.declared.fault.Fault.TheVariants.{PowerGone, NoSuchBlock}
use Rattle.layout.specs.Sizes.{sizes}
use Rattle.layout.specs.declared.geometry.Geometry.{Geometry as CardGeometry}
use Rattle.rule.specs.Agree.{View, seen}
use Rattle.base.specs.declared.refusal.Refusal.{Refusal}
use Rattle.base.specs.declared.refusal.PathRefusal.{PathRefusal}
use Rattle.device.specs.Answers.{refusal_of}
use Rattle.rule.specs.Check.{Answer}

-- what the blocks of a card hold, as the device shows them
abbrev pub shows : CardGeometry → Model → View
shows g m = seen (sizes g) m.shown

-- any number of reads, none at all too
pub record Still (m n : Model) : Type 0 where
  pub kept : Kept m n
  pub power : n.power ≡ m.power

-- a read among them was refused. No such block: only on a device that has fewer blocks than the card
abbrev pub Failed : CardGeometry → Model → Model → Fault → Type 0
Failed g m n (PowerGone b) = Lost m n
Failed g m n (NoSuchBlock b) = Still m n × (m.count < g.blocks)

-- only reads were made, and P holds of the answer
abbrev pub Says : {A : Type 0} → CardGeometry → Result A Fault → (A → Type 0) → Model → Model → Type 0
Says g r P m n = MatchResult r (λ a. Still m n × P a) (Failed g m n)

-- a call is refused as the rule says, or because a read was refused
abbrev pub Refused : {B : Type 0} → CardGeometry → Answer B → Model → Model → Refusal → Type 0
Refused g x m n e = (Still m n × (x ≡ Err e)) ⊎ ((f : Fault) × (e ≡ refusal_of f) × Failed g m n f)

-- only reads were made: P holds of the answer, or the call is refused as the rule's answer x is
abbrev pub Gives : {A B : Type 0} → CardGeometry → Result A Refusal → Answer B → (A → Type 0) → Model → Model → Type 0
Gives g r x P m n = MatchResult r (λ a. Still m n × P a) (Refused g x m n)

-- the same of a path, whose refusal tells the component too
abbrev pub PathRefused : {B : Type 0} → CardGeometry → Result B PathRefusal → Model → Model → PathRefusal → Type 0
PathRefused g x m n e = (Still m n × (x ≡ Err e)) ⊎ ((f : Fault) × (e.lower ≡ refusal_of f) × Failed g m n f)

abbrev pub PathGives : {A B : Type 0} → CardGeometry → Result A PathRefusal → Result B PathRefusal → (A → Type 0) → Model → Model → Type 0
PathGives g r x P m n = MatchResult r (λ a. Still m n × P a) (PathRefused g x m n)
