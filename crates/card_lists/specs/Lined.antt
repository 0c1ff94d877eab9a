-- What a list leaves in the caller's lines, by its answer.
use Rattle.std.specs.Prelude.{◌≡◌, ℕ, Bool, true, false, ◌⊎◌, List, map, length, replicate, Ok, Err, Result, MatchResult, ◌==◌}
use Rattle.base.specs.Refusals.{number_of}
use Rattle.base.specs.declared.refusal.Refusal.{Refusal}
use Rattle.device.specs.Model.{Model}
use Rattle.device.specs.Answers.{refusal_of, power_gone}
use Rattle.device.specs.declared.fault.Fault.{Fault}
use Rattle.layout.specs.declared.geometry.Geometry.{Geometry as CardGeometry}
use Rattle.rule.specs.Check.{Answer}
use Rattle.listing.specs.Lines.{Sofar}
use Rattle.listing.specs.declared.line.EntryLine.{EntryLine as EntryRow}
use Rattle.listing.specs.declared.line.DamageLine.{DamageLine as DamageRow}
use Rattle.walk.specs.Still.{Still, Failed}

-- the answer is power gone
abbrev pub gone : Result ℕ Refusal → Bool
gone (Ok n) = false
gone (Err e) = number_of e == 1

abbrev pub zero_entry : EntryRow
zero_entry = record { name = replicate 24 0; length = 0; slot = record { 0 = 0 }; identity = record { 0 = 0 } }

abbrev pub zero_damage : DamageRow
zero_damage = record { slot = record { 0 = 0 }; leaf = record { 0 = 0 } }

module _ {A L : Type 0} (row : A → L) where
  -- accepted: the lines are the rule's, at the front of the caller's, and their whole number is answered
  pub record Filled (x : Answer (List A)) (m n : Model) (before after : List L) (count : ℕ) : Type 0 where
    pub still : Still m n
    pub items : List A
    pub rule : x ≡ Ok items
    pub sofar : Sofar before (map row items) count after

  -- refused by the rule, and the lines are as they were
  pub record Left (x : Answer (List A)) (m n : Model) (before after : List L) (e : Refusal) : Type 0 where
    pub still : Still m n
    pub rule : x ≡ Err e
    pub lines : after ≡ before

  -- a read was refused, with the fault f
  pub record Met (g : CardGeometry) (m n : Model) (e : Refusal) : Type 0 where
    pub fault : Fault
    pub told : e ≡ refusal_of fault
    pub failed : Failed g m n fault

  -- lines filled as the rule's answer x says; those that a refused read leaves are not told
  abbrev pub Fills : CardGeometry → Answer (List A) → Result ℕ Refusal → Model → Model → List L → List L → Type 0
  Fills g x r m n before after = MatchResult r (Filled x m n before after) (λ e. Left x m n before after e ⊎ Met g m n e)

  -- the same; power gone makes every line zero
  abbrev pub Lined : L → CardGeometry → Answer (List A) → Result ℕ Refusal → Model → Model → List L → List L → Type 0
  Lined zero g x r m n before after =
      MatchResult r (Filled x m n before after) (λ e. Left x m n before after e ⊎ ((w : Met g m n e) × (power_gone w.fault ≡ true → after ≡ replicate (length before) zero)))
