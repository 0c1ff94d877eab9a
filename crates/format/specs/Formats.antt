-- What a format leaves, by its answer.
use Rattle.std.specs.Prelude.{◌≡◌, ℕ, zero, suc, ◌-◌, ◌⊎◌, List, ◌∷◌, Ok, Err}
use Rattle.base.specs.declared.number.BlockNo.{BlockNo}
use Rattle.base.specs.declared.owner.Kind.TheVariants.{Folder}
use Rattle.base.specs.declared.refusal.Refusal.TheVariants.{PowerGone}
use Rattle.device.specs.Model.{Model, Lost}
use Rattle.device.specs.Answers.{SyncAnswer}
use Rattle.device.specs.Effect.{accepted, broken, Altered, Named}
use Rattle.device.specs.declared.fault.Synced.{Synced}
use Rattle.device.specs.declared.put.Put.{Put}
use Rattle.layout.specs.Format.{Geometry, Content, blank, cover, slotted}
use Rattle.rule.specs.Agree.{from, root}
use Rattle.rule.specs.Changing.{store, store_slot, new_slot, blanks, synced}
use Rattle.rule.specs.Changing as rule_of_changing
use Rattle.rule.specs.Check.{Answer}

-- what block b of a new card holds
abbrev pub new_block : Geometry → ℕ → Content
new_block g zero = cover g
new_block g (suc zero) = slotted (new_slot Folder root 1)
new_block g (suc (suc b)) = blank

-- the blocks of a new card, by their numbers
abbrev pub new_card : Geometry → List Put
new_card g = store 0 (cover g) ∷ store_slot 0 (new_slot Folder root 1) ∷ blanks (from 2 (g.blocks - 2))

-- every block was written, and then the device was asked to sync
pub record SyncedAfter (ws : List Put) (m : Model) (r : Answer (Unit {0})) (n : Model) : Type 0 where
  pub written : Model
  pub altered : Altered accepted ws m written
  pub answer : ((a : Synced) × (r ≡ synced a) × SyncAnswer written n a) ⊎ ((b : BlockNo) × (b.0 ≡ 65535) × (r ≡ Err (PowerGone b)) × Lost written n)

-- power gone broke the writing off, at a block that was to be written
pub record BrokenOff (ws : List Put) (m : Model) (r : Answer (Unit {0})) (n : Model) : Type 0 where
  pub at : BlockNo
  pub named : Named at ws
  pub answer : r ≡ Err (PowerGone at)
  pub altered : Altered broken ws m n

-- refused before the device was called, or all blocks of the plan written and a sync made, or broken off
abbrev pub ByPlan : Answer (List Put) → Model → Answer (Unit {0}) → Model → Type 0
ByPlan (Ok ws) m r n = SyncedAfter ws m r n ⊎ BrokenOff ws m r n
ByPlan (Err e) m r n = (r ≡ Err e) × (n ≡ m)

abbrev pub Formats : ℕ → ℕ → Model → Answer (Unit {0}) → Model → Type 0
Formats N S m r n = ByPlan (rule_of_changing.format m.count N S) m r n
