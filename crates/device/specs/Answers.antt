-- What each call of a device says, by its answer: of the model m before the call and n after it.
use Rattle.std.specs.Prelude.{◌≡◌, ℕ, ◌<◌, ◌≤◌, Bool, true, false, ◌⊎◌, List, Ok, Err, Result, codes, MatchResult}
use Rattle.device.specs.Model.{Model, Block, Written, Torn, Stayed, Lost, Settled}
use Rattle.base.specs.declared.number.BlockNo.{BlockNo}
use Rattle.base.specs.declared.refusal.Refusal.{Refusal}
use Rattle.base.specs.declared.refusal.Refusal.TheVariants.{PowerGone as PowerGoneRefusal, NoSuchBlock as NoSuchBlockRefusal, SyncUnsure}
use Rattle.device.specs.declared.fault.Fault.{Fault}
use Rattle.device.specs.declared.fault.Fault.TheVariants.{PowerGone, NoSuchBlock}
use Rattle.device.specs.declared.fault.Synced.{Synced}
use Rattle.device.specs.declared.fault.Synced.TheVariants.{Settled as SettledAnswer, Unsure}

abbrev pub refusal_of : Fault → Refusal
refusal_of (PowerGone b) = PowerGoneRefusal b
refusal_of (NoSuchBlock b) = NoSuchBlockRefusal b

abbrev pub power_gone : Fault → Bool
power_gone (PowerGone b) = true
power_gone (NoSuchBlock b) = false

-- what is printed of a fault, and of the answer of a sync
abbrev pub fault_text : Fault → List ℕ
fault_text (PowerGone b) = codes "power gone"
fault_text (NoSuchBlock b) = codes "no such block"

-- what is answered to a caller: nothing, or that it is not sure whether everything has landed
abbrev pub landed : Synced → Result (Unit {0}) Refusal
landed SettledAnswer = Ok tt
landed Unsure = Err SyncUnsure

abbrev pub synced_text : Synced → List ℕ
synced_text SettledAnswer = codes "settled"
synced_text Unsure = codes "unsure"

-- the block called is past the end, and nothing changed. Power was on: power gone is told first
pub record Missing (b p : BlockNo) (m n : Model) : Type 0 where
  pub place : p ≡ b
  pub past : m.count ≤ b.0
  pub stayed : Stayed m n

-- what block b shows was answered, and nothing changed
pub record Answered (b : BlockNo) (x : Block) (m n : Model) : Type 0 where
  pub within : b.0 < m.count
  pub bytes : x ≡ m.shown b.0
  pub stayed : Stayed m n

abbrev pub ReadFault : BlockNo → Model → Model → Fault → Type 0
ReadFault b m n (PowerGone p) = (p ≡ b) × Lost m n
ReadFault b m n (NoSuchBlock p) = Missing b p m n

abbrev pub Read : BlockNo → Result Block Fault → Model → Model → Type 0
Read b r m n = MatchResult r (λ x. Answered b x m n) (ReadFault b m n)

-- a write that met power gone left all as it was, or may have got through
abbrev pub WriteFault : BlockNo → Block → Model → Model → Fault → Type 0
WriteFault b c m n (PowerGone p) = (p ≡ b) × (Lost m n ⊎ Torn b.0 c m n)
WriteFault b c m n (NoSuchBlock p) = Missing b p m n

abbrev pub Write : {U : Type 0} → BlockNo → Block → Result U Fault → Model → Model → Type 0
Write b c r m n = MatchResult r (λ _. Written b.0 c m n) (WriteFault b c m n)

abbrev pub SyncAnswer : Model → Model → Synced → Type 0
SyncAnswer m n SettledAnswer = Settled m n
SyncAnswer m n Unsure = Stayed m n

abbrev pub SyncFault : Model → Model → Fault → Type 0
SyncFault m n (PowerGone p) = (p.0 ≡ 65535) × Lost m n
SyncFault m n (NoSuchBlock p) = ⊥

abbrev pub Sync : Result Synced Fault → Model → Model → Type 0
Sync r m n = MatchResult r (SyncAnswer m n) (SyncFault m n)
