-- What the calls of a buffered card do, exactly: which block goes down when, what waits after, and who answered.
-- The card is s before and t after.
use Rattle.std.specs.Prelude.{◌≡◌, ℕ, ◌<◌, ◌≤◌, Bool, true, false, ◌⊎◌, Some, None, Ok, Err, Option, Result, MatchResult, slice_set}
use Rattle.base.specs.declared.number.BlockNo.{BlockNo}
use Rattle.device.specs.Model.{Block, Written}
use Rattle.device.specs.Answers.{Read, WriteFault, SyncAnswer, SyncFault, power_gone}
use Rattle.device.specs.declared.put.Put.{Put}
use Rattle.device.specs.declared.fault.Fault.{Fault}
use Rattle.device.specs.declared.fault.Fault.TheVariants.{PowerGone, NoSuchBlock}
use Rattle.device.specs.declared.fault.Synced.{Synced}
use Rattle.buffered.specs.Buffered.{State, at_place, block_of, number, contents, Found, Absent, Vacant, Full, Top, Empty}

abbrev pub put_of : BlockNo → Block → Option Put
put_of at c = Some (record { block = at; bytes = c })

-- a call that the card answers by itself: nothing is asked of the device below
pub record Alone (s t : State) : Type 0 where
  pub table : t.table ≡ s.table
  pub gone : t.gone ≡ s.gone
  pub below : t.below ≡ s.below

-- the waiting block at place i was written below, which accepted it
pub record Sent (s : State) (i : ℕ) (t : State) : Type 0 where
  pub top : Top s.table i
  pub below : Written (number (at_place s.table i)) (contents (at_place s.table i)) s.below t.below
  pub table : t.table ≡ slice_set s.table i None

-- the waiting block at place i was written below, which answered power gone: it goes on waiting
pub record Unsent (s : State) (i : ℕ) (t : State) : Type 0 where
  pub top : Top s.table i
  pub below : WriteFault (block_of (at_place s.table i)) (contents (at_place s.table i)) s.below t.below (PowerGone (block_of (at_place s.table i)))
  pub table : t.table ≡ s.table
  pub gone : t.gone ≡ true

-- ---- read

-- the answer is power gone
abbrev pub met : {A : Type 0} → Result A Fault → Bool
met (Ok x) = false
met (Err e) = power_gone e

-- what waits is answered; else the device below is asked
pub data ReadBy (at : BlockNo) (r : Result Block Fault) (s t : State) : Type 0 where
  dead : s.gone ≡ true → r ≡ Err (PowerGone at) → Alone s t → ReadBy at r s t
  past : s.gone ≡ false → s.below.count ≤ at.0 → r ≡ Err (NoSuchBlock at) → Alone s t → ReadBy at r s t
  waits : s.gone ≡ false → at.0 < s.below.count → (i : ℕ) → Found s.table at.0 i → r ≡ Ok (contents (at_place s.table i)) → Alone s t → ReadBy at r s t
  asked : s.gone ≡ false → at.0 < s.below.count → Absent s.table at.0 → Read at r s.below t.below → t.table ≡ s.table → t.gone ≡ met r → ReadBy at r s t

-- ---- write

-- an accepted write: the block waits now. Where it did not wait and the table was full, the highest was sent down first
pub data Stored (at : BlockNo) (c : Block) (s t : State) : Type 0 where
  replaced : (i : ℕ) → Found s.table at.0 i → t.table ≡ slice_set s.table i (put_of at c) → t.below ≡ s.below → Stored at c s t
  added : (i : ℕ) → Absent s.table at.0 → Vacant s.table i → t.table ≡ slice_set s.table i (put_of at c) → t.below ≡ s.below → Stored at c s t
  evicted : (i : ℕ) (u : State) → Absent s.table at.0 → Full s.table → Sent s i u → t.table ≡ slice_set u.table i (put_of at c) → t.below ≡ u.below → Stored at c s t

pub record Accepted (at : BlockNo) (c : Block) (s t : State) : Type 0 where
  pub was : s.gone ≡ false
  pub gone : t.gone ≡ false
  pub stored : Stored at c s t

-- power gone is answered where it was met before, or where the device below answers it to the block that is sent down
abbrev pub WriteRefused : BlockNo → State → State → Fault → Type 0
WriteRefused at s t (PowerGone p) =
    (p ≡ at) × (((s.gone ≡ true) × Alone s t) ⊎ ((i : ℕ) × Absent s.table at.0 × Full s.table × Unsent s i t))
WriteRefused at s t (NoSuchBlock p) = (p ≡ at) × (s.gone ≡ false) × (s.below.count ≤ at.0) × Alone s t

abbrev pub WriteBy : {U : Type 0} → BlockNo → Block → Result U Fault → State → State → Type 0
WriteBy at c r s t = MatchResult r (λ _. Accepted at c s t) (WriteRefused at s t)

-- ---- sync

-- waiting blocks were sent down and accepted, each time the highest of those left
pub data Drained (s : State) : State → Type 0 where
  none : {t : State} → t.table ≡ s.table → t.below ≡ s.below → Drained s t
  more : {u t : State} {i : ℕ} → Drained s u → Sent u i t → Drained s t

-- all were sent down, which left the card as u, and the device below was asked to sync
pub record Asked (s u t : State) : Type 0 where
  pub drained : Drained s u
  pub empty : Empty u.table
  pub table : t.table ≡ u.table

-- the answer below is passed on
pub record SyncedBy (s t : State) (a : Synced) : Type 0 where
  pub was : s.gone ≡ false
  pub gone : t.gone ≡ false
  pub then : State
  pub asked : Asked s then t
  pub below : SyncAnswer then.below t.below a

-- power gone was met before; or it broke off the sending; or the device below answered it to the sync
abbrev pub SyncRefused : State → State → Fault → Type 0
SyncRefused s t (PowerGone p) =
    (p.0 ≡ 65535)
    × (((s.gone ≡ true) × Alone s t)
    ⊎ (((u : State) × (i : ℕ) × Drained s u × Unsent u i t)
    ⊎ ((u : State) × Asked s u t × SyncFault u.below t.below (PowerGone p) × (t.gone ≡ true))))
SyncRefused s t (NoSuchBlock p) = ⊥

abbrev pub SyncBy : Result Synced Fault → State → State → Type 0
SyncBy r s t = MatchResult r (SyncedBy s t) (SyncRefused s t)
