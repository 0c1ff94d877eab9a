-- What the private functions of the buffered card say.
use Rattle.std.specs.Prelude.{◌≡◌, ℕ, ◌<◌, true, false, length, Some}
use Rattle.device.specs.Model.{Stayed, Lost}
use Rattle.device.specs.Answers.{WriteFault}
use Rattle.device.specs.declared.put.Put.{Put}
use Rattle.device.specs.declared.fault.Fault.{Fault}
use Rattle.buffered.specs.Buffered.{Table, State, buffered, at_place, Used, Holds, block_of, number, contents, Found, Absent, Vacant, Full, Top}
use Rattle.buffered.specs.Steps.{Sent, Drained}

-- block b waits first at place i, as w
pub record FoundPut (ws : Table) (b i : ℕ) (w : Put) : Type 0 where
  pub found : Found ws b i
  pub is : at_place ws i ≡ Some w

-- w waits at place i, and is the highest
pub record TopPut (ws : Table) (i : ℕ) (w : Put) : Type 0 where
  pub top : Top ws i
  pub is : at_place ws i ≡ Some w

-- the waiting block at place i went down, and the card as a whole stayed as it was
pub record SentDown (s : State) (i : ℕ) (t : State) : Type 0 where
  pub sent : Sent s i t
  pub gone : t.gone ≡ s.gone
  pub stayed : Stayed (buffered s) (buffered t)

-- the device below refused it, and the card has no power from now on
pub record Halted (s : State) (i : ℕ) (t : State) : Type 0 where
  pub table : t.table ≡ s.table
  pub gone : t.gone ≡ true
  pub fault : Fault
  pub below : WriteFault (block_of (at_place s.table i)) (contents (at_place s.table i)) s.below t.below fault
  pub lost : Lost (buffered s) (buffered t)

-- block b may be put into place i: it waits there and nowhere before, or it waits nowhere before and the place is free
pub record Fits (ws : Table) (b i : ℕ) : Type 0 where
  pub small : i < 8
  pub within : i < length ws
  pub before : (k : ℕ) → k < i → Holds (at_place ws k) b → ⊥
  pub here : Used (at_place ws i) → b ≡ number (at_place ws i)

-- how place i came to be the one for block b
pub data Made (s : State) (b i : ℕ) (t : State) : Type 0 where
  own : Found s.table b i → t.table ≡ s.table → t.below ≡ s.below → Made s b i t
  free : Absent s.table b → Vacant s.table i → t.table ≡ s.table → t.below ≡ s.below → Made s b i t
  emptied : Absent s.table b → Full s.table → Sent s i t → Made s b i t

pub record Placed (s : State) (b i : ℕ) (t : State) : Type 0 where
  pub fits : Fits t.table b i
  pub gone : t.gone ≡ s.gone
  pub made : Made s b i t
  pub stayed : Stayed (buffered s) (buffered t)

-- the table is full of other blocks, and the highest could not be sent down
pub record NoPlace (s : State) (b : ℕ) (t : State) : Type 0 where
  pub place : ℕ
  pub absent : Absent s.table b
  pub full : Full s.table
  pub top : Top s.table place
  pub halted : Halted s place t

-- a sync has sent some blocks down so far
pub record Sending (s t : State) : Type 0 where
  pub gone : t.gone ≡ false
  pub stayed : Stayed (buffered s) (buffered t)
  pub drained : Drained s t
