-- What a card with waiting blocks means.
use Rattle.std.specs.Prelude.{◌≡◌, ℕ, ◌+◌, ◌<◌, ◌≤◌, Bool, true, false, cond, not, List, [], ◌∷◌, length, Some, None, Option, ◌==◌, slice_index_or, refl}
use Rattle.std.proofs.Common.{inl}
use Rattle.base.specs.declared.number.BlockNo.{BlockNo}
use Rattle.device.specs.Model.{Model, Block, In}
use Rattle.device.specs.declared.put.Put.{Put}

-- the waiting blocks, and the places that are free
abbrev pub Table : Type 0
Table = List (Option Put)

-- what is shown: what waits, in preference to what is shown below
abbrev pub over : Table → (ℕ → Block) → ℕ → Block
over [] f b = f b
over (None ∷ ws) f b = over ws f b
over (Some w ∷ ws) f b = cond (b == w.block.0) w.bytes (over ws f b)

-- what may stand: what waits, and what may stand below
abbrev pub standing : Table → (ℕ → List Block) → ℕ → List Block
standing [] f b = f b
standing (None ∷ ws) f b = standing ws f b
standing (Some w ∷ ws) f b = cond (b == w.block.0) (w.bytes ∷ standing ws f b) (standing ws f b)

among_step : (t : Bool) (w x : Block) (xs : List Block) → In x xs → In (cond t w x) (cond t (w ∷ xs) xs)
unfolding In
among_step true w x xs h = inl refl
among_step false w x xs h = h

pub over_among : (ws : Table) (f : ℕ → Block) (s : ℕ → List Block) → ((b : ℕ) → In (f b) (s b)) → (b : ℕ) → In (over ws f b) (standing ws s b)
over_among [] f s h b = h b
over_among (None ∷ ws) f s h b = over_among ws f s h b
over_among (Some w ∷ ws) f s h b =
    among_step (b == w.block.0) w.bytes (over ws f b) (standing ws s b) (over_among ws f s h b)

-- what a buffered card is, seen from outside: what waits, whether power gone was met, and the device below
pub record State : Type 0 where
  pub table : Table
  pub gone : Bool
  pub below : Model

abbrev pub buffered : State → Model
buffered s = record {
  count = s.below.count;
  power = not s.gone;
  shown = over s.table s.below.shown;
  may = standing s.table s.below.may;
  among = over_among s.table s.below.shown s.below.may s.below.among;
}

-- ---- the table

abbrev pub at_place : Table → ℕ → Option Put
at_place ws i = slice_index_or ws i None

abbrev pub Used : Option Put → Type 0
Used None = ⊥
Used (Some w) = Unit {0}

-- the block that waits at a place, and its bytes
abbrev pub block_of : Option Put → BlockNo
block_of None = record { 0 = 0 }
block_of (Some w) = w.block

abbrev pub number : Option Put → ℕ
number o = (block_of o).0

abbrev pub contents : Option Put → Block
contents None = []
contents (Some w) = w.bytes

-- block b waits at this place
abbrev pub Holds : Option Put → ℕ → Type 0
Holds None b = ⊥
Holds (Some w) b = b ≡ w.block.0

-- block b waits at place i, and at none before
pub record Found (ws : Table) (b i : ℕ) : Type 0 where
  pub small : i < 8
  pub within : i < length ws
  pub here : Holds (at_place ws i) b
  pub first : (k : ℕ) → k < i → Holds (at_place ws k) b → ⊥

-- block b does not wait
abbrev pub Absent : Table → ℕ → Type 0
Absent ws b = (k : ℕ) → k < length ws → Holds (at_place ws k) b → ⊥

-- place i is the first that is free
pub record Vacant (ws : Table) (i : ℕ) : Type 0 where
  pub small : i < 8
  pub within : i < length ws
  pub here : Used (at_place ws i) → ⊥
  pub first : (k : ℕ) → k < i → Used (at_place ws k)

abbrev pub Full : Table → Type 0
Full ws = (k : ℕ) → k < 8 → Used (at_place ws k)

-- the waiting block with the highest number waits at place i, and at none after
pub record Top (ws : Table) (i : ℕ) : Type 0 where
  pub small : i < 8
  pub within : i < length ws
  pub here : Used (at_place ws i)
  pub highest : (k : ℕ) → k < length ws → Used (at_place ws k) → number (at_place ws k) ≤ number (at_place ws i)
  pub last : (k : ℕ) → i < k → k < length ws → Used (at_place ws k) → number (at_place ws k) < number (at_place ws i)

-- nothing waits
abbrev pub Empty : Table → Type 0
Empty ws = (k : ℕ) → k < length ws → Used (at_place ws k) → ⊥

-- how many blocks wait
abbrev pub waiting : Table → ℕ
waiting [] = 0
waiting (None ∷ ws) = waiting ws
waiting (Some w ∷ ws) = 1 + waiting ws

-- every block that waits is one of a device of n blocks
abbrev pub Inside : Table → ℕ → Type 0
Inside ws n = (k : ℕ) → Used (at_place ws k) → number (at_place ws k) < n
