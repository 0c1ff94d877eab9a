-- The marks of slots, and the queue of those that are marked.
use Rattle.std.specs.Prelude.{◌≡◌, ℕ, suc, ◌<◌, Bool, true, false, List, [], ◌∷◌, slice_index_or}
use Rattle.base.specs.declared.number.SlotNo.{SlotNo}

-- the mark of slot s is set
abbrev pub Marked : List Bool → ℕ → Type 0
Marked ms s = slice_index_or ms s false ≡ true

-- how many marks are set
unfoldable pub ticks : List Bool → ℕ
ticks [] = 0
ticks (true ∷ bs) = suc (ticks bs)
ticks (false ∷ bs) = ticks bs

-- the slot at place i of the queue
abbrev pub queued : List SlotNo → ℕ → ℕ
queued ss i = (slice_index_or ss i (record { 0 = 0 })).0

-- slot t is among the first n of the queue
pub record InQueue (ss : List SlotNo) (n t : ℕ) : Type 0 where
  pub place : ℕ
  pub low : place < n
  pub is : queued ss place ≡ t

-- so is each marked slot
abbrev pub Listed : List Bool → List SlotNo → ℕ → Type 0
Listed ms ss n = (t : ℕ) → Marked ms t → ∥ InQueue ss n t ∥₁
