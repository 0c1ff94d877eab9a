-- Blocks whose bytes are all the same.
use Rattle.std.specs.Prelude.{◌≡◌, ℕ, ◌<◌, List, length, ◌≢◌, slice_index}

abbrev pub Filled : List ℕ → ℕ → Type 0
Filled xs v = (k : ℕ) → k < length xs → slice_index xs k ≡ v

-- some byte differs from the first
abbrev pub Mixed : List ℕ → Type 0
Mixed xs = (k : ℕ) × (k < length xs) × (slice_index xs k ≢ slice_index xs 0)
