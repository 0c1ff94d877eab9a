-- What a list leaves in the caller's lines.
use Rattle.std.specs.Prelude.{◌≡◌, ℕ, ◌+◌, ◌-◌, ◌^◌, min, List, ◌++◌, length, take, drop, replicate}
use Rattle.base.specs.declared.owner.Handle.{Handle}
use Rattle.listing.specs.declared.line.EntryLine.{EntryLine}

-- the first of the items, as many as find a place; lines beyond stay
abbrev pub listed : {L : Type 0} → List L → List L → List L
listed lines items = take (length lines) items ++ drop (length items) lines

-- these items have been listed over the lines as they were before, and counted
pub record Sofar {L : Type 0} (before items : List L) (count : ℕ) (lines : List L) : Type 0 where
  pub number : count ≡ length items
  pub filled : lines ≡ listed before items

-- one more; a count of 64 bits stays at its top
abbrev pub counted : ℕ → ℕ
counted n = min (n + 1) (2 ^ 64 - 1)

-- a name and zeros after it
abbrev pub name_field : List ℕ → List ℕ
name_field n = n ++ replicate (24 - length n) 0

abbrev pub entry_line : List ℕ → Handle → EntryLine
entry_line n c = record { name = name_field n; length = length n; slot = c.slot; identity = c.identity }
