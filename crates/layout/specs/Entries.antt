-- The entries of a folder's leaf: each blank, well formed or ill formed by itself.
use Rattle.std.specs.Prelude.{ℕ, Bool, true, cond, ◌&&◌, List, [], ◌∷◌, length, ◌==◌, slice_index}
use Rattle.base.specs.declared.owner.Handle.{Handle}
use Rattle.layout.specs.Format.{Geometry, Name, Cell, Entry, entry, no_entry, handle, le16, le32, between, entry_fits}

pub data State : Type 0 where
  blank : State
  well_formed : Name → Handle → State
  ill_formed : State

abbrev pub all_zero : List ℕ → Bool
all_zero [] = true
all_zero (x ∷ xs) = x == 0 && all_zero xs

abbrev pub child_at : Cell → Handle
child_at e = handle (le16 e 2) (le32 e 4)

abbrev pub name_at : Cell → Name
name_at e = between 8 (slice_index e 0) e

-- an entry in its ranges is well formed, any other ill formed
abbrev pub used_state : Geometry → Cell → State
used_state g e = cond (entry_fits g e) (well_formed (name_at e) (child_at e)) ill_formed

-- a cell has 32 bytes, and a blank one is all zero
abbrev pub entry_state : Geometry → Cell → State
entry_state g e = cond (length e == 32) (cond (all_zero e) blank (used_state g e)) ill_formed

-- where an entry leads
abbrev pub leads : State → Entry
leads blank = no_entry
leads (well_formed n c) = entry n c
leads ill_formed = no_entry
