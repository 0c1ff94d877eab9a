-- What a parsed cell in the code stands for, and the named bytes of an entry.
use Rattle.std.specs.Prelude.{ℕ, Bool, ◌&&◌, List, nat_le, nat_lt}
use Rattle.base.specs.declared.owner.Handle.{Handle}
use Rattle.layout.specs.Format.{Geometry, handle, le16, le32}
use Rattle.layout.specs.Entries.{State, blank, well_formed, ill_formed}
use Rattle.entries.specs.declared.entry.Cell.{Cell}
use Rattle.entries.specs.declared.entry.Cell.TheVariants.{Blank, Used, IllFormed}

abbrev pub cell_view : Cell → State
cell_view Blank = blank
cell_view (Used e) = well_formed e.name.now e.child
cell_view IllFormed = ill_formed

-- the head of an entry: the length of its name and its child
abbrev pub entry_child : List ℕ → List ℕ → Handle
entry_child s i = handle (le16 s 0) (le32 i 0)

abbrev pub entry_head_fits : Geometry → ℕ → Handle → Bool
entry_head_fits g n c = nat_le 1 n && (nat_le n 24 && (nat_le 1 c.slot.0 && (nat_lt c.slot.0 g.slots && nat_le 1 c.identity.0)))
