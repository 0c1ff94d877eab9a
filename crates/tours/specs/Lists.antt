-- Lists of a folder's entries and of damage, as the caller's lines have them.
use Rattle.std.specs.Prelude.{ℕ, ◌+◌, ◌^◌, ◌<◌, ◌≤◌, List, ◌++◌, map, length, Result}
use Rattle.base.specs.declared.owner.Handle.{Handle}
use Rattle.device.specs.Model.{Model}
use Rattle.device.specs.declared.fault.Fault.{Fault}
use Rattle.layout.specs.Format.{Geometry, Cell, entry_of}
use Rattle.layout.specs.declared.geometry.Geometry.{Geometry as CardGeometry}
use Rattle.rule.specs.Agree.{View, Place, those, agrees, sound}
use Rattle.rule.specs.Reading.{EntryLine, entry_line}
use Rattle.listing.specs.Lines.{Sofar}
use Rattle.listing.specs.Lines as lines
use Rattle.listing.specs.declared.list.Lines.{Lines}
use Rattle.listing.specs.declared.line.EntryLine.{EntryLine as EntryRow}
use Rattle.walk.specs.Still.{Says}

-- from one count and state of the caller's lines to the next these items were added, at most so many
pub record Adds {L : Type 0} (most : ℕ) (items : List L) (count : ℕ) (lines : List L) (count' : ℕ) (lines' : List L) : Type 0 where
  pub few : length items ≤ most
  pub onto : (before done : List L) → length done + length items < 2 ^ 64 → Sofar before done count lines → Sofar before (done ++ items) count' lines'

-- only reads were made, and these items were added to the list
abbrev pub Lists : {L : Type 0} → CardGeometry → Result (Unit {0}) Fault → ℕ → List L → Model → Model → Lines L → Lines L → Type 0
Lists g r most items m n old new = Says g r (λ _. Adds most items old.count old.lines.now new.count new.lines.now) m n

-- a line of the rule, as the caller gets it
abbrev pub entry_row : EntryLine → EntryRow
entry_row l = lines.entry_line l.name l.child

-- the sound entries among some places of the folder f
abbrev pub entry_lines : Geometry → View → Handle → List Place → List EntryLine
entry_lines g v f qs = map (λ q. entry_line (entry_of g q.cell)) (those (sound g v f) qs)

abbrev pub entry_rows : Geometry → View → Handle → List Place → List EntryRow
entry_rows g v f qs = map entry_row (entry_lines g v f qs)

-- the same among some cells
abbrev pub cell_rows : Geometry → View → Handle → List Cell → List EntryRow
cell_rows g v f es = map (λ e. entry_row (entry_line (entry_of g e))) (those (λ e. agrees g v f (entry_of g e)) es)
