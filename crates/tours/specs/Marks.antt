-- Marks of what is reached, made by a work list from the root.
use Rattle.std.specs.Prelude.{◌≡◌, ℕ, ◌+◌, ◌<◌, ◌≤◌, Bool, true, false, ◌⊎◌, List, [], length, Option, Result, MatchOption, slice_index_or, slice_set}
use Rattle.base.specs.declared.number.SlotNo.{SlotNo}
use Rattle.base.specs.declared.owner.Kind.TheVariants.{Folder}
use Rattle.base.specs.declared.owner.Handle.{Handle}
use Rattle.device.specs.Model.{Model}
use Rattle.device.specs.declared.fault.Fault.{Fault}
use Rattle.layout.specs.Format.{Geometry, Name, Cell, Slot, entry, entry_of}
use Rattle.layout.specs.Sizes.{sizes}
use Rattle.layout.specs.declared.geometry.Geometry.{Geometry as CardGeometry}
use Rattle.rule.specs.Agree.{View, agrees, good, number, cells_in, reached}
use Rattle.rule.specs.Meaning.{Fits, Sound}
use Rattle.walk.specs.Still.{Says, shows}
use Rattle.tours.specs.Ticks.{Marked, queued}
use Rattle.tours.specs.declared.work.Work.{Work}

-- the marks say which slots are reached; a slot that the card has not is not marked
abbrev pub MarksReached : Geometry → View → List Bool → Type 0
MarksReached g v ms = (s : ℕ) → slice_index_or ms s false ≡ reached g v s

-- from slot 0 down to a slot by sound entries
pub data Chain (g : Geometry) (v : View) : ℕ → Type 0 where
  top : Chain g v 0
  below : {f c : Handle} {k p : ℕ} {n : Name} → Chain g v f.slot.0 → Sound g v f k p n c → Chain g v c.slot.0

-- slot s was marked and put to the work, unless it had been
abbrev pub Entered : SlotNo → Work → Work → Type 0
Entered s w w' =
    (Marked w.marks s.0 × (w'.tail ≡ w.tail) × (w'.marks ≡ w.marks) × (w'.queue ≡ w.queue) × (w'.head ≡ w.head))
    ⊎ ((slice_index_or w.marks s.0 false ≡ false) × (w'.tail ≡ w.tail + 1) × (w'.marks ≡ slice_set w.marks s.0 true) × (w'.queue ≡ slice_set w.queue w.tail s) × (w'.head ≡ w.head))

-- the next of the work was handed out, or there was none
abbrev pub Handed : Option SlotNo → Work → Work → Type 0
Handed r w w' =
    (w'.marks ≡ w.marks) × (w'.queue ≡ w.queue) × (w'.tail ≡ w.tail)
    × MatchOption r ((w.head ≡ w.tail) × (w'.head ≡ w.head)) (λ s. (w.head < w.tail) × (s.0 ≡ queued w.queue w.head) × (w'.head ≡ w.head + 1))

-- a chain leads to each slot of the work
abbrev pub Chained : Geometry → View → Work → Type 0
Chained g v w = (i : ℕ) → i < w.tail → Chain g v (queued w.queue i)

-- what was marked and put to the work stays, and no more was handed out
pub record Grew (w w' : Work) : Type 0 where
  pub more : (t : ℕ) → Marked w.marks t → Marked w'.marks t
  pub longer : w.tail ≤ w'.tail
  pub front : (i : ℕ) → i < w.tail → queued w'.queue i ≡ queued w.queue i
  pub head : w'.head ≡ w.head

-- from one state of the work to the next
pub record Onward (g : Geometry) (v : View) (w w' : Work) : Type 0 where
  pub chained : Chained g v w'
  pub grew : Grew w w'

-- a part of the work was done, after which Q holds of the marks
abbrev pub Worked : CardGeometry → Result (Unit {0}) Fault → (List Bool → Type 0) → Model → Model → Work → Work → Type 0
Worked g r Q m k w w' = Says g r (λ _. Onward (sizes g) (shows g m) w w' × Q w'.marks) m k

-- P holds of the slot of the child, if the entry in this cell is sound
abbrev pub ForChild : Geometry → View → Handle → Cell → (ℕ → Type 0) → Type 0
ForChild g v f e P = (n : Name) (c : Handle) → entry_of g e ≡ entry n c → agrees g v f (entry n c) ≡ true → P c.slot.0

-- the child is marked
abbrev pub CellDone : Geometry → View → Handle → Cell → List Bool → Type 0
CellDone g v f e ms = ForChild g v f e (Marked ms)

-- a chain leads to the child
abbrev pub CellChained : Geometry → View → Handle → Cell → Type 0
CellChained g v f e = ForChild g v f e (Chain g v)

-- the same for the first k of some cells
abbrev pub CellsDone : Geometry → View → Handle → List Cell → ℕ → List Bool → Type 0
CellsDone g v f es k ms = (j : ℕ) → j < k → CellDone g v f (slice_index_or es j []) ms

abbrev pub CellsChained : Geometry → View → Handle → List Cell → Type 0
CellsChained g v f es = (j : ℕ) → j < length es → CellChained g v f (slice_index_or es j [])

-- the children in leaf k of f, whose slot is r, are marked, if the leaf is good
abbrev pub LeafDone : Geometry → View → Handle → Slot → ℕ → List Bool → Type 0
LeafDone g v f r k ms = good v f r k ≡ true → CellsDone g v f (cells_in (v (number r k))) (length (cells_in (v (number r k)))) ms

-- in the first k leaves
abbrev pub LeavesDone : Geometry → View → Handle → Slot → ℕ → List Bool → Type 0
LeavesDone g v f r k ms = (l : ℕ) → l < k → LeafDone g v f r l ms

-- all children of the folder in slot s are marked
abbrev pub Done : Geometry → View → ℕ → List Bool → Type 0
Done g v s ms = (f c : Handle) (k p : ℕ) (n : Name) → f.slot.0 ≡ s → Sound g v f k p n c → Marked ms c.slot.0

-- the root is marked, and so are all children of the slots that were handed out
pub record Underway (g : Geometry) (v : View) (w : Work) : Type 0 where
  pub chained : Chained g v w
  pub root : Marked w.marks 0
  pub done : (i : ℕ) → i < w.head → Done g v (queued w.queue i) w.marks

-- a folder to which a chain leads
pub record Open (g : Geometry) (v : View) (f : Handle) (r : Slot) : Type 0 where
  pub fits : Fits g v f r
  pub kind : r.kind ≡ Folder
  pub chained : Chain g v f.slot.0
