-- The search among the entries of a folder, by what the marks say of each.
use Rattle.std.specs.Prelude.{◌≡◌, ℕ, ◌<◌, Bool, false, not, ◌&&◌, List, [], take, Some, None, Option, MatchOption, slice_index_or}
use Rattle.base.specs.declared.owner.Handle.{Handle}
use Rattle.layout.specs.Format.{Geometry, Cell, Slot, Entry, entry, no_entry, entry_of}
use Rattle.layout.specs.Head.{cells}
use Rattle.marks.specs.Marks.{is_child}
use Rattle.marks.specs.declared.mark.Marks.{Marks}
use Rattle.rule.specs.Agree.{View, Place, first, has_name, number, cells_in, places_of, places}
use Rattle.walk.specs.Finding.{leaf_places}
use Rattle.walk.specs.declared.leaf_copy.LeafCopy.{LeafCopy}
use Rattle.change.specs.declared.scan.Sought.{Sought}
use Rattle.change.specs.declared.scan.Sought.TheVariants.{Entry as AnyEntry, Named, Open}
use Rattle.change.specs.declared.scan.Spot.{Spot}
use Rattle.change.specs.declared.scan.Scan.{Scan}

-- an entry of the folder f is sound, by the marks
abbrev pub marked : Marks → Handle → Entry → Bool
marked ms f (entry n c) = is_child ms f c
marked ms f no_entry = false

-- the cell is one that is sought: any sound entry, one with the name, or one that is not sound
abbrev pub passes : Geometry → Marks → Handle → Sought → Cell → Bool
passes g ms f AnyEntry e = marked ms f (entry_of g e)
passes g ms f (Named n) e = has_name n.now (entry_of g e) && marked ms f (entry_of g e)
passes g ms f Open e = not (marked ms f (entry_of g e))

abbrev pub at_cell : (Cell → Bool) → Place → Bool
at_cell p q = p q.cell

-- the first such place
abbrev pub first_sought : Geometry → Marks → Handle → Sought → List Place → Option Place
first_sought g ms f a qs = first (at_cell (passes g ms f a)) qs

-- the place in a leaf of these cells, whichever leaf it is
abbrev pub PlaceIs : Geometry → Marks → Handle → Sought → List Cell → Option ℕ → Type 0
PlaceIs g ms f a cs o = MatchOption o ((k : ℕ) → first_sought g ms f a (places_of k 0 cs) ≡ None)
    (λ i. (i < 15) × ((k : ℕ) → first_sought g ms f a (places_of k 0 cs) ≡ Some (record { leaf = k; place = i; cell = slice_index_or cs i [] })))

-- the same with a copy l of leaf k
abbrev pub SpotIn : Geometry → Marks → Handle → Sought → ℕ → LeafCopy → Option Spot → Type 0
SpotIn g ms f a k l o = MatchOption o (PlaceIs g ms f a (cells (take 480 l.bytes)) None)
    (λ x. (x.leaf.0 ≡ k) × (x.copy ≡ l) × PlaceIs g ms f a (cells (take 480 l.bytes)) (Some x.place))

-- the code's place with a copy of its leaf is the place q of a folder whose slot is r
pub record SpotAt (v : View) (r : Slot) (q : Place) (x : Spot) : Type 0 where
  pub leaf : x.leaf.0 ≡ q.leaf
  pub place : x.place ≡ q.place
  pub inside : x.place < 15
  pub cells : cells (take 480 x.copy.bytes) ≡ cells_in (v (number r q.leaf))
  pub cell : q.cell ≡ slice_index_or (cells_in (v (number r q.leaf))) q.place []

-- s is this place; where there is none yet, s is what is left
abbrev pub SpotOr : View → Slot → Option Place → Option Place → Option Spot → Type 0
SpotOr v r s rest o = MatchOption o (s ≡ rest) (λ x. (q : Place) × (s ≡ Some q) × SpotAt v r q x)

-- what a scan of leaf k adds to the open place that was met before it
pub record LeafScanned (g : Geometry) (v : View) (ms : Marks) (f : Handle) (r : Slot) (k : ℕ) (a : Sought) (before : Option Spot) (x : Scan) : Type 0 where
  pub found : SpotOr v r (first_sought g ms f a (leaf_places v f r k)) None x.found
  pub vacant : MatchOption before (SpotOr v r (first_sought g ms f Open (leaf_places v f r k)) None x.vacant) (λ y. x.vacant ≡ Some y)

-- the first place that is sought; and the first open place, if that was not met
pub record Scanned (g : Geometry) (v : View) (ms : Marks) (f : Handle) (r : Slot) (a : Sought) (x : Scan) : Type 0 where
  pub found : SpotOr v r (first_sought g ms f a (places v f r)) None x.found
  pub vacant : x.found ≡ None → SpotOr v r (first_sought g ms f Open (places v f r)) None x.vacant
