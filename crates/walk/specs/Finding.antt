-- The first sound entry with a name, as the code answers it.
use Rattle.std.specs.Prelude.{◌≡◌, ℕ, Bool, true, false, cond, ◌&&◌, List, [], Some, None, Option, MatchOption}
use Rattle.base.specs.declared.owner.Handle.{Handle}
use Rattle.layout.specs.Format.{Geometry, Name, Cell, Slot, entry, entry_of}
use Rattle.rule.specs.Agree.{View, Place, first, has_name, agrees, good, number, cells_in, places_of}
use Rattle.walk.specs.Copies.{copied, child_slot}
use Rattle.walk.specs.declared.node.Node.{Node}
use Rattle.walk.specs.declared.entry.Found.{Found}

-- the entry in this cell of f's leaf has the name n and is sound
abbrev pub hits : Geometry → View → Handle → Name → Cell → Bool
hits g v f n e = has_name n (entry_of g e) && agrees g v f (entry_of g e)

-- the child of the entry in this cell, with its slot; none where the entry has not the name or is not sound
pub record Leads (g : Geometry) (v : View) (f : Handle) (n : Name) (e : Cell) (h : Handle) (r : Slot) : Type 0 where
  pub hit : hits g v f n e ≡ true
  pub here : entry_of g e ≡ entry n h
  pub child : child_slot g v f h ≡ Some r

abbrev pub CellIs : Geometry → View → Handle → Name → Cell → Option Node → Type 0
CellIs g v f n e o = MatchOption o (hits g v f n e ≡ false) (λ c. Leads g v f n e c.handle (copied c.slot))

-- what was found is at the place q
pub record FoundAt (g : Geometry) (v : View) (f : Handle) (n : Name) (q : Place) (x : Found) : Type 0 where
  pub leaf : x.leaf.0 ≡ q.leaf
  pub place : x.place ≡ q.place
  pub leads : Leads g v f n q.cell x.child.handle (copied x.child.slot)

-- the first of these places whose entry has the name and is sound
abbrev pub first_hit : Geometry → View → Handle → Name → List Place → Option Place
first_hit g v f n qs = first (λ q. hits g v f n q.cell) qs

abbrev pub FirstIs : Geometry → View → Handle → Name → Option Place → Option Found → Type 0
FirstIs g v f n s o = MatchOption o (s ≡ None) (λ x. (q : Place) × (s ≡ Some q) × FoundAt g v f n q x)

-- the places of leaf k, if it is good
abbrev pub leaf_places : View → Handle → Slot → ℕ → List Place
leaf_places v f r k = cond (good v f r k) (places_of k 0 (cells_in (v (number r k)))) []
