-- How the marks in memory follow each accepted changing call: marks that agreed with the blocks before it, set and taken back so, agree after it.
use Rattle.std.specs.Prelude.{◌≡◌, ℕ, ◌-◌, ◌≤◌, List, length, Some, None, Ok, Option}
use Rattle.base.specs.declared.owner.Kind.{Kind}
use Rattle.base.specs.declared.owner.Handle.{Handle}
use Rattle.base.specs.declared.owner.Back.{Back}
use Rattle.device.specs.Effect.{puts}
use Rattle.layout.specs.Format.{Name, Geometry, Slot, back, entry_of}
use Rattle.rule.specs.Agree.{Shown, seen, slot_at, count, Place, found, from}
use Rattle.rule.specs.Card.{Card, Plan}
use Rattle.rule.specs.Reading.{child_of}
use Rattle.rule.specs.Changing.{open_place, new_slot, create, write, shorten, remove}
use Rattle.marks.specs.declared.mark.SlotMark.{SlotMark}
use Rattle.marks.specs.declared.mark.Marks.{Marks}
use Rattle.marks.specs.Marks.{Agree, slot_line, with_slot, with_body, released, without, with_gained}
use Rattle.moves.specs.Tied.{Tied}
use Rattle.moves.specs.Moves.{body_taken, body_added}

-- there is a mark for each slot and for each block
abbrev pub Room : Geometry → Marks → Type 0
Room g ms = (g.slots ≤ length ms.slots) × (g.blocks ≤ length ms.bodies)

-- and there still is, however the marks are set and taken back
pub record RoomStays (g : Geometry) (ms : Marks) : Type 0 where
  pub slot : (s : ℕ) (x : Option SlotMark) → Room g (with_slot ms s x)
  pub body : (b : ℕ) (x : Option Back) → Room g (with_body ms b x)
  pub leaf : (b : ℕ) (x : Back) → Room g (released ms b x)
  pub leaves : (h : Handle) (r : Slot) (ks : List ℕ) → Room g (without ms h r ks)
  pub gained : (o : Option ℕ) (x : Back) → Room g (with_gained ms o x)

abbrev pub RoomStaysAlways : Type 0
RoomStaysAlways = (g : Geometry) (ms : Marks) → Room g ms → RoomStays g ms

-- ---- create and write: what is marked

-- the body that was added is marked as leaf k of h
abbrev pub WriteMarks : Type 0
WriteMarks = (g : Geometry) (c : Card) (shown : Shown) (h : Handle) (k : ℕ) (x : List ℕ) (p : Plan (Unit {0})) (r : Slot) (ms : Marks) →
    Tied g c shown → write h k x c shown ≡ Ok p → slot_at g (seen g shown) h.slot.0 ≡ Some r → Agree g (seen g shown) ms → Room g ms →
    Agree g (seen g (puts shown p.puts)) (with_gained ms (body_added g (seen g shown) c k (count r)) (back h k))

-- the new slot is marked with its identity and its folder f; if f, whose slot is r, gained a leaf, its body is marked as that
abbrev pub CreateMarks : Type 0
CreateMarks = (g : Geometry) (c : Card) (shown : Shown) (d : Kind) (f : Handle) (n : Name) (p : Plan Handle) (r : Slot) (ms : Marks) →
    Tied g c shown → create d f n c shown ≡ Ok p → slot_at g (seen g shown) f.slot.0 ≡ Some r → Agree g (seen g shown) ms → Room g ms →
    Agree g (seen g (puts shown p.puts))
    (with_gained (with_slot ms p.answer.slot.0 (Some (slot_line (new_slot d f p.answer.identity.0))))
    (body_taken g (seen g shown) c (open_place g (seen g shown) f r)) (back f (count r)))

-- ---- shorten and remove: what is free again

-- the bodies that are marked as leaves of h from n on
abbrev pub ShortenMarks : Type 0
ShortenMarks = (g : Geometry) (c : Card) (shown : Shown) (h : Handle) (n : ℕ) (p : Plan (Unit {0})) (r : Slot) (ms : Marks) →
    Tied g c shown → shorten h n c shown ≡ Ok p → slot_at g (seen g shown) h.slot.0 ≡ Some r → Agree g (seen g shown) ms → Room g ms →
    Agree g (seen g (puts shown p.puts)) (without ms h r (from n (count r - n)))

-- the slot of the child a that find takes, and the bodies that are marked as its leaves
abbrev pub RemoveMarks : Type 0
RemoveMarks = (g : Geometry) (c : Card) (shown : Shown) (f : Handle) (n : Name) (p : Plan (Unit {0})) (r : Slot) (q : Place) (a : Handle) (t : Slot) (ms : Marks) →
    Tied g c shown → remove f n c shown ≡ Ok p → slot_at g (seen g shown) f.slot.0 ≡ Some r →
    found g (seen g shown) f r n ≡ Some q → child_of (entry_of g q.cell) ≡ a → slot_at g (seen g shown) a.slot.0 ≡ Some t →
    Agree g (seen g shown) ms → Room g ms →
    Agree g (seen g (puts shown p.puts)) (with_slot (without ms a t (from 0 (count t))) a.slot.0 None)
