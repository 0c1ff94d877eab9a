-- What marks that agree with the blocks tell: reached, held, good and sound, without a look at the blocks; and what is free.
use Rattle.std.specs.Prelude.{◌≡◌, ℕ, ◌<◌, true}
use Rattle.base.specs.declared.owner.Handle.{Handle}
use Rattle.device.specs.Model.{In}
use Rattle.layout.specs.Format.{Name, Geometry, Slot, back, entry, entry_of}
use Rattle.rule.specs.Agree.{View, count, number, good, Place, places, agrees, reached, held, free_slot, free_body, free_slots, free_bodies}
use Rattle.rule.specs.Meaning.{Fits, Rooted}
use Rattle.marks.specs.declared.mark.Marks.{Marks}
use Rattle.marks.specs.Marks.{Agree, slot_taken, body_taken, is_leaf, is_child, next_free_slot, next_free_body, slots_left, bodies_left}

pub record Tells (g : Geometry) (v : View) (ms : Marks) : Type 0 where
  pub slot_is : (s : ℕ) → slot_taken ms s ≡ reached g v s
  pub body_is : (b : ℕ) → body_taken ms b ≡ held g v b
  -- leaf k of a reached h, whose slot is r, is good if its block is marked as that leaf
  pub leaf_is : (h : Handle) (r : Slot) (k : ℕ) → Fits g v h r → reached g v h.slot.0 ≡ true → k < count r →
      good v h r k ≡ is_leaf ms (number r k) (back h k)
  -- an entry over the good leaves of a reached folder f is sound if the mark of its child's slot says so
  pub entry_is : (f : Handle) (r : Slot) (q : Place) (n : Name) (c : Handle) → Fits g v f r → reached g v f.slot.0 ≡ true →
      In q (places v f r) → entry_of g q.cell ≡ entry n c → agrees g v f (entry n c) ≡ is_child ms f c
  pub slot_next : (at : ℕ) → free_slot g v at ≡ next_free_slot g ms at
  pub body_next : (at : ℕ) → free_body g v at ≡ next_free_body g ms at
  pub slots_count : free_slots g v ≡ slots_left g ms
  pub bodies_count : free_bodies g v ≡ bodies_left g ms

abbrev pub MarksTell : Type 0
MarksTell = (g : Geometry) (v : View) (ms : Marks) → Rooted g v → Agree g v ms → Tells g v ms
