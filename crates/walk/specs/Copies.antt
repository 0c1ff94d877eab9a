-- What the copies of slots and leaves stand for, which are taken out of a block before the next is read.
use Rattle.std.specs.Prelude.{◌≡◌, ℕ, true, false, cond, ◌&&◌, List, take, Some, None, Option, MatchOption, ◌==◌}
use Rattle.std.specs.Option.{option_map}
use Rattle.base.specs.declared.owner.Handle.{Handle}
use Rattle.layout.specs.Format.{Geometry, Slot, Content, blank, cover, slotted, file_body, folder_body, ill_formed, numbers_of}
use Rattle.layout.specs.Head.{cells}
use Rattle.rule.specs.Agree.{View, slot_at, number, good, same_handle, given}
use Rattle.walk.specs.declared.slot.SlotCopy.{SlotCopy}
use Rattle.walk.specs.declared.leaf_copy.LeafCopy.{LeafCopy}

abbrev pub copied : SlotCopy → Slot
copied c = record { kind = c.kind; identity = c.identity.0; parent = c.parent; numbers = numbers_of c.count c.numbers }

-- a copy of slot s, or none where it is not well formed
abbrev pub SlotIs : Geometry → View → ℕ → Option SlotCopy → Type 0
SlotIs g v s o = option_map copied o ≡ slot_at g v s

-- the bytes used
abbrev pub front : LeafCopy → List ℕ
front l = take l.used l.bytes

-- of a folder's leaf, the bytes of its 15 cells
abbrev pub folder_bytes : LeafCopy → List ℕ
folder_bytes l = take 480 l.bytes

-- a copy of what follows a body's head
abbrev pub Holds : LeafCopy → Content → Type 0
Holds l (file_body b x) = front l ≡ x
Holds l (folder_body b es) = (l.used ≡ 480) × (cells (front l) ≡ es)
Holds l blank = ⊥
Holds l (cover g) = ⊥
Holds l (slotted r) = ⊥
Holds l ill_formed = ⊥

-- a copy of leaf k, or none where it is not good
abbrev pub LeafIs : View → Handle → Slot → ℕ → Option LeafCopy → Type 0
LeafIs v h r k o = MatchOption o (good v h r k ≡ false) (λ l. (good v h r k ≡ true) × Holds l (v (number r k)))

-- the folder that a slot names
abbrev pub parent_line : SlotCopy → Handle
parent_line c = c.parent

-- the slot of the child c that an entry of f leads to; none where the entry is not sound
abbrev pub child_slot : Geometry → View → Handle → Handle → Option Slot
child_slot g v f c = given (slot_at g v c.slot.0) (λ r. cond (r.identity == c.identity.0 && same_handle r.parent f) (Some r) None)

abbrev pub ChildIs : Geometry → View → Handle → Handle → Option SlotCopy → Type 0
ChildIs g v f c o = option_map copied o ≡ child_slot g v f c
