-- What the slots known so far tell of bodies, of entries, and of the way up.
use Rattle.std.specs.Prelude.{ℕ, Bool, true, cond, ◌&&◌, List, [], ◌∷◌, is_some, Some, None, Option, ◌==◌, nat_lt, slice_index_or, slice_set}
use Rattle.std.specs.Option.{option_map}
use Rattle.base.specs.declared.number.SlotNo.{SlotNo}
use Rattle.base.specs.declared.owner.Kind.{Kind}
use Rattle.base.specs.declared.owner.Kind.TheVariants.{File, Folder}
use Rattle.base.specs.declared.owner.Handle.{Handle}
use Rattle.base.specs.declared.owner.Back.{Back}
use Rattle.layout.specs.Format.{Cell, Geometry, Slot, Content, blank, cover, slotted, file_body, folder_body, ill_formed, Entry, entry, no_entry, entry_of}
use Rattle.rule.specs.Agree.{same_kind, same_handle, some_is, given, count, number, climbs}
use Rattle.marks.specs.declared.mark.SlotMark.{SlotMark}
use Rattle.marks.specs.Marks.{slot_line}
use Rattle.walk.specs.Copies.{copied}
use Rattle.survey.specs.declared.slots.KnownSlot.{KnownSlot}
use Rattle.survey.specs.declared.slots.Slots.{Slots}

-- the slot that is known
abbrev pub slot_of : KnownSlot → Slot
slot_of k = copied k.copy

-- what is known of slot s
abbrev pub known_at : Slots → ℕ → Option KnownSlot
known_at ss s = slice_index_or ss.known s None

-- slot s, as remembered
abbrev pub kept : Slots → ℕ → Option Slot
kept ss s = option_map slot_of (known_at ss s)

-- slot s is remembered as one that a sound entry leads to
abbrev pub is_linked : Slots → ℕ → Bool
is_linked ss s = some_is (known_at ss s) (λ k. k.linked)

-- a body of kind d in block b, with the back line c, is a good leaf of this slot
abbrev pub leaf_of : Kind → Back → ℕ → Slot → Bool
leaf_of d c b r = r.identity == c.owner.identity.0 && (number r c.leaf.0 == b && (nat_lt c.leaf.0 (count r) && same_kind r.kind d))

-- of the slot that it names
abbrev pub is_leaf : Slots → Kind → Back → ℕ → Bool
is_leaf ss d c b = some_is (kept ss c.owner.slot.0) (leaf_of d c b)

-- the back line of block b, if it is a good leaf, by what the block holds
abbrev pub line_by : Slots → ℕ → Content → Option Back
line_by ss b (file_body c x) = cond (is_leaf ss File c b) (Some c) None
line_by ss b (folder_body c es) = cond (is_leaf ss Folder c b) (Some c) None
line_by ss b blank = None
line_by ss b (cover g) = None
line_by ss b (slotted r) = None
line_by ss b ill_formed = None

-- this slot is that of the child c, and names the folder f as its parent
abbrev pub child_of : Handle → Handle → Slot → Bool
child_of f c r = r.identity == c.identity.0 && same_handle r.parent f

-- the same slot, marked
abbrev pub linked_slot : KnownSlot → KnownSlot
linked_slot k = record { copy = k.copy; linked = true }

-- slot s is marked, if it is remembered
abbrev pub linked_at : Slots → ℕ → Slots
linked_at ss s = record { known = slice_set ss.known s (option_map linked_slot (known_at ss s)) }

-- the child c of an entry of f is marked, if the entry is sound
abbrev pub linked_with : Handle → Handle → Slots → Slots
linked_with f c ss = cond (some_is (kept ss c.slot.0) (child_of f c)) (linked_at ss c.slot.0) ss

-- the same by the entry
abbrev pub link : Handle → Entry → Slots → Slots
link f (entry n c) ss = linked_with f c ss
link f no_entry ss = ss

-- the same for the entries in these cells
unfoldable pub links : Geometry → Handle → List Cell → Slots → Slots
links g f [] ss = ss
links g f (e ∷ es) ss = links g f es (link f (entry_of g e) ss)

-- the same for what block b holds, if it is a good leaf of a folder
abbrev pub links_by : Geometry → ℕ → Content → Slots → Slots
links_by g b (folder_body c es) ss = cond (is_leaf ss Folder c b) (links g c.owner es ss) ss
links_by g b (file_body c x) ss = ss
links_by g b blank ss = ss
links_by g b (cover c) ss = ss
links_by g b (slotted r) ss = ss
links_by g b ill_formed ss = ss

-- ---- at the end

abbrev pub slot_number : SlotNo → ℕ
slot_number s = s.0

-- the slot of the folder that slot s is in, if a sound entry leads to s
abbrev pub up_by : Slots → ℕ → Option ℕ
up_by ss s = cond (is_linked ss s) (option_map (λ r. r.parent.slot.0) (kept ss s)) None

-- the mark of slot s, if on a card of n slots one comes from it up to slot 0
abbrev pub slot_mark_by : ℕ → Slots → ℕ → Option SlotMark
slot_mark_by n ss s = cond (climbs (up_by ss) n s) (option_map slot_line (kept ss s)) None

-- the mark of a block, by its back line, if the slot that it names has a mark
abbrev pub body_mark_by : List (Option SlotMark) → Option Back → Option Back
body_mark_by ms o = given o (λ c. cond (is_some (slice_index_or ms c.owner.slot.0 None)) (Some c) None)
