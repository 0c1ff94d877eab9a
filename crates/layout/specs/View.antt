-- What a parsed block in the code stands for.
use Rattle.std.specs.Prelude.{◌≡◌, ℕ, ◌*◌, ◌/◌, ◌≤◌, List, length}
use Rattle.base.specs.declared.owner.Kind.{Kind}
use Rattle.base.specs.declared.owner.Kind.TheVariants.{File, Folder}
use Rattle.layout.specs.Format.{Content, blank, cover, slotted, file_body, folder_body, ill_formed, numbers_of, leaf_limit}
use Rattle.layout.specs.Sizes.{geometry}
use Rattle.layout.specs.Head.{cells}
use Rattle.layout.specs.declared.block.Slot.{Slot}
use Rattle.layout.specs.declared.block.Block.{Block}
use Rattle.layout.specs.declared.block.Block.TheVariants.{Blank, Cover, FileSlot, FolderSlot, FileBody, FolderBody, IllFormed}

-- the numbers in some bytes, two bytes each
abbrev pub all_numbers : List ℕ → List ℕ
all_numbers z = numbers_of (length z / 2) z

abbrev pub slot_view : Kind → Slot → Content
slot_view d s =
    slotted (record { kind = d; identity = s.identity.0; parent = s.parent; numbers = all_numbers s.numbers.now })

abbrev pub view : Block → Content
view Blank = blank
view (Cover n s) = cover (geometry n s)
view (FileSlot s) = slot_view File s
view (FolderSlot s) = slot_view Folder s
view (FileBody b) = file_body b.back b.payload.now
view (FolderBody b) = folder_body b.back (cells b.payload.now)
view IllFormed = ill_formed

-- how much of the block each kind borrows: two bytes for each number, the used bytes, 15 cells
abbrev pub SlotSized : List ℕ → Type 0
SlotSized z = (length z ≡ 2 * (length z / 2)) × (length z / 2 ≤ leaf_limit)

abbrev pub Sized : Block → Type 0
Sized Blank = Unit {0}
Sized (Cover n s) = Unit {0}
Sized (FileSlot s) = SlotSized s.numbers.now
Sized (FolderSlot s) = SlotSized s.numbers.now
Sized (FileBody b) = length b.payload.now ≤ 496
Sized (FolderBody b) = length b.payload.now ≡ 480
Sized IllFormed = Unit {0}
