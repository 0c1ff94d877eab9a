-- The named bytes of a slot and of a body, and what they make of the rest of the block.
use Rattle.std.specs.Prelude.{ℕ, Bool, cond, ◌&&◌, List, take, ◌==◌, nat_le, nat_lt}
use Rattle.base.specs.declared.owner.Kind.{Kind}
use Rattle.base.specs.declared.owner.Kind.TheVariants.{File, Folder}
use Rattle.device.specs.Model.{Block}
use Rattle.layout.specs.Format.{Geometry, Content, slotted, file_body, folder_body, ill_formed, file_body_of, folder_body_of, handle, back, le16, le32, Cell, numbers_of, cells_of, all_bodies, leaf_limit}
use Rattle.layout.specs.declared.block.parsing.SlotHead.{SlotHead}
use Rattle.layout.specs.declared.block.parsing.BodyHead.{BodyHead}

-- a head from the bytes of each field
abbrev pub slot_head : List ℕ → List ℕ → List ℕ → List ℕ → SlotHead
slot_head c i p s =
    record { count = le16 c 0; identity = record { 0 = le32 i 0 }; parent = handle (le16 s 0) (le32 p 0) }

abbrev pub body_head : List ℕ → List ℕ → List ℕ → List ℕ → BodyHead
body_head s i k u = record { back = back (handle (le16 s 0) (le32 i 0)) (le16 k 0); used = le16 u 0 }

-- a head from a block
abbrev pub slot_head_at : Block → SlotHead
slot_head_at z =
    record { count = le16 z 2; identity = record { 0 = le32 z 4 }; parent = handle (le16 z 12) (le32 z 8) }

abbrev pub body_head_at : Block → BodyHead
body_head_at z = record { back = back (handle (le16 z 2) (le32 z 4)) (le16 z 8); used = le16 z 10 }

-- the 15 cells of a folder's leaf
unfoldable pub cells : List ℕ → List Cell
cells z = cells_of 15 z

-- the ranges of a head
abbrev pub slot_head_fits : Geometry → SlotHead → Bool
slot_head_fits g h =
    nat_le h.count leaf_limit && (nat_le 1 h.identity.0 && (nat_le 1 h.parent.identity.0 && nat_lt h.parent.slot.0 g.slots))

abbrev pub body_head_fits : Geometry → BodyHead → Bool
body_head_fits g h =
    nat_lt h.back.owner.slot.0 g.slots && (nat_le 1 h.back.owner.identity.0 && nat_lt h.back.leaf.0 leaf_limit)

-- what a head and the bytes after it make
abbrev pub slot_by : Geometry → Kind → SlotHead → List ℕ → Content
slot_by g d h rest =
    cond (slot_head_fits g h && all_bodies g (numbers_of h.count rest))
    (slotted (record { kind = d; identity = h.identity.0; parent = h.parent; numbers = numbers_of h.count rest })) ill_formed

abbrev pub file_body_by : Geometry → BodyHead → List ℕ → Content
file_body_by g h rest = cond (body_head_fits g h && nat_le h.used 496) (file_body h.back (take h.used rest)) ill_formed

abbrev pub folder_body_by : Geometry → BodyHead → List ℕ → Content
folder_body_by g h rest = cond (body_head_fits g h && h.used == 480) (folder_body h.back (cells rest)) ill_formed

abbrev pub body_by : Geometry → Kind → BodyHead → List ℕ → Content
body_by g File h rest = file_body_by g h rest
body_by g Folder h rest = folder_body_by g h rest

abbrev pub body_of : Geometry → Kind → Block → Content
body_of g File z = file_body_of g z
body_of g Folder z = folder_body_of g z
