-- What is written is read back as what was meant, if it keeps its ranges and stands in its region.
use Rattle.std.specs.Prelude.{◌≡◌, ℕ, ◌^◌, ◌<◌, ◌≤◌, Bool, true, ◌&&◌, ◌⊎◌, List, [], ◌∷◌, length, get_or, ◌==◌, ◌≢◌, slice_index, slice_index_or}
use Rattle.base.specs.declared.owner.Handle.{Handle}
use Rattle.base.specs.declared.owner.Back.{Back}
use Rattle.device.specs.Model.{Block}
use Rattle.layout.specs.Format.{Geometry, Slot, Name, Cell, Content, blank, cover, slotted, file_body, folder_body, ill_formed, entry, in_limits, leaf_limit, all_bodies, region, cover_region, slot_region, body_region, parse, entry_of, good_name}
use Rattle.layout.specs.Entries.{State, blank as empty, well_formed, ill_formed as misshapen}

-- an identity is from 1 and has four bytes
abbrev pub IdentityFits : ℕ → Type 0
IdentityFits i = (1 ≤ i) × (i < 2 ^ 32)

pub record SlotFits (g : Geometry) (r : Slot) : Type 0 where
  pub few : length r.numbers ≤ leaf_limit
  pub own : IdentityFits r.identity
  pub parent : IdentityFits r.parent.identity.0
  pub parent_slot : r.parent.slot.0 < g.slots
  pub bodies : all_bodies g r.numbers ≡ true

pub record BackFits (g : Geometry) (b : Back) : Type 0 where
  pub slot : b.owner.slot.0 < g.slots
  pub own : IdentityFits b.owner.identity.0
  pub leaf : b.leaf.0 < leaf_limit

pub record ChildFits (g : Geometry) (c : Handle) : Type 0 where
  pub from_one : 1 ≤ c.slot.0
  pub slot : c.slot.0 < g.slots
  pub own : IdentityFits c.identity.0

-- each cell has 32 bytes
abbrev pub whole_cells : List Cell → Bool
whole_cells [] = true
whole_cells (e ∷ es) = length e == 32 && whole_cells es

-- a content that may be written at block b
abbrev pub Writable : Geometry → ℕ → Content → Type 0
Writable g b blank = (region g b ≡ slot_region) ⊎ (region g b ≡ body_region)
Writable g b (cover c) = (region g b ≡ cover_region) × (in_limits c.blocks c.slots ≡ true)
Writable g b (slotted r) = (region g b ≡ slot_region) × SlotFits g r
Writable g b (file_body k x) = (region g b ≡ body_region) × BackFits g k × (length x ≤ 496)
Writable g b (folder_body k es) = (region g b ≡ body_region) × BackFits g k × (length es ≡ 15) × (whole_cells es ≡ true)
Writable g b ill_formed = ⊥

-- the bytes z are read as the content c wherever it may be written
abbrev pub ReadAs : Content → Block → Type 0
ReadAs c z = (g : Geometry) (b : ℕ) → in_limits g.blocks g.slots ≡ true → Writable g b c → parse g b z ≡ c

-- the same of a folder's body, whose cells are known to be whole
abbrev pub ReadAsFolder : Back → List Cell → Block → Type 0
ReadAsFolder k es z =
    (g : Geometry) (b : ℕ) → in_limits g.blocks g.slots ≡ true → region g b ≡ body_region → BackFits g k → parse g b z ≡ folder_body k es

-- the bytes e are read as an entry
abbrev pub ReadAsEntry : Name → Handle → Cell → Type 0
ReadAsEntry n c e = (g : Geometry) → in_limits g.blocks g.slots ≡ true → ChildFits g c → entry_of g e ≡ entry n c

-- ys is xs with e at place k, and every other cell as it was
pub record ChangedAt (k : ℕ) (e : Cell) (xs ys : List Cell) : Type 0 where
  pub there : get_or ys k [] ≡ e
  pub elsewhere : (j : ℕ) → (j ≢ k) → slice_index_or ys j [] ≡ slice_index_or xs j []

-- an entry that is well formed keeps its ranges
abbrev pub EntryRanged : Geometry → State → Type 0
EntryRanged g empty = Unit {0}
EntryRanged g (well_formed n c) = (good_name n ≡ true) × ChildFits g c
EntryRanged g misshapen = Unit {0}

-- every number of the list is a byte
abbrev pub Bytes : List ℕ → Type 0
Bytes z = (i : ℕ) → slice_index z i < 256

-- what a block of 512 bytes is read as, if not as ill formed, may be written there again
abbrev pub Rewritable : Geometry → ℕ → Block → Type 0
Rewritable g b z = Bytes z → length z ≡ 512 → (c : Content) → parse g b z ≡ c → (c ≢ ill_formed) → Writable g b c
