-- The first bytes of a block and of a cell, and the contents that encoders are given.
use Rattle.std.specs.Prelude.{◌≡◌, ℕ, ◌<◌, List, [], ◌∷◌, map, length, get_or}
use Rattle.base.specs.declared.number.BlockNo.{BlockNo}
use Rattle.base.specs.declared.owner.Kind.{Kind}
use Rattle.base.specs.declared.owner.Kind.TheVariants.{File, Folder}
use Rattle.base.specs.declared.owner.Handle.{Handle}
use Rattle.base.specs.declared.owner.Back.{Back}
use Rattle.layout.specs.Format.{Geometry, Slot, two, four, slot_byte}

abbrev pub cover_head : Geometry → List ℕ
cover_head g = 1 ∷ 1 ∷ two g.blocks (two g.slots [])

abbrev pub slot_head_bytes : Kind → ℕ → ℕ → Handle → List ℕ
slot_head_bytes d count i p =
    slot_byte d ∷ 0 ∷ two count (four i (four p.identity.0 (two p.slot.0 (0 ∷ 0 ∷ []))))

-- the first byte of a leaf's body
abbrev pub body_byte : Kind → ℕ
body_byte File = 4
body_byte Folder = 5

abbrev pub body_head_bytes : ℕ → Back → ℕ → List ℕ
body_head_bytes x b used =
    x ∷ 0 ∷ two b.owner.slot.0 (four b.owner.identity.0 (two b.leaf.0 (two used (0 ∷ 0 ∷ 0 ∷ 0 ∷ []))))

abbrev pub entry_head_bytes : ℕ → Handle → List ℕ
entry_head_bytes n c = n ∷ 0 ∷ two c.slot.0 (four c.identity.0 [])

-- the numbers of blocks
abbrev pub plain : List BlockNo → List ℕ
plain ns = map (λ (b : BlockNo). b.0) ns

abbrev pub slot_record : Kind → ℕ → Handle → List ℕ → Slot
slot_record d i p ns = record { kind = d; identity = i; parent = p; numbers = ns }

-- a folder's leaf has a cell at this place
abbrev pub Placed : List ℕ → ℕ → Type 0
Placed payload place = (length payload ≡ 480) × (place < 15)

-- the first n of 64 blocks are the numbers ns, and 0 after those
pub record Begins (ns : List ℕ) (bs : List BlockNo) (n : ℕ) : Type 0 where
  pub size : length bs ≡ 64
  pub each : (j : ℕ) → j < n → (get_or bs j (record { 0 = 0 })).0 ≡ get_or ns j 0
