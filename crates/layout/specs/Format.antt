-- The card's format: what the bytes of a block mean, and the bytes that are written.
use Rattle.std.specs.Prelude.{ℕ, zero, suc, ◌+◌, ◌-◌, ◌*◌, ◌/◌, ◌%◌, Bool, true, false, cond, not, ◌&&◌, ◌||◌, List, [], ◌∷◌, ◌++◌, length, take, drop, replicate, ◌==◌, nat_le, nat_lt, slice_index}
use Rattle.base.specs.declared.owner.Kind.{Kind}
use Rattle.base.specs.declared.owner.Kind.TheVariants.{File, Folder}
use Rattle.base.specs.declared.owner.Handle.{Handle}
use Rattle.base.specs.declared.owner.Back.{Back}
use Rattle.device.specs.Model.{Block}

abbrev pub Name : Type 0
Name = List ℕ

-- the 32 bytes of an entry of a folder
abbrev pub Cell : Type 0
Cell = List ℕ

-- the block count and the slot count of a card
pub record Geometry : Type 0 where
  pub blocks : ℕ
  pub slots : ℕ

abbrev pub handle : ℕ → ℕ → Handle
handle s i = record { slot = record { 0 = s }; identity = record { 0 = i } }

abbrev pub back : Handle → ℕ → Back
back h k = record { owner = h; leaf = record { 0 = k } }

-- a well-formed slot (an inode): `numbers` are the blocks of its leaves, one for each
pub record Slot : Type 0 where
  pub kind : Kind
  pub identity : ℕ
  pub parent : Handle
  pub numbers : List ℕ

-- what a block holds
pub data Content : Type 0 where
  blank : Content
  cover : Geometry → Content
  slotted : Slot → Content
  file_body : Back → List ℕ → Content
  folder_body : Back → List Cell → Content
  ill_formed : Content

-- what an entry holds; blank and ill-formed entries lead nowhere
pub data Entry : Type 0 where
  entry : Name → Handle → Entry
  no_entry : Entry

-- ---- limits

-- the most leaves of a slot, the most bytes of a file's leaf, the bytes of a folder's leaf
abbrev pub leaf_limit : ℕ
leaf_limit = 64

abbrev pub in_limits : ℕ → ℕ → Bool
in_limits blocks slots = nat_le 2 slots && (nat_le slots 256 && (nat_le (slots + 2) blocks && nat_le blocks 4096))

-- ---- numbers, low byte first

abbrev pub le16 : List ℕ → ℕ → ℕ
le16 z i = slice_index z i + 256 * slice_index z (i + 1)

abbrev pub le32 : List ℕ → ℕ → ℕ
le32 z i = le16 z i + 65536 * le16 z (i + 2)

-- n bytes from place i on
abbrev pub between : ℕ → ℕ → List ℕ → List ℕ
between i n z = take n (drop i z)

-- the first n numbers of two bytes
abbrev pub numbers_of : ℕ → List ℕ → List ℕ
numbers_of zero z = []
numbers_of (suc n) z = le16 z 0 ∷ numbers_of n (drop 2 z)

-- the first n cells
abbrev pub cells_of : ℕ → List ℕ → List Cell
cells_of zero z = []
cells_of (suc n) z = take 32 z ∷ cells_of n (drop 32 z)

-- ---- reading

abbrev pub body_number : Geometry → ℕ → Bool
body_number g b = nat_lt g.slots b && nat_lt b g.blocks

abbrev pub all_bodies : Geometry → List ℕ → Bool
all_bodies g [] = true
all_bodies g (b ∷ bs) = body_number g b && all_bodies g bs

-- no byte is 0 or '/'
abbrev pub plain_bytes : List ℕ → Bool
plain_bytes [] = true
plain_bytes (x ∷ xs) = not (x == 0 || x == 47) && plain_bytes xs

abbrev pub good_name : Name → Bool
good_name n = nat_le 1 (length n) && (nat_le (length n) 24 && plain_bytes n)

abbrev pub cover_of : Block → Content
cover_of z =
    cond (slice_index z 0 == 1 && (slice_index z 1 == 1 && in_limits (le16 z 2) (le16 z 4)))
    (cover (record { blocks = le16 z 2; slots = le16 z 4 })) ill_formed

-- the fields of a slot, in their ranges or not
abbrev pub slot_fields : Kind → Block → Slot
slot_fields d z = record {
  kind = d;
  identity = le32 z 4;
  parent = handle (le16 z 12) (le32 z 8);
  numbers = numbers_of (le16 z 2) (drop 16 z);
}

abbrev pub slot_fits : Geometry → Block → Bool
slot_fits g z =
    nat_le (le16 z 2) leaf_limit && (nat_le 1 (le32 z 4) && (nat_le 1 (le32 z 8) && (nat_lt (le16 z 12) g.slots && all_bodies g (numbers_of (le16 z 2) (drop 16 z)))))

abbrev pub slot_of : Geometry → Kind → Block → Content
slot_of g d z = cond (slot_fits g z) (slotted (slot_fields d z)) ill_formed

abbrev pub back_of : Block → Back
back_of z = back (handle (le16 z 2) (le32 z 4)) (le16 z 8)

abbrev pub back_fits : Geometry → Block → Bool
back_fits g z = nat_lt (le16 z 2) g.slots && (nat_le 1 (le32 z 4) && nat_lt (le16 z 8) leaf_limit)

abbrev pub file_body_of : Geometry → Block → Content
file_body_of g z =
    cond (back_fits g z && nat_le (le16 z 10) 496) (file_body (back_of z) (between 16 (le16 z 10) z)) ill_formed

abbrev pub folder_body_of : Geometry → Block → Content
folder_body_of g z =
    cond (back_fits g z && le16 z 10 == 480) (folder_body (back_of z) (cells_of 15 (drop 16 z))) ill_formed

-- where a block lies says which kinds may stand there
pub data Region : Type 0 where
  cover_region : Region
  slot_region : Region
  body_region : Region
  beyond : Region

abbrev pub region : Geometry → ℕ → Region
region g b = cond (b == 0) cover_region (cond (nat_le b g.slots) slot_region (cond (nat_lt b g.blocks) body_region beyond))

-- the first byte says which kind it is
abbrev pub by_kind : Geometry → Region → ℕ → Block → Content
by_kind g cover_region x z = cover_of z
by_kind g slot_region x z =
    elim (x == 0) [ true ↦ blank | false ↦ elim (x == 2) [ true ↦ slot_of g File z | false ↦ elim (x == 3) [ true ↦ slot_of g Folder z | false ↦ ill_formed ] ] ]
by_kind g body_region x z =
    elim (x == 0) [ true ↦ blank | false ↦ elim (x == 4) [ true ↦ file_body_of g z | false ↦ elim (x == 5) [ true ↦ folder_body_of g z | false ↦ ill_formed ] ] ]
by_kind g beyond x z = ill_formed

-- what block b holds, by its bytes
unfoldable pub parse : Geometry → ℕ → Block → Content
parse g b z = by_kind g (region g b) (slice_index z 0) z

abbrev pub entry_fits : Geometry → Cell → Bool
entry_fits g e =
    nat_le 1 (slice_index e 0) && (nat_le (slice_index e 0) 24 && (nat_le 1 (le16 e 2) && (nat_lt (le16 e 2) g.slots && (nat_le 1 (le32 e 4) && plain_bytes (between 8 (slice_index e 0) e)))))

unfoldable pub entry_of : Geometry → Cell → Entry
entry_of g e =
    cond (entry_fits g e) (entry (between 8 (slice_index e 0) e) (handle (le16 e 2) (le32 e 4))) no_entry

-- ---- writing: bytes that are not named are zero

abbrev pub two : ℕ → List ℕ → List ℕ
two n z = n % 256 ∷ n / 256 % 256 ∷ z

abbrev pub four : ℕ → List ℕ → List ℕ
four n z = two n (two (n / 65536) z)

abbrev pub padded : ℕ → List ℕ → List ℕ
padded n z = z ++ replicate (n - length z) 0

abbrev pub numbers_bytes : List ℕ → List ℕ
numbers_bytes [] = []
numbers_bytes (b ∷ bs) = two b (numbers_bytes bs)

abbrev pub cells_bytes : List Cell → List ℕ
cells_bytes [] = []
cells_bytes (e ∷ es) = e ++ cells_bytes es

abbrev pub cell : Name → Handle → Cell
cell n c = length n ∷ 0 ∷ two c.slot.0 (four c.identity.0 (padded 24 n))

abbrev pub blank_cell : Cell
blank_cell = replicate 32 0

abbrev pub slot_byte : Kind → ℕ
slot_byte File = 2
slot_byte Folder = 3

abbrev pub body_bytes : ℕ → Back → ℕ → List ℕ → Block
body_bytes x b used z =
    x ∷ 0 ∷ two b.owner.slot.0 (four b.owner.identity.0 (two b.leaf.0 (two used (0 ∷ 0 ∷ 0 ∷ 0 ∷ padded 496 z))))

unfoldable pub encode : Content → Block
encode blank = replicate 512 0
encode (cover g) = 1 ∷ 1 ∷ two g.blocks (two g.slots (replicate 506 0))
encode (slotted r) =
    slot_byte r.kind ∷ 0 ∷ two (length r.numbers) (four r.identity (four r.parent.identity.0 (two r.parent.slot.0 (0 ∷ 0 ∷ padded 496 (numbers_bytes r.numbers)))))
encode (file_body b x) = body_bytes 4 b (length x) x
encode (folder_body b es) = body_bytes 5 b 480 (cells_bytes es)
encode ill_formed = []
