-- When owner and owned agree: good leaves, sound entries, and what is reached, held and free.
use Rattle.std.specs.Prelude.{ℕ, zero, suc, ◌-◌, min, max, Bool, true, false, cond, not, ◌&&◌, List, [], ◌∷◌, ◌++◌, length, Some, None, Option, ◌==◌, nat_lt, slice_index}
use Rattle.base.specs.declared.owner.Kind.{Kind}
use Rattle.base.specs.declared.owner.Kind.TheVariants.{File, Folder}
use Rattle.base.specs.declared.owner.Handle.{Handle}
use Rattle.base.specs.declared.owner.Back.{Back}
use Rattle.device.specs.Model.{Block}
use Rattle.layout.specs.Format.{Name, Cell, Geometry, handle, back, Slot, Content, blank, cover, slotted, file_body, folder_body, ill_formed, Entry, entry, no_entry, parse, entry_of}

-- the bytes that each block shows
abbrev pub Shown : Type 0
Shown = ℕ → Block

-- what each block holds
abbrev pub View : Type 0
View = ℕ → Content

abbrev pub seen : Geometry → Shown → View
seen g shown b = parse g b (shown b)

-- ---- comparing

abbrev pub same_kind : Kind → Kind → Bool
same_kind File File = true
same_kind File Folder = false
same_kind Folder File = false
same_kind Folder Folder = true

abbrev pub same_handle : Handle → Handle → Bool
same_handle a b = a.slot.0 == b.slot.0 && a.identity.0 == b.identity.0

abbrev pub same_back : Back → Back → Bool
same_back a b = same_handle a.owner b.owner && a.leaf.0 == b.leaf.0

abbrev pub same_bytes : List ℕ → List ℕ → Bool
same_bytes [] [] = true
same_bytes [] (y ∷ ys) = false
same_bytes (x ∷ xs) [] = false
same_bytes (x ∷ xs) (y ∷ ys) = x == y && same_bytes xs ys

-- ---- lists

-- the first that passes
abbrev pub first : {A : Type 0} → (A → Bool) → List A → Option A
first p [] = None
first p (x ∷ xs) = let rest = first p xs in cond (p x) (Some x) rest

-- all that pass, in order
abbrev pub those : {A : Type 0} → (A → Bool) → List A → List A
those p [] = []
those p (x ∷ xs) = let rest = those p xs in cond (p x) (x ∷ rest) rest

-- n numbers from i on
abbrev pub from : ℕ → ℕ → List ℕ
from i zero = []
from i (suc n) = i ∷ from (suc i) n

-- there is one, and it passes
abbrev pub some_is : {A : Type 0} → Option A → (A → Bool) → Bool
some_is None p = false
some_is (Some a) p = p a

abbrev pub given : {A B : Type 0} → Option A → (A → Option B) → Option B
given None k = None
given (Some a) k = k a

-- ---- leaves

abbrev pub slot_in : Content → Option Slot
slot_in (slotted r) = Some r
slot_in blank = None
slot_in (cover g) = None
slot_in (file_body b x) = None
slot_in (folder_body b es) = None
slot_in ill_formed = None

-- slot s, if it is well formed
abbrev pub slot_at : Geometry → View → ℕ → Option Slot
slot_at g v s = cond (nat_lt s g.slots) (slot_in (v (suc s))) None

-- the leaf count
abbrev pub count : Slot → ℕ
count r = length r.numbers

-- the block of leaf k
abbrev pub number : Slot → ℕ → ℕ
number r k = slice_index r.numbers k

-- a body of this kind whose back line is b
abbrev pub names : Kind → Back → Content → Bool
names File b (file_body c x) = same_back b c
names Folder b (folder_body c es) = same_back b c
names File b (folder_body c es) = false
names Folder b (file_body c x) = false
names d b blank = false
names d b (cover g) = false
names d b (slotted r) = false
names d b ill_formed = false

-- leaf k of h, whose slot is r, is good: the body at its number is of the slot's kind and names slot, identity and leaf
abbrev pub good : View → Handle → Slot → ℕ → Bool
good v h r k = nat_lt k (count r) && names r.kind (back h k) (v (number r k))

-- ---- entries

-- a place for an entry: which leaf, which of its 15 places, and the bytes there
pub record Place : Type 0 where
  pub leaf : ℕ
  pub place : ℕ
  pub cell : Cell

abbrev pub cells_in : Content → List Cell
cells_in (folder_body b es) = es
cells_in blank = []
cells_in (cover g) = []
cells_in (slotted r) = []
cells_in (file_body b x) = []
cells_in ill_formed = []

abbrev pub places_of : ℕ → ℕ → List Cell → List Place
places_of k p [] = []
places_of k p (e ∷ es) = record { leaf = k; place = p; cell = e } ∷ places_of k (suc p) es

abbrev pub places_over : View → Handle → Slot → List ℕ → List Place
places_over v h r [] = []
places_over v h r (k ∷ ks) = cond (good v h r k) (places_of k 0 (cells_in (v (number r k)))) [] ++ places_over v h r ks

-- every place over the good leaves, by leaf, then place; a file has none
abbrev pub places : View → Handle → Slot → List Place
places v h r = places_over v h r (from 0 (count r))

-- the child that this entry of the folder f names has its identity, and names f as its parent
abbrev pub agrees : Geometry → View → Handle → Entry → Bool
agrees g v f (entry n c) = some_is (slot_at g v c.slot.0) (λ r. (r.identity == c.identity.0) && same_handle r.parent f)
agrees g v f no_entry = false

-- the entry at this place over f's good leaves is sound
abbrev pub sound : Geometry → View → Handle → Place → Bool
sound g v f q = agrees g v f (entry_of g q.cell)

abbrev pub has_name : Name → Entry → Bool
has_name n (entry m c) = same_bytes n m
has_name n no_entry = false

abbrev pub leads_to : Handle → Entry → Bool
leads_to h (entry m c) = same_handle h c
leads_to h no_entry = false

-- the first sound entry of f, whose slot is r, with the name n
abbrev pub found : Geometry → View → Handle → Slot → Name → Option Place
found g v f r n = first (λ q. has_name n (entry_of g q.cell) && sound g v f q) (places v f r)

-- a sound entry of f, whose slot is r, leads to h
abbrev pub lists : Geometry → View → Handle → Slot → Handle → Bool
lists g v f r h = some_is (first (λ q. leads_to h (entry_of g q.cell) && sound g v f q) (places v f r)) (λ q. true)

-- ---- reached, held, free

abbrev pub root : Handle
root = handle 0 1

-- the slot that s names as parent, if it has that identity and a sound entry that leads to s
abbrev pub parent_of : Geometry → View → ℕ → Option ℕ
parent_of g v s = given (slot_at g v s) (λ r. given (slot_at g v r.parent.slot.0) (λ f.
    cond (f.identity == r.parent.identity.0 && lists g v r.parent f (handle s r.identity)) (Some r.parent.slot.0) None))

-- from s one comes to 0 in at most n steps up
abbrev pub climbs : (ℕ → Option ℕ) → ℕ → ℕ → Bool
climbs up zero s = s == 0
climbs up (suc n) s = let above = some_is (up s) (climbs up n) in cond (s == 0) true above

-- slot s is the root, or a sound entry of a reached folder names it: every slot names one parent, so the way up is at most as long as there are slots
abbrev pub reached : Geometry → View → ℕ → Bool
reached g v s = climbs (parent_of g v) g.slots s

abbrev pub back_in : Content → Option Back
back_in (file_body b x) = Some b
back_in (folder_body b es) = Some b
back_in blank = None
back_in (cover g) = None
back_in (slotted r) = None
back_in ill_formed = None

-- block b is a good leaf of a reached slot: of the one that it names
abbrev pub held : Geometry → View → ℕ → Bool
held g v b = some_is (back_in (v b)) (λ c. some_is (slot_at g v c.owner.slot.0) (λ r.
    (r.identity == c.owner.identity.0) && (number r c.leaf.0 == b && (good v c.owner r c.leaf.0 && reached g v c.owner.slot.0))))

abbrev pub slots_of : Geometry → List ℕ
slots_of g = from 0 g.slots

abbrev pub bodies_of : Geometry → List ℕ
bodies_of g = from (suc g.slots) (g.blocks - suc g.slots)

-- how many slots are not reached
abbrev pub free_slots : Geometry → View → ℕ
free_slots g v = length (those (λ s. not (reached g v s)) (slots_of g))

-- how many bodies are not held
abbrev pub free_bodies : Geometry → View → ℕ
free_bodies g v = length (those (λ b. not (held g v b)) (bodies_of g))

-- a cursor of low up to high; one past the last is high
abbrev pub within : ℕ → ℕ → ℕ → ℕ
within low high at = max low (min at high)

-- the numbers from low up to high, from the cursor on and round
abbrev pub round : ℕ → ℕ → ℕ → List ℕ
round low high at = from (within low high at) (high - within low high at) ++ from low (within low high at - low)

-- the first free slot at or after the cursor, going round
abbrev pub free_slot : Geometry → View → ℕ → Option ℕ
free_slot g v at = first (λ s. not (reached g v s)) (round 0 g.slots at)

-- the first free body at or after the cursor, going round
abbrev pub free_body : Geometry → View → ℕ → Option ℕ
free_body g v at = first (λ b. not (held g v b)) (round (suc g.slots) g.blocks at)
