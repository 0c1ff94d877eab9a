-- The reading rule as relations: what it is to fit, to be good, sound, reached, found and held.
use Rattle.std.specs.Prelude.{◌≡◌, ℕ, suc, ◌<◌, ◌≤◌, Bool, true, false, ◌⊎◌, ◌↔◌, List, [], Some, None, slice_index_or}
use Rattle.base.specs.declared.owner.Kind.{Kind}
use Rattle.base.specs.declared.owner.Kind.TheVariants.{File, Folder}
use Rattle.base.specs.declared.owner.Handle.{Handle}
use Rattle.base.specs.declared.owner.Back.{Back}
use Rattle.layout.specs.Format.{Name, Cell, Geometry, handle, back, Slot, Content, slotted, file_body, folder_body, entry, entry_of}
use Rattle.rule.specs.Agree.{View, count, number, good, Place, found, root, reached, held, free_slot, free_body}

-- h fits: its slot is well formed, holds r and has that identity
pub record Fits (g : Geometry) (v : View) (h : Handle) (r : Slot) : Type 0 where
  pub inside : h.slot.0 < g.slots
  pub holds : v (suc h.slot.0) ≡ slotted r
  pub same : r.identity ≡ h.identity.0

-- c is a body of kind d with the back line b
abbrev pub Body : Kind → Back → Content → Type 0
Body d b c = ((x : List ℕ) × (d ≡ File) × (c ≡ file_body b x)) ⊎ ((es : List Cell) × (d ≡ Folder) × (c ≡ folder_body b es))

-- leaf k of h is good: the body at its number is of the slot's kind and names slot, identity and leaf
pub record Good (g : Geometry) (v : View) (h : Handle) (k : ℕ) : Type 0 where
  pub slot : Slot
  pub fits : Fits g v h slot
  pub below : k < count slot
  pub body : Body slot.kind (back h k) (v (number slot k))

-- the entry at place p of leaf k of the folder f is sound, has the name n and leads to c:
-- its leaf is good, it is well formed, and the child's slot has its identity and names f as parent
pub record Sound (g : Geometry) (v : View) (f : Handle) (k p : ℕ) (n : Name) (c : Handle) : Type 0 where
  pub slot : Slot
  pub fits : Fits g v f slot
  pub kind : slot.kind ≡ Folder
  pub below : k < count slot
  pub cells : List Cell
  pub body : v (number slot k) ≡ folder_body (back f k) cells
  pub here : entry_of g (slice_index_or cells p []) ≡ entry n c
  pub child : Slot
  pub child_fits : Fits g v c child
  pub parent : child.parent ≡ f

-- the root is reached, and what a sound entry of a reached folder names; nothing else is
pub data Reached (g : Geometry) (v : View) : Handle → Type 0 where
  the_root : Reached g v root
  under : {f c : Handle} {k p : ℕ} {n : Name} → Reached g v f → Sound g v f k p n c → Reached g v c

-- place q of leaf j comes before place p of leaf k
abbrev pub Before : ℕ → ℕ → ℕ → ℕ → Type 0
Before j q k p = (j < k) ⊎ ((j ≡ k) × (q < p))

-- find takes the first sound entry with the name, by leaf, then place
pub record Finds (g : Geometry) (v : View) (f : Handle) (n : Name) (c : Handle) : Type 0 where
  pub leaf : ℕ
  pub place : ℕ
  pub sound : Sound g v f leaf place n c
  pub first : (j q : ℕ) (d : Handle) → Before j q leaf place → Sound g v f j q n d → ⊥

-- a body is held if it is a good leaf of a reached slot
pub record Held (g : Geometry) (v : View) (b : ℕ) : Type 0 where
  pub owner : Handle
  pub leaf : ℕ
  pub reached : Reached g v owner
  pub good : Good g v owner leaf
  pub here : number good.slot leaf ≡ b

-- a slot, a body that may be taken
pub record FreeSlot (g : Geometry) (v : View) (s : ℕ) : Type 0 where
  pub inside : s < g.slots
  pub unreached : (h : Handle) → h.slot.0 ≡ s → Reached g v h → ⊥

pub record FreeBody (g : Geometry) (v : View) (b : ℕ) : Type 0 where
  pub above : g.slots < b
  pub inside : b < g.blocks
  pub unheld : Held g v b → ⊥

-- the root's slot is well formed and of identity 1, as on every card that opens
abbrev pub Rooted : Geometry → View → Type 0
Rooted g v = (top : Slot) × Fits g v root top

-- ---- what computes is this

abbrev pub FoundIsFound : Type 0
FoundIsFound = (g : Geometry) (v : View) (f : Handle) (r : Slot) (n : Name) → Fits g v f r →
    ((q : Place) → found g v f r n ≡ Some q → (c : Handle) × (entry_of g q.cell ≡ entry n c) × (s : Finds g v f n c) × (q.leaf ≡ s.leaf) × (q.place ≡ s.place))
    × (found g v f r n ≡ None → (k p : ℕ) (c : Handle) → Sound g v f k p n c → ⊥)

abbrev pub GoodIsGood : Type 0
GoodIsGood = (g : Geometry) (v : View) (h : Handle) (r : Slot) (k : ℕ) → Fits g v h r → (good v h r k ≡ true) ↔ Good g v h k

abbrev pub ReachedIsReached : Type 0
ReachedIsReached = (g : Geometry) (v : View) → Rooted g v → (s : ℕ) → (reached g v s ≡ true) ↔ ((i : ℕ) × Reached g v (handle s i))

abbrev pub HeldIsHeld : Type 0
HeldIsHeld = (g : Geometry) (v : View) → Rooted g v → (b : ℕ) → (held g v b ≡ true) ↔ Held g v b

-- ---- free, from a cursor on and round

-- going from `at` on and round, x is passed before b
abbrev pub Passed : ℕ → ℕ → ℕ → Type 0
Passed at b x = ((at ≤ x) × (x < b)) ⊎ ((b < at) × ((at ≤ x) ⊎ (x < b)))

-- b is the first from low up to high that is not taken, from `at` on and round
pub record Next (low high at : ℕ) (taken : ℕ → Bool) (b : ℕ) : Type 0 where
  pub above : low ≤ b
  pub below : b < high
  pub free : taken b ≡ false
  pub first : (x : ℕ) → low ≤ x → x < high → Passed at b x → taken x ≡ true

-- a cursor may be one past the last
abbrev pub FreeSlotIsNext : Type 0
FreeSlotIsNext = (g : Geometry) (v : View) (at s : ℕ) → at ≤ g.slots → free_slot g v at ≡ Some s → Next 0 g.slots at (reached g v) s

abbrev pub FreeBodyIsNext : Type 0
FreeBodyIsNext = (g : Geometry) (v : View) (at b : ℕ) → g.slots < at → at ≤ g.blocks → free_body g v at ≡ Some b → Next (suc g.slots) g.blocks at (held g v) b

-- none is free exactly when all are taken
abbrev pub NoSlotFree : Type 0
NoSlotFree = (g : Geometry) (v : View) (at : ℕ) → (free_slot g v at ≡ None) ↔ ((s : ℕ) → s < g.slots → reached g v s ≡ true)

abbrev pub NoBodyFree : Type 0
NoBodyFree = (g : Geometry) (v : View) (at : ℕ) → (free_body g v at ≡ None) ↔ ((b : ℕ) → g.slots < b → b < g.blocks → held g v b ≡ true)
