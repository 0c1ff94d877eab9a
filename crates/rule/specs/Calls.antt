-- What an accepted call says, as relations on the blocks shown before it.
use Rattle.std.specs.Prelude.{◌≡◌, ℕ, suc, ◌+◌, ◌<◌, ◌≤◌, true, ◌⊎◌, List, [], ◌∷◌, length, replicate, Some, Ok, Err, ◌≢◌, slice_set}
use Rattle.base.specs.declared.number.SlotNo.{SlotNo}
use Rattle.base.specs.declared.owner.Kind.{Kind}
use Rattle.base.specs.declared.owner.Kind.TheVariants.{File, Folder}
use Rattle.base.specs.declared.owner.Handle.{Handle}
use Rattle.base.specs.declared.refusal.Refusal.TheVariants.{NoFreeBody, NoFreeSlot}
use Rattle.device.specs.declared.put.Put.{Put}
use Rattle.device.specs.Model.{Block}
use Rattle.device.specs.Effect.{puts, PutAt}
use Rattle.layout.specs.Format.{Name, Cell, Geometry, back, Slot, blank, cover, slotted, file_body, folder_body, leaf_limit, good_name, cell, blank_cell, encode}
use Rattle.rule.specs.Agree.{Shown, View, seen, count, number, root, reached, held, free_slot, free_body}
use Rattle.rule.specs.Card.{Card, Plan}
use Rattle.rule.specs.Changing.{store, store_slot, grown, cut_to, new_slot, keeps, last_identity, create, write, shorten, remove, format}
use Rattle.rule.specs.Meaning.{Fits, Sound, Reached, Before, Finds, FreeSlot, FreeBody, Rooted}

-- h fits, is reached and of kind d; its slot holds r
pub record Standing (g : Geometry) (v : View) (d : Kind) (h : Handle) (r : Slot) : Type 0 where
  pub fits : Fits g v h r
  pub reached : Reached g v h
  pub kind : r.kind ≡ d

-- ---- write

-- below the count: the leaf is good and its body is written anew
pub record Replaces (v : View) (c : Card) (h : Handle) (r : Slot) (k : ℕ) (x : List ℕ) (p : Plan (Unit {0})) : Type 0 where
  pub below : k < count r
  pub old : List ℕ
  pub body : v (number r k) ≡ file_body (back h k) old
  pub blocks : p.puts ≡ store (number r k) (file_body (back h k) x) ∷ []
  pub after : p.card ≡ c

-- at the count: a free body, the next from the cursor, and the slot
pub record Appends (g : Geometry) (v : View) (c : Card) (h : Handle) (r : Slot) (k : ℕ) (x : List ℕ) (p : Plan (Unit {0})) : Type 0 where
  pub last : k ≡ count r
  pub block : ℕ
  pub free : FreeBody g v block
  pub next : free_body g v c.next_body ≡ Some block
  pub blocks : p.puts ≡ store block (file_body (back h k) x) ∷ store_slot h.slot.0 (grown r block) ∷ []
  pub after : p.card ≡ keeps c c.highest c.next_slot (suc block)

pub record Writes (g : Geometry) (v : View) (c : Card) (h : Handle) (k : ℕ) (x : List ℕ) (p : Plan (Unit {0})) : Type 0 where
  pub size : length x ≤ 496
  pub leaf : k < leaf_limit
  pub slot : Slot
  pub standing : Standing g v File h slot
  pub blocks : Replaces v c h slot k x p ⊎ Appends g v c h slot k x p

abbrev pub WriteMeans : Type 0
WriteMeans = (h : Handle) (k : ℕ) (x : List ℕ) (c : Card) (shown : Shown) (p : Plan (Unit {0})) → write h k x c shown ≡ Ok p →
    (g : Geometry) × (c.ready ≡ Ok g) × (Rooted g (seen g shown) → Writes g (seen g shown) c h k x p)

-- ---- shorten

pub record Shortens (g : Geometry) (v : View) (c : Card) (h : Handle) (n : ℕ) (p : Plan (Unit {0})) : Type 0 where
  pub slot : Slot
  pub standing : Standing g v File h slot
  pub fewer : n ≤ count slot
  pub blocks : ((n ≡ count slot) × (p.puts ≡ [])) ⊎ ((n < count slot) × (p.puts ≡ store_slot h.slot.0 (cut_to slot n) ∷ []))
  pub after : p.card ≡ c

abbrev pub ShortenMeans : Type 0
ShortenMeans = (h : Handle) (n : ℕ) (c : Card) (shown : Shown) (p : Plan (Unit {0})) → shorten h n c shown ≡ Ok p →
    (g : Geometry) × (c.ready ≡ Ok g) × (Rooted g (seen g shown) → Shortens g (seen g shown) c h n p)

-- ---- create

-- place p of leaf k of f, whose slot is r, lies over a good leaf
pub record OverGood (v : View) (f : Handle) (r : Slot) (k p : ℕ) : Type 0 where
  pub below : k < count r
  pub cells : List Cell
  pub body : v (number r k) ≡ folder_body (back f k) cells
  pub inside : p < length cells

-- the entry there is sound
abbrev pub SoundAt : Geometry → View → Handle → ℕ → ℕ → Type 0
SoundAt g v f k p = (n : Name) × (c : Handle) × Sound g v f k p n c

-- the new entry e stands in the first place over good leaves that is not sound; the other cells of its body stay
pub record InPlace (g : Geometry) (v : View) (c : Card) (f : Handle) (r : Slot) (e : Cell) (ws : List Put) (next : ℕ) : Type 0 where
  pub leaf : ℕ
  pub place : ℕ
  pub here : OverGood v f r leaf place
  pub unsound : SoundAt g v f leaf place → ⊥
  pub earlier : (j q : ℕ) → Before j q leaf place → OverGood v f r j q → SoundAt g v f j q
  pub blocks : ws ≡ store (number r leaf) (folder_body (back f leaf) (slice_set here.cells place e)) ∷ []
  pub cursor : next ≡ c.next_body

-- every place over good leaves is sound: the folder gains a leaf, with the entry at place 0
pub record OnNewLeaf (g : Geometry) (v : View) (c : Card) (f : Handle) (r : Slot) (e : Cell) (ws : List Put) (next : ℕ) : Type 0 where
  pub full : (j q : ℕ) → OverGood v f r j q → SoundAt g v f j q
  pub room : count r < leaf_limit
  pub block : ℕ
  pub free : FreeBody g v block
  pub first : free_body g v c.next_body ≡ Some block
  pub blocks : ws ≡ store block (folder_body (back f (count r)) (e ∷ replicate 14 blank_cell)) ∷ store_slot f.slot.0 (grown r block) ∷ []
  pub cursor : next ≡ suc block

-- a free slot, the next from the cursor, and an identity above the highest; slot 0 is never free
pub record Creates (g : Geometry) (v : View) (c : Card) (d : Kind) (f : Handle) (n : Name) (p : Plan Handle) : Type 0 where
  pub name : good_name n ≡ true
  pub slot : Slot
  pub standing : Standing g v Folder f slot
  pub untaken : (j q : ℕ) (a : Handle) → Sound g v f j q n a → ⊥
  pub fresh : p.answer.identity.0 ≡ suc c.highest
  pub narrow : c.highest < last_identity
  pub child : 0 < p.answer.slot.0
  pub free : FreeSlot g v p.answer.slot.0
  pub first : free_slot g v c.next_slot ≡ Some p.answer.slot.0
  pub rest : List Put
  pub blocks : p.puts ≡ store_slot p.answer.slot.0 (new_slot d f p.answer.identity.0) ∷ rest
  pub next : ℕ
  pub placed : InPlace g v c f slot (cell n p.answer) rest next ⊎ OnNewLeaf g v c f slot (cell n p.answer) rest next
  pub after : p.card ≡ keeps c p.answer.identity.0 (suc p.answer.slot.0) next

abbrev pub CreateMeans : Type 0
CreateMeans = (d : Kind) (f : Handle) (n : Name) (c : Card) (shown : Shown) (p : Plan Handle) → create d f n c shown ≡ Ok p →
    (g : Geometry) × (c.ready ≡ Ok g) × (Rooted g (seen g shown) → Creates g (seen g shown) c d f n p)

-- ---- remove

-- the entry that find takes is blanked, the other cells of its body stay; the child has no sound entry, and its slot is blanked
pub record Removes (g : Geometry) (v : View) (c : Card) (f : Handle) (n : Name) (child : Handle) (p : Plan (Unit {0})) : Type 0 where
  pub name : good_name n ≡ true
  pub slot : Slot
  pub standing : Standing g v Folder f slot
  pub found : Finds g v f n child
  pub hollow : (k q : ℕ) → SoundAt g v child k q → ⊥
  pub blocks : p.puts ≡ store (number found.sound.slot found.leaf) (folder_body (back f found.leaf) (slice_set found.sound.cells found.place blank_cell)) ∷ store (suc child.slot.0) blank ∷ []
  pub after : p.card ≡ c

abbrev pub RemoveMeans : Type 0
RemoveMeans = (f : Handle) (n : Name) (c : Card) (shown : Shown) (p : Plan (Unit {0})) → remove f n c shown ≡ Ok p →
    (g : Geometry) × (c.ready ≡ Ok g) × (Rooted g (seen g shown) → (child : Handle) × Removes g (seen g shown) c f n child p)

-- ---- format

-- on a device of n blocks: the cover, an empty root, zeros up to N, and the blocks from N on as they were
pub record Formats (n N S : ℕ) (ws : List Put) : Type 0 where
  pub slots : (2 ≤ S) × (S ≤ 256)
  pub blocks : (S + 2 ≤ N) × (N ≤ 4096)
  pub room : N ≤ n
  pub cover : (f : Shown) → puts f ws 0 ≡ encode (cover (record { blocks = N; slots = S }))
  pub root : (f : Shown) → puts f ws 1 ≡ encode (slotted (new_slot Folder root 1))
  pub zeros : (f : Shown) (b : ℕ) → 1 < b → b < N → puts f ws b ≡ replicate 512 0
  pub beyond : (f : Shown) (b : ℕ) → N ≤ b → puts f ws b ≡ f b

abbrev pub FormatMeans : Type 0
FormatMeans = (n N S : ℕ) (ws : List Put) → format n N S ≡ Ok ws → Formats n N S ws

-- ---- a call of which the relation holds is accepted, with that plan

abbrev pub WriteAccepted : Type 0
WriteAccepted = (h : Handle) (k : ℕ) (x : List ℕ) (c : Card) (shown : Shown) (g : Geometry) (p : Plan (Unit {0})) → c.ready ≡ Ok g → Writes g (seen g shown) c h k x p → write h k x c shown ≡ Ok p

abbrev pub ShortenAccepted : Type 0
ShortenAccepted = (h : Handle) (n : ℕ) (c : Card) (shown : Shown) (g : Geometry) (p : Plan (Unit {0})) → c.ready ≡ Ok g → Shortens g (seen g shown) c h n p → shorten h n c shown ≡ Ok p

abbrev pub CreateAccepted : Type 0
CreateAccepted = (d : Kind) (f : Handle) (n : Name) (c : Card) (shown : Shown) (g : Geometry) (p : Plan Handle) → c.ready ≡ Ok g → Creates g (seen g shown) c d f n p → create d f n c shown ≡ Ok p

abbrev pub RemoveAccepted : Type 0
RemoveAccepted = (f : Handle) (n : Name) (c : Card) (shown : Shown) (g : Geometry) (child : Handle) (p : Plan (Unit {0})) → c.ready ≡ Ok g → Removes g (seen g shown) c f n child p → remove f n c shown ≡ Ok p

-- ---- full means full

abbrev pub AllHeld : Geometry → View → Type 0
AllHeld g v = (b : ℕ) → g.slots < b → b < g.blocks → held g v b ≡ true

abbrev pub AllReached : Geometry → View → Type 0
AllReached g v = (s : ℕ) → s < g.slots → reached g v s ≡ true

abbrev pub WriteFull : Type 0
WriteFull = (h : Handle) (k : ℕ) (x : List ℕ) (c : Card) (shown : Shown) (g : Geometry) (s : SlotNo) → c.ready ≡ Ok g → write h k x c shown ≡ Err (NoFreeBody s) → AllHeld g (seen g shown)

abbrev pub CreateNoBody : Type 0
CreateNoBody = (d : Kind) (f : Handle) (n : Name) (c : Card) (shown : Shown) (g : Geometry) (s : SlotNo) → c.ready ≡ Ok g → create d f n c shown ≡ Err (NoFreeBody s) → AllHeld g (seen g shown)

abbrev pub CreateNoSlot : Type 0
CreateNoSlot = (d : Kind) (f : Handle) (n : Name) (c : Card) (shown : Shown) (g : Geometry) (s : ℕ) → c.ready ≡ Ok g → create d f n c shown ≡ Err (NoFreeSlot s) → AllReached g (seen g shown)

-- ---- each block goes at most once

abbrev pub Apart : ℕ → List Put → Type 0
Apart b [] = Unit {0}
Apart b (w ∷ ws) = (b ≢ w.block.0) × Apart b ws

abbrev pub Once : List Put → Type 0
Once [] = Unit {0}
Once (w ∷ ws) = Apart w.block.0 ws × Once ws

abbrev pub CreateOnce : Type 0
CreateOnce = (g : Geometry) (shown : Shown) (c : Card) (d : Kind) (f : Handle) (n : Name) (p : Plan Handle) → Creates g (seen g shown) c d f n p → Once p.puts

abbrev pub WriteOnce : Type 0
WriteOnce = (g : Geometry) (shown : Shown) (c : Card) (h : Handle) (k : ℕ) (x : List ℕ) (p : Plan (Unit {0})) → Writes g (seen g shown) c h k x p → Once p.puts

abbrev pub ShortenOnce : Type 0
ShortenOnce = (g : Geometry) (shown : Shown) (c : Card) (h : Handle) (n : ℕ) (p : Plan (Unit {0})) → Shortens g (seen g shown) c h n p → Once p.puts

abbrev pub RemoveOnce : Type 0
RemoveOnce = (g : Geometry) (shown : Shown) (c : Card) (f : Handle) (n : Name) (child : Handle) (p : Plan (Unit {0})) → Removes g (seen g shown) c f n child p → Once p.puts

abbrev pub FormatOnce : Type 0
FormatOnce = (n N S : ℕ) (ws : List Put) → format n N S ≡ Ok ws → Once ws

-- so every block that goes shows what went, and the others what they did
abbrev pub PutsShow : Type 0
PutsShow = (f : Shown) (ws : List Put) → Once ws → ((b : ℕ) (z : Block) → PutAt b z ws → puts f ws b ≡ z) × ((b : ℕ) → Apart b ws → puts f ws b ≡ f b)
