-- What each changing call answers, the blocks that it writes and what the card keeps. No block is written twice.
use Rattle.std.specs.Prelude.{ℕ, suc, ◌-◌, Bool, true, false, cond, not, ◌&&◌, List, [], ◌∷◌, ◌++◌, length, take, replicate, Some, None, Ok, Err, Option, ◌==◌, nat_le, nat_lt, slice_set}
use Rattle.base.specs.declared.owner.Kind.{Kind}
use Rattle.base.specs.declared.owner.Kind.TheVariants.{File, Folder}
use Rattle.base.specs.declared.owner.Handle.{Handle}
use Rattle.base.specs.declared.refusal.Refusal.TheVariants.{SyncUnsure, SmallDevice, NoSuchHandle, NoSuchLeaf, LeafNotGood, NoSuchName, NameTaken, BadLength, NoFreeBody, NoFreeSlot, FolderFull, IdentitiesSpent, FolderNotEmpty, BadLimits}
use Rattle.device.specs.declared.fault.Synced.{Synced}
use Rattle.device.specs.declared.fault.Synced.TheVariants.{Settled, Unsure}
use Rattle.device.specs.declared.put.Put.{Put}
use Rattle.layout.specs.Format.{Name, Cell, Geometry, handle, back, Slot, Content, blank, cover, slotted, file_body, folder_body, leaf_limit, in_limits, entry_of, cell, blank_cell, encode}
use Rattle.rule.specs.Agree.{Shown, View, seen, slot_at, count, number, good, Place, cells_in, places, sound, found, first, from, some_is, root, reached, free_slot, free_body}
use Rattle.rule.specs.Check.{Answer, ◌>>=◌, check, demand}
use Rattle.rule.specs.Card.{Ready, Card, Plan, block}
use Rattle.rule.specs.Reading.{fits, kind_is, named, child_of}

-- block b is to hold c
abbrev pub store : ℕ → Content → Put
store b c = record { block = block b; bytes = encode c }

-- slot s is to hold r
abbrev pub store_slot : ℕ → Slot → Put
store_slot s r = store (suc s) (slotted r)

-- the slot of h for a changing call that wants this kind: it must also be reached
unfoldable pub changing : Geometry → View → Kind → Handle → Answer Slot
changing g v d h = do
  r ← fits g v h
  _ ← check (reached g v h.slot.0) (NoSuchHandle h.slot)
  kind_is d h r

abbrev pub with_numbers : Slot → List ℕ → Slot
with_numbers r ns = record { kind = r.kind; identity = r.identity; parent = r.parent; numbers = ns }

-- with one leaf more, in block b
abbrev pub grown : Slot → ℕ → Slot
grown r b = with_numbers r (r.numbers ++ (b ∷ []))

-- with the first n leaves
abbrev pub cut_to : Slot → ℕ → Slot
cut_to r n = with_numbers r (take n r.numbers)

-- a file or folder without leaves, in the folder f
abbrev pub new_slot : Kind → Handle → ℕ → Slot
new_slot d f i = record { kind = d; identity = i; parent = f; numbers = [] }

abbrev pub keeps : Card → ℕ → ℕ → ℕ → Card
keeps c i s b = record { ready = c.ready; highest = i; next_slot = s; next_body = b }

-- ---- create

-- the folder body that has the place q, with the cell e there; its other cells stay byte for byte
abbrev pub with_cell : View → Handle → Slot → Place → Cell → Put
with_cell v f r q e = store (number r q.leaf) (folder_body (back f q.leaf) (slice_set (cells_in (v (number r q.leaf))) q.place e))

-- the first place over the good leaves of f, whose slot is r, that is not sound
abbrev pub open_place : Geometry → View → Handle → Slot → Option Place
open_place g v f r = first (λ q. not (sound g v f q)) (places v f r)

-- the blocks for the new entry e of f, whose slot is r, and the body cursor after: at the open place, or on a new leaf
unfoldable pub placed : Geometry → View → Card → Handle → Slot → Cell → Option Place → Answer (List Put × ℕ)
placed g v c f r e (Some q) = Ok (with_cell v f r q e ∷ [], c.next_body)
placed g v c f r e None = do
  _ ← check (nat_lt (count r) leaf_limit) (FolderFull f.slot)
  b ← demand (free_body g v c.next_body) (NoFreeBody f.slot)
  Ok (store b (folder_body (back f (count r)) (e ∷ replicate 14 blank_cell)) ∷ store_slot f.slot.0 (grown r b) ∷ [], suc b)

-- refused if an entry with the name was found
unfoldable pub untaken : Geometry → Option Place → Answer (Unit {0})
untaken g None = Ok tt
untaken g (Some q) = Err (NameTaken (child_of (entry_of g q.cell)).slot)

-- the highest identity that there is
abbrev pub last_identity : ℕ
last_identity = 4294967295

-- makes an empty file or folder in f under the name n: the child's slot, then the folder's body, then the folder's slot if it gained a leaf
unfoldable pub create : Kind → Handle → Name → Card → Shown → Answer (Plan Handle)
create d f n c shown = do
  _ ← named n
  g ← c.ready
  let v = seen g shown
  r ← changing g v Folder f
  _ ← untaken g (found g v f r n)
  s ← demand (free_slot g v c.next_slot) (NoFreeSlot g.slots)
  _ ← check (nat_lt c.highest last_identity) IdentitiesSpent
  let i = suc c.highest
  w ← placed g v c f r (cell n (handle s i)) (open_place g v f r)
  Ok (record { answer = handle s i; puts = store_slot s (new_slot d f i) ∷ w.0; card = keeps c i (suc s) w.1 })

-- ---- write and shorten

-- a good leaf below the count gets another body in the same block
unfoldable pub replaces : View → Card → Handle → Slot → ℕ → List ℕ → Answer (Plan (Unit {0}))
replaces v c h r k x = do
  _ ← check (good v h r k) (LeafNotGood (block (number r k)))
  Ok (record { answer = tt; puts = store (number r k) (file_body (back h k) x) ∷ []; card = c })

-- at the count a leaf is added: a free body, then the slot
unfoldable pub appends : Geometry → View → Card → Handle → Slot → List ℕ → Answer (Plan (Unit {0}))
appends g v c h r x = do
  b ← demand (free_body g v c.next_body) (NoFreeBody h.slot)
  Ok (record { answer = tt; puts = store b (file_body (back h (count r)) x) ∷ store_slot h.slot.0 (grown r b) ∷ []; card = keeps c c.highest c.next_slot (suc b) })

abbrev pub below_count : Bool → Geometry → View → Card → Handle → Slot → ℕ → List ℕ → Answer (Plan (Unit {0}))
below_count true g v c h r k x = replaces v c h r k x
below_count false g v c h r k x = appends g v c h r x

-- leaf k of the file h gets the bytes x
unfoldable pub write : Handle → ℕ → List ℕ → Card → Shown → Answer (Plan (Unit {0}))
write h k x c shown = do
  _ ← check (nat_le (length x) 496) (BadLength (length x))
  g ← c.ready
  let v = seen g shown
  r ← changing g v File h
  _ ← check (nat_le k (count r) && nat_lt k leaf_limit) (NoSuchLeaf (record { 0 = k }))
  below_count (nat_lt k (count r)) g v c h r k x

-- the file h keeps its first n leaves: the slot is written, or nothing if n is the count
unfoldable pub shorten : Handle → ℕ → Card → Shown → Answer (Plan (Unit {0}))
shorten h n c shown = do
  g ← c.ready
  r ← changing g (seen g shown) File h
  _ ← check (nat_le n (count r)) (NoSuchLeaf (record { 0 = n }))
  Ok (record { answer = tt; puts = cond (n == count r) [] (store_slot h.slot.0 (cut_to r n) ∷ []); card = c })

-- ---- remove

-- what h holds has a sound entry
abbrev pub has_entries : Geometry → View → Handle → Bool
has_entries g v h = some_is (slot_at g v h.slot.0) (λ r. some_is (first (sound g v h) (places v h r)) (λ q. true))

-- blanks the entry that find takes, then the child's slot
unfoldable pub remove : Handle → Name → Card → Shown → Answer (Plan (Unit {0}))
remove f n c shown = do
  _ ← named n
  g ← c.ready
  let v = seen g shown
  r ← changing g v Folder f
  q ← demand (found g v f r n) (NoSuchName f.slot)
  let h = child_of (entry_of g q.cell)
  _ ← check (not (has_entries g v h)) (FolderNotEmpty h.slot)
  Ok (record { answer = tt; puts = with_cell v f r q blank_cell ∷ store (suc h.slot.0) blank ∷ []; card = c })

-- ---- format and sync

abbrev pub blanks : List ℕ → List Put
blanks [] = []
blanks (b ∷ bs) = store b blank ∷ blanks bs

-- a new card of N blocks and S slots on a device of n: the cover, an empty root, and zeros, by block number. A sync follows
unfoldable pub format : ℕ → ℕ → ℕ → Answer (List Put)
format n N S = do
  _ ← check (in_limits N S) (BadLimits N)
  _ ← check (nat_le N n) (SmallDevice N)
  Ok (store 0 (cover (record { blocks = N; slots = S })) ∷ store_slot 0 (new_slot Folder root 1) ∷ blanks (from 2 (N - 2)))

-- what the device answers to a sync
unfoldable pub synced : Synced → Answer (Unit {0})
synced Settled = Ok tt
synced Unsure = Err SyncUnsure

unfoldable pub sync : Synced → Ready → Answer (Unit {0})
sync a ready = do
  _ ← ready
  synced a
