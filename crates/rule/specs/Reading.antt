-- What each reading call answers, on the blocks shown.
use Rattle.std.specs.Prelude.{ℕ, suc, cond, not, List, [], ◌∷◌, ◌++◌, map, length, take, drop, replicate, Some, None, Ok, Err, Option, Result, ◌==◌, nat_le, nat_lt}
use Rattle.base.specs.declared.owner.Kind.{Kind}
use Rattle.base.specs.declared.owner.Kind.TheVariants.{File, Folder}
use Rattle.base.specs.declared.owner.Handle.{Handle}
use Rattle.base.specs.declared.refusal.Refusal.TheVariants.{NoSuchHandle, WrongKind, NoSuchLeaf, LeafNotGood, NoSuchName, BadName, BadLength}
use Rattle.base.specs.declared.refusal.PathRefusal.{PathRefusal}
use Rattle.base.specs.Refusals.{number_of}
use Rattle.layout.specs.Format.{Name, Geometry, handle, Slot, Content, blank, cover, slotted, file_body, folder_body, ill_formed, Entry, entry, no_entry, good_name, entry_of}
use Rattle.rule.specs.Agree.{Shown, View, seen, same_kind, slot_at, count, number, good, places, sound, found, those, from, root, reached, slots_of, free_slots, free_bodies}
use Rattle.rule.specs.Check.{Answer, ◌>>=◌, check, demand}
use Rattle.rule.specs.Card.{Ready, block}

-- ---- handles

-- the slot of h, if it is well formed with that identity
unfoldable pub fits : Geometry → View → Handle → Answer Slot
fits g v h = do
  r ← demand (slot_at g v h.slot.0) (NoSuchHandle h.slot)
  _ ← check (r.identity == h.identity.0) (NoSuchHandle h.slot)
  Ok r

unfoldable pub kind_is : Kind → Handle → Slot → Answer Slot
kind_is d h r = do
  _ ← check (same_kind r.kind d) (WrongKind h.slot)
  Ok r

-- the slot of h for a reading call that wants this kind
unfoldable pub reading : Geometry → View → Kind → Handle → Answer Slot
reading g v d h = do
  r ← fits g v h
  kind_is d h r

-- ---- find and path

abbrev pub child_of : Entry → Handle
child_of (entry n c) = c
child_of no_entry = root

unfoldable pub step : Geometry → View → Handle → Name → Answer Handle
step g v f n = do
  r ← reading g v Folder f
  q ← demand (found g v f r n) (NoSuchName f.slot)
  Ok (child_of (entry_of g q.cell))

unfoldable pub named : Name → Answer (Unit {0})
named n = check (good_name n) (BadName (length n))

unfoldable pub find : Handle → Name → Ready → Shown → Answer Handle
find f n ready shown = do
  _ ← named n
  g ← ready
  step g (seen g shown) f n

-- the names of a path, parted by '/'
abbrev pub longer : ℕ → List Name → List Name
longer x [] = (x ∷ []) ∷ []
longer x (n ∷ ns) = (x ∷ n) ∷ ns

abbrev pub parted : List ℕ → List Name
parted [] = [] ∷ []
parted (x ∷ xs) = let rest = parted xs in cond (x == 47) ([] ∷ rest) (longer x rest)

-- the empty path has none
abbrev pub components : List ℕ → List Name
components [] = []
components (x ∷ xs) = parted (x ∷ xs)

-- the refusal met at component i, kept whole
unfoldable pub at_component : {A : Type 0} → ℕ → Answer A → Result A PathRefusal
at_component i (Ok a) = Ok a
at_component i (Err r) = Err (record { lower = r; component = i })

unfoldable pub all_named : ℕ → List Name → Result (Unit {0}) PathRefusal
all_named i [] = Ok tt
all_named i (n ∷ ns) = at_component i (named n) >>= λ u. all_named (suc i) ns

-- component by component, from f down
unfoldable pub walk : Geometry → View → ℕ → Handle → List Name → Result Handle PathRefusal
walk g v i f [] = Ok f
walk g v i f (n ∷ ns) = at_component i (step g v f n) >>= λ c. walk g v (suc i) c ns

-- every component is checked to be a name before the first is looked for
unfoldable pub path : List ℕ → Ready → Shown → Result Handle PathRefusal
path p ready shown = do
  _ ← all_named 0 (components p)
  g ← at_component 0 ready
  walk g (seen g shown) 0 root (components p)

-- ---- list and damage

-- the caller's lines after a call: the first of what was found, as many as there is room for, and the lines beyond as they were.
-- Power gone leaves every line zero; another refusal leaves them as they were
abbrev pub filled : {L : Type 0} → L → List L → Answer (List L) → List L
filled zero-line lines (Ok items) = take (length lines) items ++ drop (length items) lines
filled zero-line lines (Err r) = cond (number_of r == 1) (replicate (length lines) zero-line) lines

pub record EntryLine : Type 0 where
  pub name : Name
  pub child : Handle

abbrev pub entry_line : Entry → EntryLine
entry_line (entry n c) = record { name = n; child = c }
entry_line no_entry = record { name = []; child = root }

-- the sound entries of a folder, by leaf, then place
unfoldable pub list : Handle → Ready → Shown → Answer (List EntryLine)
list f ready shown = do
  g ← ready
  r ← reading g (seen g shown) Folder f
  Ok (map (λ q. entry_line (entry_of g q.cell)) (those (sound g (seen g shown) f) (places (seen g shown) f r)))

pub record DamageLine : Type 0 where
  pub slot : ℕ
  pub leaf : ℕ

abbrev pub bad_leaves_of : View → ℕ → Option Slot → List DamageLine
bad_leaves_of v s None = []
bad_leaves_of v s (Some r) = map (λ k. record { slot = s; leaf = k }) (those (λ k. not (good v (handle s r.identity) r k)) (from 0 (count r)))

abbrev pub bad_leaves : Geometry → View → List ℕ → List DamageLine
bad_leaves g v [] = []
bad_leaves g v (s ∷ ss) = bad_leaves_of v s (slot_at g v s) ++ bad_leaves g v ss

-- the leaves of reached slots that are not good, by slot and leaf
unfoldable pub damage : Ready → Shown → Answer (List DamageLine)
damage ready shown = do
  g ← ready
  Ok (bad_leaves g (seen g shown) (those (reached g (seen g shown)) (slots_of g)))

-- ---- status, space, read

pub record Status : Type 0 where
  pub kind : Kind
  pub count : ℕ
  pub parent : Handle

unfoldable pub status : Handle → Ready → Shown → Answer Status
status h ready shown = do
  g ← ready
  r ← fits g (seen g shown) h
  Ok (record { kind = r.kind; count = count r; parent = r.parent })

pub record Space : Type 0 where
  pub bodies : ℕ
  pub slots : ℕ

-- how many bodies and how many slots are free
unfoldable pub space : Ready → Shown → Answer Space
space ready shown = do
  g ← ready
  Ok (record { bodies = free_bodies g (seen g shown); slots = free_slots g (seen g shown) })

abbrev pub bytes_in : Content → List ℕ
bytes_in (file_body b x) = x
bytes_in blank = []
bytes_in (cover g) = []
bytes_in (slotted r) = []
bytes_in (folder_body b es) = []
bytes_in ill_formed = []

-- leaf k of the file h, into a buffer of `room` bytes
unfoldable pub read : Handle → ℕ → ℕ → Ready → Shown → Answer (List ℕ)
read h k room ready shown = do
  _ ← check (nat_le 496 room) (BadLength room)
  g ← ready
  r ← reading g (seen g shown) File h
  _ ← check (nat_lt k (count r)) (NoSuchLeaf (record { 0 = k }))
  _ ← check (good (seen g shown) h r k) (LeafNotGood (block (number r k)))
  Ok (bytes_in (seen g shown (number r k)))

-- the caller's buffer after a read: only its front is written, and a refusal leaves it as it was
abbrev pub read_into : List ℕ → Answer (List ℕ) → List ℕ
read_into buffer (Ok x) = x ++ drop (length x) buffer
read_into buffer (Err r) = buffer
