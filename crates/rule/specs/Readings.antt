-- What opening, surveying and the reading calls say, as relations on the blocks shown.
use Rattle.std.specs.Prelude.{◌≡◌, ℕ, ◌<◌, ◌≤◌, true, ◌↔◌, List, [], ◌∷◌, Ok}
use Rattle.base.specs.declared.owner.Kind.{Kind}
use Rattle.base.specs.declared.owner.Kind.TheVariants.{File, Folder}
use Rattle.base.specs.declared.owner.Handle.{Handle}
use Rattle.device.specs.Model.{In}
use Rattle.layout.specs.Format.{Name, Geometry, back, Slot, cover, file_body, good_name, cover_of}
use Rattle.layout.specs.Identities.{told}
use Rattle.rule.specs.Agree.{Shown, View, seen, count, number, root}
use Rattle.rule.specs.Card.{Card, Plan, opening, Opened, opened, Surveying, survey_step, surveyed}
use Rattle.rule.specs.Reading.{find, components, path, EntryLine, list, DamageLine, damage, Status, status, read}
use Rattle.rule.specs.Meaning.{Fits, Good, Sound, Reached, Finds, Rooted}
use Rattle.rule.specs.Calls.{Creates, Writes}

-- ---- opening

-- a device of n blocks holds a card of geometry g: the cover says so, the device is large enough,
-- and the root is a folder of identity 1 whose parent is itself
pub record Opens (n : ℕ) (shown : Shown) (g : Geometry) : Type 0 where
  pub some : 0 < n
  pub cover : cover_of (shown 0) ≡ cover g
  pub room : g.blocks ≤ n
  pub top : Slot
  pub fits : Fits g (seen g shown) root top
  pub kind : top.kind ≡ Folder
  pub parent : top.parent ≡ root

abbrev pub OpeningMeans : Type 0
OpeningMeans = (n : ℕ) (shown : Shown) (g : Geometry) → (opening n shown ≡ Ok g) ↔ Opens n shown g

-- ---- surveying

-- a step changes nothing of what the end of the survey gives, on the same blocks
abbrev pub StepsAgree : Type 0
StepsAgree = (o : Opened) (shown : Shown) (t : Surveying) → survey_step o shown ≡ Ok t → surveyed t.card shown ≡ surveyed o shown

-- the highest identity after the survey is the least that is above all that the blocks from 1 on tell
pub record Covers (g : Geometry) (v : View) (high : ℕ) : Type 0 where
  pub above : (b : ℕ) → 0 < b → b < g.blocks → told g (v b) ≤ high
  pub least : (h : ℕ) → ((b : ℕ) → 0 < b → b < g.blocks → told g (v b) ≤ h) → high ≤ h

abbrev pub SurveyCovers : Type 0
SurveyCovers = (n : ℕ) (shown : Shown) (g : Geometry) → opening n shown ≡ Ok g → Covers g (seen g shown) (surveyed (opened n shown) shown).highest

-- each cursor is in its region, or one past it
pub record InRange (g : Geometry) (c : Card) : Type 0 where
  pub slot : c.next_slot ≤ g.slots
  pub body : (g.slots < c.next_body) × (c.next_body ≤ g.blocks)

-- so it starts, and create and write keep it so; the other calls move no cursor
abbrev pub CursorsStart : Type 0
CursorsStart = (n : ℕ) (shown : Shown) (g : Geometry) → opening n shown ≡ Ok g → InRange g (surveyed (opened n shown) shown)

abbrev pub CreateKeepsRange : Type 0
CreateKeepsRange = (g : Geometry) (v : View) (c : Card) (d : Kind) (f : Handle) (n : Name) (p : Plan Handle) → Creates g v c d f n p → InRange g c → InRange g p.card

abbrev pub WriteKeepsRange : Type 0
WriteKeepsRange = (g : Geometry) (v : View) (c : Card) (h : Handle) (k : ℕ) (x : List ℕ) (p : Plan (Unit {0})) → Writes g v c h k x p → InRange g c → InRange g p.card

-- ---- find, path, status and read

abbrev pub FindMeans : Type 0
FindMeans = (f : Handle) (n : Name) (g : Geometry) (shown : Shown) (c : Handle) →
    (find f n (Ok g) shown ≡ Ok c) ↔ ((good_name n ≡ true) × Finds g (seen g shown) f n c)

-- a chain of finds
abbrev pub Leads : Geometry → View → Handle → List Name → Handle → Type 0
Leads g v f [] h = f ≡ h
Leads g v f (n ∷ ns) h = (c : Handle) × Finds g v f n c × Leads g v c ns h

abbrev pub AllNames : List Name → Type 0
AllNames [] = Unit {0}
AllNames (n ∷ ns) = (good_name n ≡ true) × AllNames ns

abbrev pub PathMeans : Type 0
PathMeans = (p : List ℕ) (g : Geometry) (shown : Shown) (h : Handle) →
    (path p (Ok g) shown ≡ Ok h) ↔ (AllNames (components p) × Leads g (seen g shown) root (components p) h)

-- leaf k of the file h is good and holds x
pub record Reads (g : Geometry) (v : View) (h : Handle) (k : ℕ) (x : List ℕ) : Type 0 where
  pub slot : Slot
  pub fits : Fits g v h slot
  pub kind : slot.kind ≡ File
  pub below : k < count slot
  pub body : v (number slot k) ≡ file_body (back h k) x

abbrev pub ReadMeans : Type 0
ReadMeans = (h : Handle) (k room : ℕ) (g : Geometry) (shown : Shown) (x : List ℕ) →
    (read h k room (Ok g) shown ≡ Ok x) ↔ ((496 ≤ room) × Reads g (seen g shown) h k x)

abbrev pub StatusMeans : Type 0
StatusMeans = (h : Handle) (g : Geometry) (shown : Shown) (t : Status) →
    (status h (Ok g) shown ≡ Ok t) ↔ ((r : Slot) × Fits g (seen g shown) h r × (t ≡ record { kind = r.kind; count = count r; parent = r.parent }))

-- ---- list and damage

-- the lines of a list are those of the sound entries
abbrev pub ListMeans : Type 0
ListMeans = (f : Handle) (g : Geometry) (shown : Shown) (ls : List EntryLine) → list f (Ok g) shown ≡ Ok ls →
    (n : Name) (c : Handle) → In (record { name = n; child = c }) ls ↔ ((k : ℕ) × (p : ℕ) × Sound g (seen g shown) f k p n c)

-- a leaf of a reached slot that is not good
pub record Damaged (g : Geometry) (v : View) (s k : ℕ) : Type 0 where
  pub owner : Handle
  pub here : owner.slot.0 ≡ s
  pub reached : Reached g v owner
  pub slot : Slot
  pub fits : Fits g v owner slot
  pub below : k < count slot
  pub bad : Good g v owner k → ⊥

-- the lines of the damage are those of the damaged leaves
abbrev pub DamageMeans : Type 0
DamageMeans = (g : Geometry) (shown : Shown) (ls : List DamageLine) → Rooted g (seen g shown) → damage (Ok g) shown ≡ Ok ls →
    (s k : ℕ) → In (record { slot = s; leaf = k }) ls ↔ Damaged g (seen g shown) s k
