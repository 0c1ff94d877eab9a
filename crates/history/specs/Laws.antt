-- The three laws of whole histories. They hold for every device that keeps the device's meaning, whatever each cut leaves.
use Rattle.std.specs.Prelude.{◌≡◌, ℕ, suc, ◌≤◌, ◌⊎◌, List, [], ◌∷◌, ◌++◌, length, Ok, Result, ◌≢◌}
use Rattle.base.specs.declared.owner.Kind.{Kind}
use Rattle.base.specs.declared.owner.Kind.TheVariants.{File}
use Rattle.base.specs.declared.owner.Handle.{Handle}
use Rattle.base.specs.declared.refusal.PathRefusal.{PathRefusal}
use Rattle.device.specs.Model.{Model, Block, Stands}
use Rattle.layout.specs.Format.{Name, Geometry, parse}
use Rattle.layout.specs.Identities.{told}
use Rattle.rule.specs.Agree.{View, seen, root}
use Rattle.rule.specs.Card.{Card, opening}
use Rattle.rule.specs.Reading.{Status, step, components}
use Rattle.rule.specs.Reading as rule_of_reading
use Rattle.rule.specs.Readings.{InRange}
use Rattle.history.specs.Events.{surveyed, State, Event, find, path, read, sync}
use Rattle.history.specs.History.{Moment, present, History, Deed, created, wrote, shortened, removed, nothing, deed, maker, Done}

abbrev pub after : Event → State → List Moment → List Moment
after e t ms = record { event = e; state = t } ∷ ms

-- ---- reads

-- an earlier write, accepted or broken off, gave x for leaf k of the file that h is now
pub record Written (s : State) (ms : List Moment) (h : Handle) (k : ℕ) (x : List ℕ) : Type 0 where
  pub older : List Moment
  pub written : Done s ms (wrote h k x) older
  pub same_file : maker s older h ≡ maker s ms h

-- each accepted read answers exactly the whole of what one earlier write gave for that leaf of that same file
abbrev pub ReadsWhatWasWritten : Type 0
ReadsWhatWasWritten = (g : Geometry) (s t : State) (ms : List Moment) (h : Handle) (k room : ℕ) (x : List ℕ) →
    History g s (after (read h k room (Ok x)) t ms) → Written s ms h k x

-- ---- finds

-- an earlier create, accepted or broken off, made what c is now, in the folder that f is now, under the name n
pub record Made (s : State) (ms : List Moment) (f : Handle) (n : Name) (c : Handle) : Type 0 where
  pub kind : Kind
  pub older : List Moment
  pub made : Done s ms (created kind f n c) older
  pub same_child : maker s ms c ≡ suc (length older)
  pub same_folder : maker s older f ≡ maker s ms f

-- on the way by these names from the folder a, a step by the name n leads from f to c
abbrev pub OnTheWay : Geometry → View → Handle → List Name → Handle → Name → Handle → Type 0
OnTheWay g v a [] f n c = ⊥
OnTheWay g v a (x ∷ xs) f n c = (b : Handle) × (step g v a x ≡ Ok b) × (((f ≡ a) × (n ≡ x) × (c ≡ b)) ⊎ OnTheWay g v b xs f n c)

-- each find leads only to a file or folder made in that same folder under that same name
abbrev pub FindsWhatWasMade : Type 0
FindsWhatWasMade = (g : Geometry) (s t : State) (ms : List Moment) (f : Handle) (n : Name) (c : Handle) →
    History g s (after (find f n (Ok c)) t ms) → Made s ms f n c

-- and so does each step of a path, also of one that is refused further on
abbrev pub PathsLeadToWhatWasMade : Type 0
PathsLeadToWhatWasMade = (g : Geometry) (s t : State) (ms : List Moment) (p : List ℕ) (r : Result Handle PathRefusal) (f : Handle) (n : Name) (c : Handle) →
    History g s (after (path p r) t ms) → OnTheWay g (seen g (present s ms).device.shown) root (components p) f n c → Made s ms f n c

-- ---- settled files

-- a write, shorten or remove of h, accepted or broken off
abbrev pub Touches : Deed → Handle → Type 0
Touches (created d f n c) h = ⊥
Touches (wrote f k x) h = f ≡ h
Touches (shortened f) h = f ≡ h
Touches (removed c) h = c ≡ h
Touches nothing h = ⊥

-- in `newer`, which follow `base`, nothing touches the file that h is after `base`
abbrev pub Untouched : State → List Moment → List Moment → Handle → Type 0
Untouched s base [] h = Unit {0}
Untouched s base (m ∷ newer) h = Untouched s base newer h
    × (Touches (deed (present s (newer ++ base)) m.event) h → maker s (newer ++ base) h ≢ maker s base h)

-- by the reading rule on the blocks shown, the path p leads to the file h
pub record FileAt (g : Geometry) (s : State) (p : List ℕ) (h : Handle) : Type 0 where
  pub path : rule_of_reading.path p (Ok g) s.device.shown ≡ Ok h
  pub status : Status
  pub told : rule_of_reading.status h (Ok g) s.device.shown ≡ Ok status
  pub kind : status.kind ≡ File

-- at t the file stands as it stood at s: its path leads to it, and each leaf number gives the same bytes or the same refusal
pub record SameFile (g : Geometry) (s t : State) (p : List ℕ) (h : Handle) : Type 0 where
  pub path : rule_of_reading.path p (Ok g) t.device.shown ≡ Ok h
  pub leaves : (k room : ℕ) → rule_of_reading.read h k room (Ok g) t.device.shown ≡ rule_of_reading.read h k room (Ok g) s.device.shown

-- a file on its path at a settled sync: until a write, shorten or remove of it is accepted or broken off,
-- that path leads to it at every later point, and each leaf number gives the same
abbrev pub SettledFilesStay : Type 0
SettledFilesStay = (g : Geometry) (s t : State) (older newer : List Moment) (p : List ℕ) (h : Handle) →
    History g s (newer ++ after (sync (Ok tt)) t older) → FileAt g t p h → Untouched s (after (sync (Ok tt)) t older) newer h →
    SameFile g t (present s (newer ++ after (sync (Ok tt)) t older)) p h
    × (maker s (newer ++ after (sync (Ok tt)) t older) h ≡ maker s (after (sync (Ok tt)) t older) h)

-- ---- the card itself

-- a card that was formatted can be opened at every point: no cut loses its cover or its root
abbrev pub FormattedCardsOpen : Type 0
FormattedCardsOpen = (g : Geometry) (s : State) (ms : List Moment) → History g s ms →
    opening (present s ms).device.count (present s ms).device.shown ≡ Ok g

-- what a surveyed card keeps is true of its device: no content that may stand tells a higher identity, and the cursors are in their regions
pub record KeepsTrue (g : Geometry) (m : Model) (c : Card) : Type 0 where
  pub highest : (b : ℕ) (z : Block) → Stands m b z → told g (parse g b z) ≤ c.highest
  pub cursors : InRange g c

abbrev pub SurveyedCardsKeepTrue : Type 0
SurveyedCardsKeepTrue = (g h : Geometry) (s : State) (ms : List Moment) (c : Card) → History g s ms →
    (present s ms).card ≡ surveyed c → c.ready ≡ Ok h → (h ≡ g) × KeepsTrue g (present s ms).device c
