-- The sorts of blocks that a changing call puts, with what the rule says of each.
use Rattle.std.proofs.Common.{◌≡◌, ℕ, suc, ◌<◌, ◌≤◌, ◌⊎◌, List, [], length, get_or, set}
use Rattle.base.specs.declared.owner.Kind.TheVariants.{File, Folder}
use Rattle.base.specs.declared.owner.Handle.{Handle}
use Rattle.device.specs.Model.{Block}
use Rattle.layout.specs.Format.{Name, Cell, Geometry, back, Slot, Content, blank, slotted, file_body, folder_body, entry, no_entry, parse, entry_of}
use Rattle.layout.specs.Identities.{told}
use Rattle.rule.specs.Agree.{View, count, number}
use Rattle.rule.specs.Meaning.{Fits, Sound, FreeSlot, FreeBody}
use Rattle.rule.specs.Calls.{SoundAt}
use Rattle.history.specs.Events.{State}
use Rattle.history.specs.History.{Moment, Deed}
use Rattle.history.specs.Laws.{Touches}
use Rattle.history.proofs.Stands.{Logged}

-- c has no sound entry
abbrev pub Hollow : Geometry → View → Handle → Type 0
Hollow g v c = (k p : ℕ) → SoundAt g v c k p → ⊥

pub record FreshSlot (g : Geometry) (v : View) (high b : ℕ) (y : Content) : Type 0 where
  pub place : ℕ
  pub free : FreeSlot g v place
  pub block : b ≡ suc place
  pub slot : Slot
  pub content : y ≡ slotted slot
  pub own : slot.identity ≡ suc high

pub record SlotAgain (g : Geometry) (v : View) (d : Deed) (b : ℕ) (y : Content) : Type 0 where
  pub handle : Handle
  pub old : Slot
  pub fits : Fits g v handle old
  pub block : b ≡ suc handle.slot.0
  pub slot : Slot
  pub content : y ≡ slotted slot
  pub own : slot.identity ≡ old.identity
  pub parent : slot.parent ≡ old.parent
  pub sort : ((old.kind ≡ Folder) × (slot.kind ≡ Folder) × (count old ≤ count slot) × ((j : ℕ) → j < count old → number slot j ≡ number old j))
      ⊎ ((old.kind ≡ File) × Touches d handle)

pub record SlotBlanked (g : Geometry) (v : View) (d : Deed) (b : ℕ) (y : Content) : Type 0 where
  pub handle : Handle
  pub old : Slot
  pub fits : Fits g v handle old
  pub above : 0 < handle.slot.0
  pub block : b ≡ suc handle.slot.0
  pub content : y ≡ blank
  pub hollow : Hollow g v handle
  pub touched : Touches d handle

pub record FreshBody (g : Geometry) (v : View) (d : Deed) (b : ℕ) (y : Content) : Type 0 where
  pub free : FreeBody g v b
  pub sort : ((h : Handle) × (k : ℕ) × (x : List ℕ) × (y ≡ file_body (back h k) x) × Touches d h)
      ⊎ ((f : Handle) × (r : Slot) × (es : List Cell) × Fits g v f r × (y ≡ folder_body (back f (count r)) es))

pub record FileAgain (g : Geometry) (v : View) (d : Deed) (b : ℕ) (y : Content) : Type 0 where
  pub handle : Handle
  pub leaf : ℕ
  pub old : List ℕ
  pub above : g.slots < b
  pub stood : v b ≡ file_body (back handle leaf) old
  pub new : List ℕ
  pub content : y ≡ file_body (back handle leaf) new
  pub touched : Touches d handle

pub record FolderAgain (g : Geometry) (v : View) (d : Deed) (b : ℕ) (y : Content) : Type 0 where
  pub handle : Handle
  pub leaf : ℕ
  pub place : ℕ
  pub cells : List Cell
  pub above : g.slots < b
  pub stood : v b ≡ folder_body (back handle leaf) cells
  pub new : Cell
  pub content : y ≡ folder_body (back handle leaf) (set cells place new)
  pub sort : ((n : Name) × (c : Handle) × (entry_of g new ≡ entry n c) × ((j q : ℕ) (a : Handle) → Sound g v handle j q n a → ⊥) × (SoundAt g v handle leaf place → ⊥))
      ⊎ ((n : Name) × (c : Handle) × (entry_of g new ≡ no_entry) × (entry_of g (get_or cells place []) ≡ entry n c) × Hollow g v c × Touches d c)

pub data Allowed (g : Geometry) (v : View) (high : ℕ) (d : Deed) (b : ℕ) (y : Content) : Type 0 where
  fresh_slot : FreshSlot g v high b y → Allowed g v high d b y
  slot_again : SlotAgain g v d b y → Allowed g v high d b y
  slot_blanked : SlotBlanked g v d b y → Allowed g v high d b y
  fresh_body : FreshBody g v d b y → Allowed g v high d b y
  file_again : FileAgain g v d b y → Allowed g v high d b y
  folder_again : FolderAgain g v d b y → Allowed g v high d b y

-- what is put reads back as a content of one of these sorts, which tells identities up to `top` only and is logged
pub record Fair (g : Geometry) (v : View) (s : State) (ms : List Moment) (d : Deed) (high top b : ℕ) (z : Block) : Type 0 where
  pub content : Content
  pub parses : parse g b z ≡ content
  pub allowed : Allowed g v high d b content
  pub counted : told g content ≤ top
  pub logged : Logged g s ms content
  pub whole : length z ≡ 512
