-- What the plans in the code stand for, and what is known of the plan of an accepted call.
use Rattle.std.specs.Prelude.{◌≡◌, ℕ, suc, ◌≤◌, List, length, take, Some, None, Ok, Err, Option, Result, MatchResult, nat_lt}
use Rattle.std.specs.Option.{option_map}
use Rattle.base.specs.declared.owner.Handle.{Handle}
use Rattle.base.specs.declared.owner.Kind.TheVariants.{File, Folder}
use Rattle.base.specs.declared.owner.Kind.{Kind}
use Rattle.base.specs.declared.refusal.Refusal.{Refusal}
use Rattle.base.specs.declared.refusal.Refusal.TheVariants.{NoFreeSlot, IdentitiesSpent}
use Rattle.device.specs.Model.{Model}
use Rattle.device.specs.declared.put.Put.{Put}
use Rattle.layout.specs.Format.{Name, Cell, Slot, handle, cell, entry_of}
use Rattle.layout.specs.Sizes.{sizes}
use Rattle.layout.specs.declared.geometry.Geometry.{Geometry as CardGeometry}
use Rattle.marks.specs.Laws.{Tells}
use Rattle.marks.specs.Marks.{Agree, next_free_slot}
use Rattle.marks.specs.declared.mark.Marks.{Marks}
use Rattle.moves.specs.Moves.{body_added, body_taken}
use Rattle.rule.specs.Agree.{slot_at, count, Place, found}
use Rattle.rule.specs.Card.{Card, Plan}
use Rattle.rule.specs.Changing.{changing, open_place, last_identity, create, write, shorten, remove}
use Rattle.rule.specs.Check.{Answer, ◌>>=◌, check, demand}
use Rattle.rule.specs.Meaning.{Rooted}
use Rattle.rule.specs.Reading.{named, child_of}
use Rattle.walk.specs.Copies.{copied}
use Rattle.walk.specs.Still.{shows}
use Rattle.walk.specs.declared.slot.SlotCopy.{SlotCopy}
use Rattle.walk.specs.declared.node.Node.{Node}
use Rattle.change.specs.Scanning.{SpotAt}
use Rattle.change.specs.declared.scan.Spot.{Spot}
use Rattle.change.specs.declared.plan.Memory.{Memory}
use Rattle.change.specs.declared.plan.Plan.{Plan as CodePlan}
use Rattle.change.specs.declared.plan.Accepted.{Accepted}
use Rattle.change.specs.declared.plan.Gained.{Gained}
use Rattle.change.specs.declared.plan.Created.{Created}

-- a card of this geometry that is ready
abbrev pub card_view : CardGeometry → Memory → Card
card_view g mem = record { ready = Ok (sizes g); highest = mem.highest.0; next_slot = mem.next_slot; next_body = mem.next_body }

-- the blocks that are to be written
abbrev pub puts_in : CodePlan → List Put
puts_in p = take p.len p.puts

abbrev pub plan_view : {A : Type 0} → A → CardGeometry → CodePlan → Plan A
plan_view a g p = record { answer = a; puts = puts_in p; card = card_view g p.memory }

-- a plan of these blocks and this memory
pub record Planned (ws : List Put) (mem : Memory) (p : CodePlan) : Type 0 where
  pub puts : puts_in p ≡ ws
  pub memory : p.memory ≡ mem

-- the root is good, and the marks agree with the blocks
pub record Grounded (g : CardGeometry) (m : Model) (ms : Marks) : Type 0 where
  pub rooted : Rooted (sizes g) (shows g m)
  pub marked : Agree (sizes g) (shows g m) ms

-- P holds of the answer, or the call is refused as the rule's answer x is
abbrev pub Decides : {A B : Type 0} → Result A Refusal → Answer B → (A → Type 0) → Type 0
Decides r x P = MatchResult r P (λ e. x ≡ Err e)

-- the file h, whose slot is s, may be written, and the bytes x are not too many
pub record Writing (g : CardGeometry) (m : Model) (ms : Marks) (h : Handle) (s : SlotCopy) (x : List ℕ) : Type 0 where
  pub tells : Tells (sizes g) (shows g m) ms
  pub slot : changing (sizes g) (shows g m) File h ≡ Ok (copied s)
  pub short : length x ≤ 496

-- the name n was found in the folder f, whose slot is s, at the place of which x is the code's
pub record Removing (g : CardGeometry) (m : Model) (ms : Marks) (f : Handle) (s : SlotCopy) (n : Name) (x : Spot) : Type 0 where
  pub rooted : Rooted (sizes g) (shows g m)
  pub tells : Tells (sizes g) (shows g m) ms
  pub name : named n ≡ Ok tt
  pub slot : changing (sizes g) (shows g m) Folder f ≡ Ok (copied s)
  pub place : Place
  pub is : found (sizes g) (shows g m) f (copied s) n ≡ Some place
  pub spot : SpotAt (shows g m) (copied s) place x

-- the name n may be made in the folder f, whose slot is s
pub record Entering (g : CardGeometry) (m : Model) (ms : Marks) (f : Handle) (s : SlotCopy) (n : Name) : Type 0 where
  pub tells : Tells (sizes g) (shows g m) ms
  pub name : named n ≡ Ok tt
  pub slot : changing (sizes g) (shows g m) Folder f ≡ Ok (copied s)
  pub none : found (sizes g) (shows g m) f (copied s) n ≡ None

-- the handle that a new child gets, by the marks
abbrev pub fresh : CardGeometry → Marks → Memory → Answer Handle
fresh g ms mem = demand (next_free_slot (sizes g) ms mem.next_slot) (NoFreeSlot g.slots) >>= λ s.
    check (nat_lt mem.highest.0 last_identity) IdentitiesSpent >>= λ u. Ok (handle s (suc mem.highest.0))

-- the child h is to be made, with the entry e
pub record Creating (g : CardGeometry) (m : Model) (ms : Marks) (mem : Memory) (f : Handle) (s : SlotCopy) (n : Name) (h : Handle) (e : Cell) : Type 0 where
  pub entering : Entering g m ms f s n
  pub child : fresh g ms mem ≡ Ok h
  pub cell : e ≡ cell n h

-- the block of a new leaf
abbrev pub gained_block : Gained → ℕ
gained_block y = y.block.0

-- ---- accepted: the rule's plan, and what else the card needs to know to mark it

pub record WritePlanned (g : CardGeometry) (m : Model) (mem : Memory) (h : Handle) (k : ℕ) (x : List ℕ) (w : Accepted (Option Gained)) : Type 0 where
  pub rule : write h k x (card_view g mem) m.shown ≡ Ok (plan_view tt g w.plan)
  pub slot : Slot
  pub at : slot_at (sizes g) (shows g m) h.slot.0 ≡ Some slot
  pub body : option_map gained_block w.change ≡ body_added (sizes g) (shows g m) (card_view g mem) k (count slot)
  pub leaf : (y : Gained) → w.change ≡ Some y → y.leaf.0 ≡ k

pub record ShortenPlanned (g : CardGeometry) (m : Model) (mem : Memory) (h : Handle) (n : ℕ) (w : Accepted Node) : Type 0 where
  pub rule : shorten h n (card_view g mem) m.shown ≡ Ok (plan_view tt g w.plan)
  pub file : w.change.handle ≡ h
  pub at : slot_at (sizes g) (shows g m) h.slot.0 ≡ Some (copied w.change.slot)

pub record RemovePlanned (g : CardGeometry) (m : Model) (mem : Memory) (f : Handle) (n : Name) (w : Accepted Node) : Type 0 where
  pub rule : remove f n (card_view g mem) m.shown ≡ Ok (plan_view tt g w.plan)
  pub folder : Slot
  pub at : slot_at (sizes g) (shows g m) f.slot.0 ≡ Some folder
  pub place : Place
  pub is : found (sizes g) (shows g m) f folder n ≡ Some place
  pub child : child_of (entry_of (sizes g) place.cell) ≡ w.change.handle
  pub slot : slot_at (sizes g) (shows g m) w.change.handle.slot.0 ≡ Some (copied w.change.slot)

pub record CreatePlanned (g : CardGeometry) (m : Model) (mem : Memory) (d : Kind) (f : Handle) (n : Name) (w : Accepted Created) : Type 0 where
  pub rule : create d f n (card_view g mem) m.shown ≡ Ok (plan_view w.change.child g w.plan)
  pub folder : Slot
  pub at : slot_at (sizes g) (shows g m) f.slot.0 ≡ Some folder
  pub body : option_map gained_block w.change.gained ≡ body_taken (sizes g) (shows g m) (card_view g mem) (open_place (sizes g) (shows g m) f folder)
  pub leaf : (y : Gained) → w.change.gained ≡ Some y → y.leaf.0 ≡ count folder
