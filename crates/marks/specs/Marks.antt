-- Marks that agree with the blocks shown.
use Rattle.std.specs.Prelude.{◌≡◌, ℕ, suc, Bool, cond, not, ◌&&◌, List, [], ◌∷◌, length, is_some, Some, None, Option, ◌==◌, slice_index_or, slice_set}
use Rattle.std.specs.Option.{option_map}
use Rattle.base.specs.declared.owner.Back.{Back}
use Rattle.base.specs.declared.owner.Handle.{Handle}
use Rattle.layout.specs.Format.{Geometry, Slot, back}
use Rattle.rule.specs.Agree.{View, same_handle, same_back, first, those, some_is, slot_at, number, reached, held, back_in, slots_of, bodies_of, round}
use Rattle.marks.specs.declared.mark.SlotMark.{SlotMark}
use Rattle.marks.specs.declared.mark.Marks.{Marks}

-- what is kept of a slot: its identity, and the folder that it is in
abbrev pub slot_line : Slot → SlotMark
slot_line r = record { identity = record { 0 = r.identity }; parent = r.parent }

-- of slot s, if it is reached
abbrev pub slot_mark : Geometry → View → ℕ → Option SlotMark
slot_mark g v s = cond (reached g v s) (option_map slot_line (slot_at g v s)) None

-- of block b, if it is held: whose leaf it is, and which
abbrev pub body_mark : Geometry → View → ℕ → Option Back
body_mark g v b = cond (held g v b) (back_in (v b)) None

-- the marks say of every slot and of every body what the blocks say
pub record Agree (g : Geometry) (v : View) (ms : Marks) : Type 0 where
  pub slots : (s : ℕ) → slice_index_or ms.slots s None ≡ slot_mark g v s
  pub bodies : (b : ℕ) → slice_index_or ms.bodies b None ≡ body_mark g v b

-- there is a place for every slot and every block that a card can have: so it is of all marks in memory
pub record Whole (ms : Marks) : Type 0 where
  pub slots : length ms.slots ≡ 256
  pub bodies : length ms.bodies ≡ 4096

-- the folder that a slot's mark names
abbrev pub parent_line : SlotMark → Handle
parent_line m = m.parent

-- slot s, body b is taken
abbrev pub slot_taken : Marks → ℕ → Bool
slot_taken ms s = is_some (slice_index_or ms.slots s None)

abbrev pub body_taken : Marks → ℕ → Bool
body_taken ms b = is_some (slice_index_or ms.bodies b None)

-- ---- marks that are set and taken back

abbrev pub with_slot : Marks → ℕ → Option SlotMark → Marks
with_slot ms s x = record { slots = slice_set ms.slots s x; bodies = ms.bodies }

abbrev pub with_body : Marks → ℕ → Option Back → Marks
with_body ms b x = record { slots = ms.slots; bodies = slice_set ms.bodies b x }

-- block b is marked as this leaf
abbrev pub is_leaf : Marks → ℕ → Back → Bool
is_leaf ms b c = some_is (slice_index_or ms.bodies b None) (same_back c)

-- an entry of the folder f that names c is sound, by the mark of c's slot
abbrev pub is_child : Marks → Handle → Handle → Bool
is_child ms f c = some_is (slice_index_or ms.slots c.slot.0 None) (λ m. (m.identity.0 == c.identity.0) && same_handle m.parent f)

-- block b is free again, if it was marked as this leaf
abbrev pub released : Marks → ℕ → Back → Marks
released ms b c = cond (is_leaf ms b c) (with_body ms b None) ms

-- the same for these leaves of h, whose slot is r
abbrev pub without : Marks → Handle → Slot → List ℕ → Marks
without ms h r [] = ms
without ms h r (k ∷ ks) = without (released ms (number r k) (back h k)) h r ks

-- a body that may have been gained is marked as this leaf
abbrev pub with_gained : Marks → Option ℕ → Back → Marks
with_gained ms None c = ms
with_gained ms (Some b) c = with_body ms b (Some c)

-- ---- what is free, by the marks

-- there is no mark
abbrev pub is_unmarked : {A : Type 0} → Option A → Bool
is_unmarked x = not (is_some x)

-- place i has no mark
abbrev pub unmarked : {A : Type 0} → List (Option A) → ℕ → Bool
unmarked xs i = not (is_some (slice_index_or xs i None))

-- the first free slot, the first free body at or after a cursor, going round
abbrev pub next_free_slot : Geometry → Marks → ℕ → Option ℕ
next_free_slot g ms at = first (λ s. not (slot_taken ms s)) (round 0 g.slots at)

abbrev pub next_free_body : Geometry → Marks → ℕ → Option ℕ
next_free_body g ms at = first (λ b. not (body_taken ms b)) (round (suc g.slots) g.blocks at)

-- how many there are
abbrev pub slots_left : Geometry → Marks → ℕ
slots_left g ms = length (those (λ s. not (slot_taken ms s)) (slots_of g))

abbrev pub bodies_left : Geometry → Marks → ℕ
bodies_left g ms = length (those (λ b. not (body_taken ms b)) (bodies_of g))
