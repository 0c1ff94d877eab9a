-- What a card keeps between calls, and how it is opened and surveyed.
use Rattle.std.specs.Prelude.{ℕ, suc, ◌-◌, max, Bool, cond, ◌&&◌, List, [], ◌∷◌, Some, None, Ok, Err, Option, ◌==◌, nat_le, nat_lt}
use Rattle.base.specs.declared.number.BlockNo.{BlockNo}
use Rattle.base.specs.declared.owner.Kind.TheVariants.{Folder}
use Rattle.base.specs.declared.refusal.Refusal.TheVariants.{PowerGone, BadCard, SmallDevice}
use Rattle.device.specs.declared.put.Put.{Put}
use Rattle.layout.specs.Format.{Geometry, Content, blank, cover, slotted, file_body, folder_body, ill_formed, cover_of}
use Rattle.layout.specs.Identities.{told}
use Rattle.rule.specs.Agree.{Shown, View, seen, same_kind, same_handle, slot_in, from, some_is, root}
use Rattle.rule.specs.Check.{Answer, ◌>>=◌, check, demand}

-- the card's geometry, or the refusal that answers each call: the card is bad, or has met power gone
abbrev pub Ready : Type 0
Ready = Answer Geometry

-- a surveyed card: the highest identity, and the two cursors
pub record Card : Type 0 where
  pub ready : Ready
  pub highest : ℕ
  pub next_slot : ℕ
  pub next_body : ℕ

-- an accepted call: its answer, the blocks that it writes in this order, and the card after
pub record Plan (A : Type 0) : Type 0 where
  pub answer : A
  pub puts : List Put
  pub card : Card

-- what the call answers, the blocks that it writes and the card after it; a refused call writes nothing and changes nothing
abbrev pub answer_of : {A : Type 0} → Answer (Plan A) → Answer A
answer_of (Ok p) = Ok p.answer
answer_of (Err r) = Err r

abbrev pub puts_of : {A : Type 0} → Answer (Plan A) → List Put
puts_of (Ok p) = p.puts
puts_of (Err r) = []

abbrev pub card_after : {A : Type 0} → Answer (Plan A) → Card → Card
card_after (Ok p) c = p.card
card_after (Err r) c = c

abbrev pub block : ℕ → BlockNo
block b = record { 0 = b }

-- a card that has met power gone at block b keeps that refusal
abbrev pub lost : BlockNo → Card → Card
lost b c = record { ready = Err (PowerGone b); highest = c.highest; next_slot = c.next_slot; next_body = c.next_body }

-- ---- opening

-- a folder of identity 1 whose parent is itself
abbrev pub is_root : Content → Bool
is_root c = some_is (slot_in c) (λ r. same_kind r.kind Folder && (r.identity == 1 && same_handle r.parent root))

abbrev pub geometry_in : Content → Option Geometry
geometry_in (cover g) = Some g
geometry_in blank = None
geometry_in (slotted r) = None
geometry_in (file_body b x) = None
geometry_in (folder_body b es) = None
geometry_in ill_formed = None

-- on a device of n blocks: the cover, the device's size and the root, in this order
unfoldable pub opening : ℕ → Shown → Ready
opening n shown = do
  _ ← check (nat_lt 0 n) (BadCard (block 0))
  g ← demand (geometry_in (cover_of (shown 0))) (BadCard (block 0))
  _ ← check (nat_le g.blocks n) (SmallDevice g.blocks)
  _ ← check (is_root (seen g shown 1)) (BadCard (block 1))
  Ok g

-- a card only opened: the next block to examine, and the highest identity seen so far
pub record Opened : Type 0 where
  pub ready : Ready
  pub next : ℕ
  pub highest : ℕ

abbrev pub opened : ℕ → Shown → Opened
opened n shown = record { ready = opening n shown; next = 1; highest = 0 }

-- the same for a card only opened
abbrev pub lost_opened : BlockNo → Opened → Opened
lost_opened b o = record { ready = Err (PowerGone b); next = o.next; highest = o.highest }

-- ---- surveying

-- one step: how many blocks remain, and the card after, with the highest identity seen so far
pub record Surveying : Type 0 where
  pub remain : ℕ
  pub card : Opened

-- block b of the card was examined
abbrev pub examined : Geometry → Shown → Opened → Opened
examined g shown o = record { ready = o.ready; next = suc o.next; highest = max o.highest (told g (seen g shown o.next)) }

-- examines the next block, if one remains
unfoldable pub survey_step : Opened → Shown → Answer Surveying
survey_step o shown = do
  g ← o.ready
  Ok (cond (nat_lt o.next g.blocks)
      (record { remain = g.blocks - suc o.next; card = examined g shown o })
      (record { remain = 0; card = o }))

-- the highest identity that these blocks tell
abbrev pub highest_of : Geometry → View → List ℕ → ℕ
highest_of g v [] = 0
highest_of g v (b ∷ bs) = max (told g (v b)) (highest_of g v bs)

-- on a card of geometry g the cursors start at slot 0 and at the first body; on a bad card nothing is examined
abbrev pub ended_by : Ready → Opened → Shown → Card
ended_by (Ok g) o shown = record { ready = Ok g; highest = max o.highest (highest_of g (seen g shown) (from o.next (g.blocks - o.next))); next_slot = 0; next_body = suc g.slots }
ended_by (Err r) o shown = record { ready = Err r; highest = o.highest; next_slot = 0; next_body = 0 }

-- the end of the survey examines the rest
unfoldable pub surveyed : Opened → Shown → Card
surveyed o shown = ended_by o.ready o shown
