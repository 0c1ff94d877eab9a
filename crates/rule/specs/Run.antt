-- A card over a device, driven by commands: calls and power cuts. The device remembers, for each block, every
-- content that may stand, and may be told after how many writes its power goes.
use Rattle.std.specs.Prelude.{ℕ, zero, suc, ◌-◌, Bool, true, false, cond, ◌||◌, List, [], ◌∷◌, length, take, replicate, Some, None, Ok, Err, Option, Result, ◌==◌, nat_le, slice_index_or}
use Rattle.base.specs.declared.number.BlockNo.{BlockNo}
use Rattle.base.specs.declared.owner.Kind.{Kind}
use Rattle.base.specs.declared.owner.Handle.{Handle}
use Rattle.base.specs.declared.refusal.Layer.{Layer}
use Rattle.base.specs.declared.refusal.Refusal.{Refusal}
use Rattle.base.specs.declared.refusal.Refusal.TheVariants.{PowerGone, BadCard}
use Rattle.base.specs.declared.refusal.PathRefusal.{PathRefusal}
use Rattle.base.specs.Refusals.{number_of, layer_of, place_of}
use Rattle.device.specs.declared.fault.Synced.{Synced}
use Rattle.device.specs.declared.fault.Synced.TheVariants.{Settled, Unsure}
use Rattle.device.specs.declared.put.Put.{Put}
use Rattle.device.specs.Model.{Block}
use Rattle.layout.specs.Format.{Name}
use Rattle.rule.specs.Agree.{Shown}
use Rattle.rule.specs.Check.{Answer}
use Rattle.rule.specs.Card.{Ready, Card, Plan, block, lost, Opened, opened, Surveying, survey_step, surveyed}
use Rattle.rule.specs.Reading.{find, path, EntryLine, list, DamageLine, damage, status, space, read}
use Rattle.rule.specs.Changing.{create, write, shorten, remove, format, sync}

-- what a block shows, and what may stand there, newest first
pub record Stand : Type 0 where
  pub shown : Block
  pub may : List Block

-- `passes`: how many writes are accepted before the power goes; None if it stays
pub record State : Type 0 where
  pub blocks : List Stand
  pub passes : Option ℕ
  pub power : Bool
  pub opened : Opened
  pub card : Card

pub data Command : Type 0 where
  Format : ℕ → ℕ → Command
  Open : Command
  Survey : Command
  EndSurvey : Command
  Create : Kind → Handle → Name → Command
  Write : Handle → ℕ → List ℕ → Command
  Shorten : Handle → ℕ → Command
  Remove : Handle → Name → Command
  -- with what the device answers
  Sync : Synced → Command
  Find : Handle → Name → Command
  Path : List ℕ → Command
  ListOf : Handle → Command
  StatusOf : Handle → Command
  Damage : Command
  SpaceLeft : Command
  -- into a buffer of so many bytes
  Read : Handle → ℕ → ℕ → Command
  -- the power goes after so many writes
  FailAfter : ℕ → Command
  -- each block shows one of the contents that may stand: that of so many writes before the last
  Cut : (ℕ → ℕ) → Command
  -- the first bytes that a block shows
  Look : ℕ → ℕ → Command

pub data Reply : Type 0 where
  Done : Reply
  -- the blocks, in the order of their writes
  Wrote : List ℕ → Reply
  Made : Handle → List ℕ → Reply
  -- how many blocks remain, and the highest identity
  Remain : ℕ → ℕ → Reply
  Highest : ℕ → Reply
  At : Handle → Reply
  Bytes : List ℕ → Reply
  Has : Kind → ℕ → Handle → Reply
  -- bodies and slots
  Free : ℕ → ℕ → Reply
  Bad : List DamageLine → Reply
  Listing : List EntryLine → Reply
  -- number, layer, place
  Refused : ℕ → Layer → ℕ → Reply
  -- the same, and the component
  Stopped : ℕ → Layer → ℕ → ℕ → Reply

pub record Turn : Type 0 where
  pub reply : Reply
  pub state : State

-- ---- what the device does

abbrev pub no_block : Stand
no_block = record { shown = []; may = [] }

abbrev pub shown_by : List Stand → Shown
shown_by ts b = (slice_index_or ts b no_block).shown

abbrev pub put_at : ℕ → Block → List Stand → List Stand
put_at b z [] = []
put_at zero z (t ∷ ts) = record { shown = z; may = z ∷ t.may } ∷ ts
put_at (suc b) z (t ∷ ts) = t ∷ put_at b z ts

unfoldable pub put_all : List Put → List Stand → List Stand
put_all [] ts = ts
put_all (w ∷ ws) ts = put_all ws (put_at w.block.0 w.bytes ts)

-- only what is shown may stand
unfoldable pub settled : List Stand → List Stand
settled [] = []
settled (t ∷ ts) = record { shown = t.shown; may = t.shown ∷ [] } ∷ settled ts

-- the content of n writes before the last, or the oldest
abbrev pub earlier : ℕ → Block → List Block → Block
earlier n z [] = z
earlier zero z (y ∷ ys) = y
earlier (suc n) z (y ∷ ys) = earlier n y ys

unfoldable pub landed : (ℕ → ℕ) → ℕ → List Stand → List Stand
landed f b [] = []
landed f b (t ∷ ts) = let z = earlier (f b) t.shown t.may in record { shown = z; may = z ∷ [] } ∷ landed f (suc b) ts

abbrev pub has : ℕ → List ℕ → Bool
has b [] = false
has b (x ∷ xs) = b == x || has b xs

-- a cut after which these blocks show their last content and the others their oldest, or the reverse
abbrev pub only : List ℕ → ℕ → ℕ
only bs b = cond (has b bs) 0 1000

abbrev pub all_but : List ℕ → ℕ → ℕ
all_but bs b = cond (has b bs) 1000 0

-- ---- one command

abbrev pub refused : State → Refusal → Turn
refused s r = record { reply = Refused (number_of r) (layer_of r) (place_of r); state = s }

-- a reading call
abbrev pub tell : {A : Type 0} → State → (A → Reply) → Answer A → Turn
tell s f (Ok a) = record { reply = f a; state = s }
tell s f (Err r) = refused s r

abbrev pub tell_path : State → Result Handle PathRefusal → Turn
tell_path s (Ok h) = record { reply = At h; state = s }
tell_path s (Err r) = record { reply = Stopped (number_of r.lower) (layer_of r.lower) (place_of r.lower) r.component; state = s }

abbrev pub with_card : State → Card → State
with_card s c = record { blocks = s.blocks; passes = s.passes; power = s.power; opened = s.opened; card = c }

abbrev pub with_blocks : State → List Stand → State
with_blocks s ts = record { blocks = ts; passes = s.passes; power = s.power; opened = s.opened; card = s.card }

abbrev pub block_at : List Put → ℕ → BlockNo
block_at [] n = block 0
block_at (w ∷ ws) zero = w.block
block_at (w ∷ ws) (suc n) = block_at ws n

-- the writes are made, until the power goes: the first n land, the next meets power gone, and the card keeps that
abbrev pub writes : State → List Put → Card → Reply → Turn
writes s ws c a = go s.passes
  where
    broken : ℕ → Turn
    broken n = refused (record { blocks = put_all (take n ws) s.blocks; passes = Some 0; power = false; opened = s.opened; card = lost (block_at ws n) s.card }) (PowerGone (block_at ws n))

    go : Option ℕ → Turn
    go None = record { reply = a; state = with_card (with_blocks s (put_all ws s.blocks)) c }
    go (Some n) = cond (nat_le (length ws) n)
        (record { reply = a; state = record { blocks = put_all ws s.blocks; passes = Some (n - length ws); power = s.power; opened = s.opened; card = c } })
        (broken n)

abbrev pub blocks_of : List Put → List ℕ
blocks_of [] = []
blocks_of (w ∷ ws) = w.block.0 ∷ blocks_of ws

-- a changing call
abbrev pub carry : {A : Type 0} → State → (A → List ℕ → Reply) → Answer (Plan A) → Turn
carry s f (Ok p) = writes s p.puts p.card (f p.answer (blocks_of p.puts))
carry s f (Err r) = refused s r

-- a format's sync settles, if its writes were accepted
abbrev pub settles : Turn → Turn
settles t = cond t.state.power (record { reply = t.reply; state = with_blocks t.state (settled t.state.blocks) }) t

abbrev pub formats : State → Answer (List Put) → Turn
formats s (Ok ws) = settles (writes s ws s.card Done)
formats s (Err r) = refused s r

-- a card that is not surveyed yet; only reading calls are made on it
abbrev pub unsurveyed : Ready → Card
unsurveyed r = record { ready = r; highest = 0; next_slot = 0; next_body = 0 }

abbrev pub with_opened : State → Opened → State
with_opened s o = record { blocks = s.blocks; passes = s.passes; power = s.power; opened = o; card = unsurveyed o.ready }

abbrev pub opens : State → Opened
opens s = cond s.power (opened (length s.blocks) (shown_by s.blocks)) (record { ready = Err (PowerGone (block 0)); next = 1; highest = 0 })

abbrev pub surveys : State → Answer Surveying → Turn
surveys s (Ok t) = record { reply = Remain t.remain t.card.highest; state = with_opened s t.card }
surveys s (Err r) = refused s r

abbrev pub ends : State → Card → Ready → Turn
ends s c (Ok g) = record { reply = Highest c.highest; state = with_card s c }
ends s c (Err r) = refused (with_card s c) r

abbrev pub syncs : Synced → State → List Stand
syncs Settled s = settled s.blocks
syncs Unsure s = s.blocks

abbrev pub syncing : Synced → State → Answer (Unit {0}) → Turn
syncing a s (Ok u) = record { reply = Done; state = with_blocks s (syncs a s) }
syncing a s (Err r) = refused s r

unfoldable pub act : Command → State → Turn
act (Format n k) s = formats s (format (length s.blocks) n k)
act Open s = record { reply = Done; state = with_opened s (opens s) }
act Survey s = surveys s (survey_step s.opened (shown_by s.blocks))
act EndSurvey s = let c = surveyed s.opened (shown_by s.blocks) in ends s c c.ready
act (Create d f n) s = carry s Made (create d f n s.card (shown_by s.blocks))
act (Write h k x) s = carry s (λ u. Wrote) (write h k x s.card (shown_by s.blocks))
act (Shorten h n) s = carry s (λ u. Wrote) (shorten h n s.card (shown_by s.blocks))
act (Remove f n) s = carry s (λ u. Wrote) (remove f n s.card (shown_by s.blocks))
act (Sync a) s = syncing a s (sync a s.card.ready)
act (Find h n) s = tell s At (find h n s.card.ready (shown_by s.blocks))
act (Path p) s = tell_path s (path p s.card.ready (shown_by s.blocks))
act (ListOf h) s = tell s Listing (list h s.card.ready (shown_by s.blocks))
act (StatusOf h) s = tell s (λ t. Has t.kind t.count t.parent) (status h s.card.ready (shown_by s.blocks))
act Damage s = tell s Bad (damage s.card.ready (shown_by s.blocks))
act SpaceLeft s = tell s (λ t. Free t.bodies t.slots) (space s.card.ready (shown_by s.blocks))
act (Read h k room) s = tell s Bytes (read h k room s.card.ready (shown_by s.blocks))
act (FailAfter n) s = record { reply = Done; state = record { blocks = s.blocks; passes = Some n; power = s.power; opened = s.opened; card = s.card } }
act (Cut f) s = record { reply = Done; state = record { blocks = landed f 0 s.blocks; passes = None; power = true; opened = s.opened; card = s.card } }
act (Look b n) s = record { reply = Bytes (take n (shown_by s.blocks b)); state = s }

-- ---- from a new device on

-- n blocks of zeros
abbrev pub zeros : ℕ → List Stand
zeros zero = []
zeros (suc n) = record { shown = replicate 512 0; may = replicate 512 0 ∷ [] } ∷ zeros n

abbrev pub new_device : ℕ → State
new_device n = record { blocks = zeros n; passes = None; power = true; opened = record { ready = Err (BadCard (block 0)); next = 1; highest = 0 }; card = unsurveyed (Err (BadCard (block 0))) }

-- what is done, one after another
unfoldable pub replies : State → List (State → Turn) → List Reply
replies s [] = []
replies s (f ∷ fs) = let t = f s in t.reply ∷ replies t.state fs

unfoldable pub after : State → List (State → Turn) → State
after s [] = s
after s (f ∷ fs) = after (f s).state fs
