-- What the calls of a ledger answer and leave, exactly.
use Rattle.std.specs.Prelude.{◌≡◌, ℕ, ◌-◌, ◌%◌, ◌<◌, ◌≤◌, Bool, true, false, cond, List, [], ◌∷◌, ◌++◌, length, replicate, Some, None, Ok, Err, Option, Result, ◌==◌, nat_lt, slice_index, slice_index_or, slice_set}
use Rattle.base.specs.declared.number.BlockNo.{BlockNo}
use Rattle.device.specs.Model.{Block, OnlyShown}
use Rattle.device.specs.declared.put.Put.{Put}
use Rattle.device.specs.declared.fault.Fault.{Fault}
use Rattle.device.specs.declared.fault.Fault.TheVariants.{PowerGone, NoSuchBlock}
use Rattle.device.specs.declared.fault.Synced.{Synced}
use Rattle.device.specs.declared.fault.Synced.TheVariants.{Settled, Unsure}
use Rattle.power.specs.declared.ledger.LastWrite.{LastWrite}
use Rattle.power.specs.declared.ledger.LastWrite.TheVariants.{Lost, MayStand}
use Rattle.power.specs.View.{View, blocks, contents, shows, ledger}

-- ---- a view with one thing other: its blocks and log, its fuse, what its last write leaves, its sync, its power

abbrev pub with_book : View → List Block → List Put → View
with_book v ss log =
    record { settled = ss; log = log; room = v.room; left = v.left; last = v.last; gone = v.gone; unsure = v.unsure }

abbrev pub with_left : View → Option ℕ → View
with_left v o =
    record { settled = v.settled; log = v.log; room = v.room; left = o; last = v.last; gone = v.gone; unsure = v.unsure }

abbrev pub with_last : View → LastWrite → View
with_last v w =
    record { settled = v.settled; log = v.log; room = v.room; left = v.left; last = w; gone = v.gone; unsure = v.unsure }

abbrev pub with_unsure : View → Bool → View
with_unsure v u =
    record { settled = v.settled; log = v.log; room = v.room; left = v.left; last = v.last; gone = v.gone; unsure = u }

abbrev pub turned_off : View → View
turned_off v =
    record { settled = v.settled; log = v.log; room = v.room; left = v.left; last = v.last; gone = true; unsure = v.unsure }

-- ---- the log

-- the blocks once the puts of a log have landed, one after another
abbrev pub replay : List Block → List Put → List Block
replay ss [] = ss
replay ss (w ∷ ws) = replay (slice_set ss w.block.0 w.bytes) ws

-- everything that is shown has landed
abbrev pub settle : View → View
settle v = with_book v (replay v.settled v.log) []

-- one put more; a full log is settled first, and where there is no room at all the put lands at once
abbrev pub noted : Put → View → View
noted w v =
    cond (nat_lt (length v.log) v.room) (with_book v v.settled (v.log ++ w ∷ []))
    (cond (nat_lt 0 v.room) (with_book v (replay v.settled v.log) (w ∷ []))
    (with_book v (slice_set (replay v.settled v.log) w.block.0 w.bytes) []))

-- ---- read, write and sync

-- the answer of a call about block b
abbrev pub at_block : {A : Type 0} → BlockNo → View → Result A Fault → Result A Fault
at_block b v r = cond v.gone (Err (PowerGone b)) (cond (nat_lt b.0 (blocks v)) r (Err (NoSuchBlock b)))

-- what each call answers, and what it leaves
abbrev pub read_answer : BlockNo → View → Result Block Fault
read_answer b v = at_block b v (Ok (shows v.settled v.log b.0))

-- the next write takes the power
abbrev pub spent : Option ℕ → Bool
spent None = false
spent (Some n) = n == 0

-- the fuse after an accepted write
abbrev pub fewer : Option ℕ → Option ℕ
fewer None = None
fewer (Some n) = Some (n - 1)

-- what the write that takes the power leaves
abbrev pub leave : LastWrite → Put → View → View
leave Lost w v = v
leave MayStand w v = noted w v

abbrev pub write_answer : {U : Type 0} → U → BlockNo → View → Result U Fault
write_answer u b v = at_block b v (cond (spent v.left) (Err (PowerGone b)) (Ok u))

abbrev pub write_after : Put → View → View
write_after w v =
    cond v.gone v
    (cond (nat_lt w.block.0 (blocks v))
    (cond (spent v.left) (leave v.last w (turned_off v)) (noted w (with_left v (fewer v.left)))) v)

abbrev pub sync_answer : View → Result Synced Fault
sync_answer v =
    cond v.gone (Err (PowerGone (record { 0 = 65535 }))) (Ok (cond v.unsure Unsure Settled))

abbrev pub sync_after : View → View
sync_after v = cond v.gone v (cond v.unsure v (settle v))

-- what a look from outside sees of block b
abbrev pub look : BlockNo → View → Option Block
look b v = cond (nat_lt b.0 (blocks v)) (Some (shows v.settled v.log b.0)) None

-- ---- a cut

-- the number that is said for block b: the numbers are used over and over
abbrev pub pick : List ℕ → ℕ → ℕ
pick landing b = slice_index landing (b % length landing)

-- the content that the number n chooses of those that may stand at block b
unfoldable pub chosen : ℕ → List Block → List Put → ℕ → Block
chosen n ss log b = slice_index_or (contents ss log b) (n % length (contents ss log b)) []

-- ts is what v has settled once in each block the chosen content has landed
pub record Landed (landing : List ℕ) (v : View) (ts : List Block) : Type 0 where
  pub size : length ts ≡ length v.settled
  pub each : (b : ℕ) → b < length v.settled → slice_index_or ts b [] ≡ chosen (pick landing b) v.settled v.log b

-- all else is as it was
pub record LandedAll (landing : List ℕ) (v n : View) : Type 0 where
  pub landed : Landed landing v n.settled
  pub rest : n ≡ with_book v n.settled v.log

-- nothing is held back, the power is on, and no fuse is set
pub record CutLeft (landing : List ℕ) (v n : View) : Type 0 where
  pub landed : Landed landing v n.settled
  pub rest : n ≡ record { settled = n.settled; log = []; room = v.room; left = None; last = v.last; gone = false; unsure = v.unsure }

-- ---- a new ledger

-- all blocks are zero, and nothing else may stand; the power is on and stays on
pub record Fresh (count room : ℕ) (v : View) : Type 0 where
  pub settled : v.settled ≡ replicate count (replicate 512 0)
  pub log : v.log ≡ []
  pub fits : room ≤ v.room
  pub left : v.left ≡ None
  pub last : v.last ≡ Lost
  pub gone : v.gone ≡ false
  pub unsure : v.unsure ≡ false
  pub blocks : (ledger v).count ≡ count
  pub shown : (b : ℕ) → b < count → (ledger v).shown b ≡ replicate 512 0
  pub only : OnlyShown (ledger v)
