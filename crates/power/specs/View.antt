-- What a ledger means: for each block what has landed, and the writes since, in their order.
use Rattle.std.specs.Prelude.{ℕ, min, Bool, cond, not, List, [], ◌∷◌, length, vec_items, vec_capacity, Option, ◌==◌, nat_lt, slice_index_or, refl}
use Rattle.std.proofs.Common.{inl, inr}
use Rattle.device.specs.Model.{Model, Block, In}
use Rattle.device.specs.declared.put.Put.{Put}
use Rattle.power.specs.declared.ledger.Ledger.{Ledger}
use Rattle.power.specs.declared.ledger.LastWrite.{LastWrite}

-- what a ledger holds, with its log's capacity as `room`
pub record View : Type 0 where
  pub settled : List Block
  pub log : List Put
  pub room : ℕ
  pub left : Option ℕ
  pub last : LastWrite
  pub gone : Bool
  pub unsure : Bool

abbrev pub view : Ledger → View
view l = record {
  settled = vec_items l.settled;
  log = vec_items l.log;
  room = vec_capacity l.log;
  left = l.left;
  last = l.last;
  gone = l.gone;
  unsure = l.unsure;
}

-- how many blocks there are
abbrev pub blocks : View → ℕ
blocks v = min (length v.settled) 65535

-- the contents that a log has for block b, oldest first
abbrev pub written : List Put → ℕ → List Block
written [] b = []
written (w ∷ ws) b = cond (b == w.block.0) (w.bytes ∷ written ws b) (written ws b)

-- the last of the contents x, ys
abbrev pub newest_of : Block → List Block → Block
newest_of x [] = x
newest_of x (y ∷ ys) = newest_of y ys

-- what the log has for a block that there is
abbrev pub held : List Block → List Put → ℕ → List Block
held ss log b = cond (nat_lt b (length ss)) (written log b) []

-- the contents that may stand at block b, oldest first
unfoldable pub contents : List Block → List Put → ℕ → List Block
contents ss log b = slice_index_or ss b [] ∷ held ss log b

-- what block b shows: the newest of them
unfoldable pub shows : List Block → List Put → ℕ → Block
shows ss log b = newest_of (slice_index_or ss b []) (held ss log b)

newest_in : (x : Block) (ys : List Block) → In (newest_of x ys) (x ∷ ys)
unfolding In
newest_in x [] = inl refl
newest_in x (y ∷ ys) = inr (newest_in y ys)

pub shows_among : (ss : List Block) (log : List Put) (b : ℕ) → In (shows ss log b) (contents ss log b)
unfolding shows contents
shows_among ss log b = newest_in (slice_index_or ss b []) (held ss log b)

abbrev pub ledger : View → Model
ledger v = record {
  count = blocks v;
  power = not v.gone;
  shown = shows v.settled v.log;
  may = contents v.settled v.log;
  among = shows_among v.settled v.log;
}
