-- What a reading call says of the part of a card that opened and surveyed cards have in common.
use Rattle.std.specs.Prelude.{◌≡◌, ℕ, cond, ◌⊎◌, List, ◌++◌, length, drop, Ok, Err, Result, ◌==◌}
use Rattle.base.specs.Refusals.{number_of}
use Rattle.base.specs.declared.number.BlockNo.{BlockNo}
use Rattle.base.specs.declared.refusal.Refusal.{Refusal}
use Rattle.base.specs.declared.refusal.Refusal.TheVariants.{PowerGone}
use Rattle.device.specs.Model.{Model, Lost}
use Rattle.layout.specs.declared.geometry.Geometry.{Geometry as CardGeometry}
use Rattle.rule.specs.Agree.{Shown}
use Rattle.rule.specs.Card.{Ready}
use Rattle.rule.specs.Check.{Answer}
use Rattle.walk.specs.Still.{Still}
use Rattle.card_lists.specs.Ready.{Kept, ready_view}

-- a refusal that is power gone is kept
abbrev pub noted : Refusal → Kept → Kept
noted e c = cond (number_of e == 1) (Err e) c

-- so is that of an answer
abbrev pub kept_by : {A : Type 0} → Answer A → Kept → Kept
kept_by (Ok a) c = c
kept_by (Err e) c = noted e c

-- the answer is the rule's and nothing changed; or power gone was met, of which `met` says how it is told, and the card keeps
-- it. Where it is told as it is, that is `ReadsOn`
abbrev pub CoreReads : {A E : Type 0} → (BlockNo → E) → (Ready → Shown → Result A E) → Kept → Model → Result A E → Kept → Model → Type 0
CoreReads met rule c m r d n =
    (Still m n × (r ≡ rule (ready_view c) m.shown) × (d ≡ c))
    ⊎ ((b : BlockNo) × (g : CardGeometry) × (c ≡ Ok g) × (r ≡ Err (met b)) × Lost m n × (d ≡ Err (PowerGone b)))

-- a buffer after a read: the bytes at its front, the rest as it was; a refusal leaves it as it was
abbrev pub Fills : Result (List ℕ) Refusal → Result ℕ Refusal → List ℕ → List ℕ → Type 0
Fills a (Ok n) z y = (x : List ℕ) × (a ≡ Ok x) × (n ≡ length x) × (y ≡ x ++ drop (length x) z)
Fills a (Err e) z y = (a ≡ Err e) × (y ≡ z)
