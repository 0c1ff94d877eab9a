-- A reading call on a card that may be bad, or may have met power gone; and a list on it.
use Rattle.std.specs.Prelude.{◌≡◌, ℕ, ◌≤◌, cond, ◌⊎◌, List, map, length, replicate, Ok, Err, Result, ◌==◌}
use Rattle.base.specs.Refusals.{number_of}
use Rattle.base.specs.declared.number.BlockNo.{BlockNo}
use Rattle.base.specs.declared.refusal.Refusal.{Refusal}
use Rattle.base.specs.declared.refusal.Refusal.TheVariants.{PowerGone}
use Rattle.device.specs.Model.{Model, Lost}
use Rattle.layout.specs.Sizes.{sizes}
use Rattle.layout.specs.declared.geometry.Geometry.{Geometry as CardGeometry}
use Rattle.rule.specs.Agree.{Shown}
use Rattle.rule.specs.Card.{Ready}
use Rattle.rule.specs.Check.{Answer}
use Rattle.listing.specs.Lines.{Sofar}
use Rattle.walk.specs.Still.{Still}

-- the geometry, or the refusal that answers each call
abbrev pub Kept : Type 0
Kept = Result CardGeometry Refusal

abbrev pub ready_view : Kept → Ready
ready_view (Ok g) = Ok (sizes g)
ready_view (Err e) = Err e

-- the card is no larger than its device. An open gives this, and every call keeps it: so it holds of every card
abbrev pub Fitting : Kept → Model → Type 0
Fitting (Ok g) m = g.blocks ≤ m.count
Fitting (Err e) m = Unit {0}

-- an answer that is power gone is kept
abbrev pub kept_after : Result ℕ Refusal → Kept → Kept
kept_after (Ok n) c = c
kept_after (Err e) c = cond (number_of e == 1) (Err e) c

-- the answer is the rule's and nothing changed; or power gone was met, and the card keeps it
abbrev pub ReadsOn : {A : Type 0} → (Ready → Shown → Answer A) → Kept → Model → Answer A → Kept → Model → Type 0
ReadsOn rule c m a d n =
    (Still m n × (a ≡ rule (ready_view c) m.shown) × (d ≡ c))
    ⊎ ((b : BlockNo) × (g : CardGeometry) × (c ≡ Ok g) × (a ≡ Err (PowerGone b)) × Lost m n × (d ≡ Err (PowerGone b)))

-- the caller's lines after a list: filled at the front; as they were after a refusal, or all zero after power gone
abbrev pub LinesOf : {A L : Type 0} → (A → L) → L → Answer (List A) → Result ℕ Refusal → List L → List L → Type 0
LinesOf row zero (Ok items) (Ok n) before after = Sofar before (map row items) n after
LinesOf row zero (Err e) (Err d) before after = (d ≡ e) × (after ≡ cond (number_of e == 1) (replicate (length before) zero) before)
LinesOf row zero (Ok items) (Err d) before after = ⊥
LinesOf row zero (Err e) (Ok n) before after = ⊥

pub record Listing {A L : Type 0} (row : A → L) (zero : L) (rule : Ready → Shown → Answer (List A)) (c : Kept) (m : Model) (r : Result ℕ Refusal) (d : Kept) (n : Model) (before after : List L) : Type 0 where
  pub answer : Answer (List A)
  pub reads : ReadsOn rule c m answer d n
  pub lines : LinesOf row zero answer r before after
