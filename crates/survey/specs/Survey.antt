-- What a survey has learned of the blocks that it has examined.
use Rattle.std.specs.Prelude.{◌≡◌, ℕ, suc, ◌<◌, true, false, cond, ◌&&◌, length, Some, None, Option, ◌==◌, nat_lt, slice_index_or}
use Rattle.base.specs.declared.owner.Handle.{Handle}
use Rattle.base.specs.declared.owner.Back.{Back}
use Rattle.layout.specs.Format.{Name, Geometry, body_number}
use Rattle.rule.specs.Agree.{View, slot_at, number, good, given, back_in}
use Rattle.rule.specs.Meaning.{Sound}
use Rattle.survey.specs.declared.survey.Survey.{Survey}
use Rattle.survey.specs.Known.{kept, is_linked}

-- the back line of block b, if it is a good leaf of the slot that it names, reached or not
abbrev pub leaf_line : Geometry → View → ℕ → Option Back
leaf_line g v b = given (back_in (v b)) (λ c. given (slot_at g v c.owner.slot.0) (λ r.
    cond (r.identity == c.owner.identity.0 && (number r c.leaf.0 == b && good v c.owner r c.leaf.0)) (Some c) None))

-- bodies stand among the bodies only, as in what is read of a card's blocks
abbrev pub Apart : Geometry → View → Type 0
Apart g v = (b : ℕ) → body_number g b ≡ false → back_in (v b) ≡ None

-- a sound entry leads to slot s
pub record Linked (g : Geometry) (v : View) (s : ℕ) : Type 0 where
  pub folder : Handle
  pub leaf : ℕ
  pub place : ℕ
  pub name : Name
  pub child : Handle
  pub sound : Sound g v folder leaf place name child
  pub is : child.slot.0 ≡ s

-- the blocks below `next` have been examined
pub record Sofar (g : Geometry) (v : View) (next : ℕ) (t : Survey) : Type 0 where
  pub apart : Apart g v
  -- every well-formed slot among them is remembered, and of every good leaf its back line
  pub slots : (s : ℕ) → kept t.slots s ≡ cond (nat_lt (suc s) next) (slot_at g v s) None
  pub bodies : (b : ℕ) → slice_index_or t.bodies b None ≡ cond (nat_lt b next) (leaf_line g v b) None
  -- what is marked, a sound entry leads to; and what a sound entry in one of them leads to is marked
  pub linked : (s : ℕ) → is_linked t.slots s ≡ true → Linked g v s
  pub all_linked : (f : Handle) (k p : ℕ) (n : Name) (c : Handle) (w : Sound g v f k p n c) → number w.slot k < next →
      is_linked t.slots c.slot.0 ≡ true
  pub slot_count : length t.slots.known ≡ 256
  pub body_count : length t.bodies ≡ 4096
