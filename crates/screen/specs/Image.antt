-- What a card image means that is only looked at: the plain card, until a write would change a block.
use Rattle.std.specs.Prelude.{ℕ, Bool, false, cond, not, List, [], ◌∷◌, Some, None, Option, ◌==◌, refl}
use Rattle.std.proofs.Common.{inl}
use Rattle.device.specs.Model.{Model, Block, In}
use Rattle.device.specs.Plain.{block, blocks_in}
use Rattle.device.specs.declared.put.Put.{Put}
use Rattle.rule.specs.Agree.{same_bytes}

-- the last write would change its block
abbrev pub differs : List ℕ → Option Put → Bool
differs image None = false
differs image (Some p) = not (same_bytes p.bytes (block image p.block.0))

-- what the image has, and what was written there last
abbrev pub may_stand : List ℕ → Option Put → ℕ → List Block
may_stand image None b = block image b ∷ []
may_stand image (Some p) b = block image b ∷ cond (b == p.block.0) (p.bytes ∷ []) []

pub shown_stands : (image : List ℕ) (last : Option Put) (b : ℕ) → In (block image b) (may_stand image last b)
unfolding In
shown_stands image None b = inl refl
shown_stands image (Some p) b = inl refl

-- the image is shown; once a write would change a block the power is gone, and what was written may stand there too
abbrev pub looked_at : List ℕ → Option Put → Model
looked_at image last = record {
  count = blocks_in image;
  power = not (differs image last);
  shown = block image;
  may = may_stand image last;
  among = shown_stands image last;
}
