-- Reading a leaf of a file, as the code answers it.
use Rattle.std.specs.Prelude.{ℕ, List, Ok, nat_lt}
use Rattle.base.specs.declared.owner.Kind.TheVariants.{File}
use Rattle.base.specs.declared.owner.Handle.{Handle}
use Rattle.base.specs.declared.refusal.Refusal.TheVariants.{NoSuchLeaf, LeafNotGood}
use Rattle.layout.specs.Format.{Geometry, Slot}
use Rattle.rule.specs.Agree.{View, count, number, good}
use Rattle.rule.specs.Card.{block}
use Rattle.rule.specs.Check.{Answer, ◌>>=◌, check}
use Rattle.rule.specs.Reading.{reading, bytes_in}

-- leaf k of the file h, whose slot is r
abbrev pub leaf_of : View → Handle → ℕ → Slot → Answer (List ℕ)
leaf_of v h k r = check (nat_lt k (count r)) (NoSuchLeaf (record { 0 = k })) >>= λ _. check (good v h r k) (LeafNotGood (block (number r k))) >>= λ _. Ok (bytes_in (v (number r k)))

-- the same, of a handle
abbrev pub leaf_bytes : Geometry → View → Handle → ℕ → Answer (List ℕ)
leaf_bytes g v h k = reading g v File h >>= leaf_of v h k
