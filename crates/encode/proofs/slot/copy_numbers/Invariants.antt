use Rattle.std.proofs.Common.{◌≡◌, take}
use Rattle.layout.specs.View.{all_numbers}
use Rattle.encode.specs.Heads.{plain}
use Rattle.encode.proofs.slot.copy_numbers.Given as goal

abbrev pub invariant-loop-k : goal.invariant-loop-k
invariant-loop-k l = plain l.all.items ≡ take l.k (all_numbers l.slot.numbers.now)
