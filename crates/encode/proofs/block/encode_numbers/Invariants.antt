use Rattle.std.proofs.Common.{◌≡◌, take}
use Rattle.layout.specs.Format.{numbers_bytes, padded}
use Rattle.encode.specs.Heads.{plain}
use Rattle.encode.proofs.block.encode_numbers.Given as goal

abbrev pub invariant-loop-k : goal.invariant-loop-k
invariant-loop-k l = l.bytes ≡ padded 128 (numbers_bytes (plain (take l.k l.numbers)))
