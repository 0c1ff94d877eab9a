use Rattle.encode.specs.Heads.{Begins}
use Rattle.walk.specs.Copies.{copied}
use Rattle.change.proofs.blocks.numbers_of.Given as goal

abbrev pub invariant-loop-k : goal.invariant-loop-k
invariant-loop-k l = Begins (copied l.slot).numbers l.number-items l.k
