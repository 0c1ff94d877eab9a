use Rattle.std.proofs.Common.{◌≡◌, drop}
use Rattle.layout.specs.Sizes.{sizes}
use Rattle.layout.proofs.Numbers.{pairs_fit}
use Rattle.layout.proofs.block.parsing.numbers_fit.Given as goal

abbrev pub invariant-loop-pair : goal.invariant-loop-pair
invariant-loop-pair l = pairs_fit (sizes l.g) (drop l.pair-index l.pairs) ≡ pairs_fit (sizes l.g) l.pairs
