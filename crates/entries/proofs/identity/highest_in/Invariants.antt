use Rattle.std.proofs.Common.{◌≡◌, max, drop}
use Rattle.layout.specs.Identities.{highest_in}
use Rattle.layout.specs.Sizes.{sizes}
use Rattle.entries.proofs.identity.highest_in.Given as goal

abbrev pub invariant-loop-cell : goal.invariant-loop-cell
invariant-loop-cell l = max l.high (highest_in (sizes l.g) (drop l.cell-index l.cell-items)) ≡ highest_in (sizes l.g) l.cell-items
