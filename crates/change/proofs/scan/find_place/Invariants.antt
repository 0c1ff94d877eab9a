use Rattle.std.proofs.Common.{◌≡◌, ℕ, drop}
use Rattle.layout.specs.Sizes.{sizes}
use Rattle.rule.specs.Agree.{places_of}
use Rattle.change.specs.Scanning.{first_sought}
use Rattle.change.proofs.scan.find_place.Given as goal

abbrev pub invariant-loop-place : goal.invariant-loop-place
invariant-loop-place l =
    (k : ℕ) → first_sought (sizes l.known.geometry) l.known.marks.now l.folder l.sought (places_of k 0 l.cells)
    ≡ first_sought (sizes l.known.geometry) l.known.marks.now l.folder l.sought (places_of k l.place (drop l.place l.cells))
