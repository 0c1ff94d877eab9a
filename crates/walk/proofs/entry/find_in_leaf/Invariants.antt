use Rattle.std.proofs.Common.{◌≡◌, drop}
use Rattle.layout.specs.Sizes.{sizes}
use Rattle.rule.specs.Agree.{places_of}
use Rattle.walk.specs.Still.{Still, shows}
use Rattle.walk.specs.Finding.{first_hit}
use Rattle.walk.proofs.entry.find_in_leaf.Given as goal

abbrev pub invariant-loop-place : goal.invariant-loop-place
invariant-loop-place g l =
    Still (g.D.Device.model l.initial.device) (g.D.Device.model l.device)
    × (first_hit (sizes l.g) (shows l.g (g.D.Device.model l.initial.device)) l.folder l.name (places_of l.leaf.0 0 l.cells)
    ≡ first_hit (sizes l.g) (shows l.g (g.D.Device.model l.initial.device)) l.folder l.name (places_of l.leaf.0 l.place (drop l.place l.cells)))
