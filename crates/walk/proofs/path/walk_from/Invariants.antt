use Rattle.std.proofs.Common.{◌≡◌, Ok}
use Rattle.std.specs.Iterator.Adapters.{enumerate_source, enumerate_count}
use Rattle.layout.specs.Sizes.{sizes}
use Rattle.rule.specs.Agree.{root}
use Rattle.rule.specs.Reading.{fits, walk, components}
use Rattle.walk.specs.Copies.{copied}
use Rattle.walk.specs.Paths.{names_left}
use Rattle.walk.specs.Still.{Still, shows}
use Rattle.walk.proofs.path.walk_from.Given as goal

abbrev pub invariant-loop-component : goal.invariant-loop-component
invariant-loop-component g l =
    Still (g.D.Device.model l.initial.device) (g.D.Device.model l.device)
    × (fits (sizes l.g) (shows l.g (g.D.Device.model l.initial.device)) l.at.handle ≡ Ok (copied l.at.slot))
    × (walk (sizes l.g) (shows l.g (g.D.Device.model l.initial.device)) 0 root (components l.path) ≡ walk (sizes l.g) (shows l.g (g.D.Device.model l.initial.device)) (enumerate_count l.component-iterator) l.at.handle (names_left (enumerate_source l.component-iterator)))
