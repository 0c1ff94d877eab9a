use Rattle.std.proofs.Common.{◌≡◌, ◌-◌}
use Rattle.layout.specs.Sizes.{sizes}
use Rattle.rule.specs.Agree.{places, places_over, from}
use Rattle.walk.specs.Copies.{copied}
use Rattle.walk.specs.Still.{Still, shows}
use Rattle.walk.specs.Finding.{first_hit}
use Rattle.walk.proofs.entry.find_entry.Given as goal

abbrev pub invariant-loop-k : goal.invariant-loop-k
invariant-loop-k g l =
    Still (g.D.Device.model l.initial.device) (g.D.Device.model l.device)
    × (first_hit (sizes l.g) (shows l.g (g.D.Device.model l.initial.device)) l.folder.handle l.name (places (shows l.g (g.D.Device.model l.initial.device)) l.folder.handle (copied l.folder.slot))
    ≡ first_hit (sizes l.g) (shows l.g (g.D.Device.model l.initial.device)) l.folder.handle l.name (places_over (shows l.g (g.D.Device.model l.initial.device)) l.folder.handle (copied l.folder.slot) (from l.k (l.folder.slot.count - l.k))))
