use Rattle.std.proofs.Common.{◌≡◌, ◌-◌, Ok}
use Rattle.layout.specs.Sizes.{sizes}
use Rattle.rule.specs.Card.{surveyed}
use Rattle.walk.specs.Still.{Still}
use Rattle.card.specs.Progress.{Learned, so_far}
use Rattle.card.proofs.progress.Progress.examine_rest.Given as goal

abbrev pub invariant-loop-self : goal.invariant-loop-self
invariant-loop-self g l =
    Learned l.g (g.D.Device.model l.initial.device) l.initial.self →
    Still (g.D.Device.model l.initial.device) (g.D.Device.model l.device)
    × Learned l.g (g.D.Device.model l.initial.device) l.self
    × (surveyed (so_far (Ok (sizes l.g)) l.self) (g.D.Device.model l.initial.device).shown ≡ surveyed (so_far (Ok (sizes l.g)) l.initial.self) (g.D.Device.model l.initial.device).shown)

abbrev pub decreases-loop-self : goal.decreases-loop-self
decreases-loop-self g l = l.g.blocks - l.self.next
