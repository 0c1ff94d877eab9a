use Rattle.std.proofs.Common.{◌≡◌, ◌-◌}
use Rattle.layout.specs.Sizes.{sizes}
use Rattle.rule.specs.Agree.{places, places_over, from}
use Rattle.walk.specs.Copies.{copied}
use Rattle.walk.specs.Still.{Still, shows}
use Rattle.change.specs.Scanning.{first_sought, SpotOr}
use Rattle.change.specs.declared.scan.Sought.TheVariants.{Open}
use Rattle.change.proofs.scan.scan_folder.Given as goal

abbrev pub invariant-loop-k : goal.invariant-loop-k
invariant-loop-k g l =
    Still (g.D.Device.model l.initial.device) (g.D.Device.model l.device)
    × (first_sought (sizes l.known.geometry) l.known.marks.now l.folder.handle l.sought (places (shows l.known.geometry (g.D.Device.model l.initial.device)) l.folder.handle (copied l.folder.slot))
    ≡ first_sought (sizes l.known.geometry) l.known.marks.now l.folder.handle l.sought (places_over (shows l.known.geometry (g.D.Device.model l.initial.device)) l.folder.handle (copied l.folder.slot) (from l.k (l.folder.slot.count - l.k))))
    × SpotOr (shows l.known.geometry (g.D.Device.model l.initial.device)) (copied l.folder.slot) (first_sought (sizes l.known.geometry) l.known.marks.now l.folder.handle Open (places (shows l.known.geometry (g.D.Device.model l.initial.device)) l.folder.handle (copied l.folder.slot)))
    (first_sought (sizes l.known.geometry) l.known.marks.now l.folder.handle Open (places_over (shows l.known.geometry (g.D.Device.model l.initial.device)) l.folder.handle (copied l.folder.slot) (from l.k (l.folder.slot.count - l.k)))) l.vacant
