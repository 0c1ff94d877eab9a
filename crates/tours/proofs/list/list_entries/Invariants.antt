use Rattle.std.proofs.Common.{◌≡◌, ◌*◌}
use Rattle.layout.specs.Sizes.{sizes}
use Rattle.rule.specs.Agree.{places_over, from}
use Rattle.walk.specs.Copies.{copied}
use Rattle.walk.specs.Still.{Still, shows}
use Rattle.tours.specs.Lists.{Adds, entry_rows}
use Rattle.tours.proofs.list.list_entries.Given as goal

abbrev pub invariant-loop-k : goal.invariant-loop-k
invariant-loop-k g l = record {
  still : Still (g.D.Device.model l.initial.device) (g.D.Device.model l.device);
  adds : Adds (15 * l.k) (entry_rows (sizes l.g) (shows l.g (g.D.Device.model l.initial.device)) l.folder.handle (places_over (shows l.g (g.D.Device.model l.initial.device)) l.folder.handle (copied l.folder.slot) (from 0 l.k))) 0 l.initial.list.lines.now l.list.count l.list.lines.now;
  same : l.list.lines.ghost_name ≡ l.initial.list.lines.ghost_name;
}
