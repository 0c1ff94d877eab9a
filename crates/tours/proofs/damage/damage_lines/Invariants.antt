use Rattle.std.proofs.Common.{◌≡◌, ◌*◌, ◌≤◌, length, drop}
use Rattle.std.specs.Iterator.Adapters.{zip_second}
use Rattle.std.specs.Slice.Iter.{iter_rest}
use Rattle.layout.specs.Sizes.{sizes}
use Rattle.rule.specs.Agree.{from}
use Rattle.walk.specs.Still.{Still, shows}
use Rattle.tours.specs.Lists.{Adds}
use Rattle.tours.specs.Damage.{marked_rows}
use Rattle.tours.proofs.damage.damage_lines.Given as goal

abbrev pub invariant-loop-s : goal.invariant-loop-s
invariant-loop-s g l = record {
  still : Still (g.D.Device.model l.initial.device) (g.D.Device.model l.device);
  adds : Adds (65535 * length l.yielded) (marked_rows (sizes l.g) (shows l.g (g.D.Device.model l.initial.device)) l.marks (from 0 (length l.yielded))) 0 l.initial.list.lines.now l.list.count l.list.lines.now;
  same : l.list.lines.ghost_name ≡ l.initial.list.lines.ghost_name;
  second : iter_rest (zip_second l.s-iterator) ≡ drop (length l.yielded) l.marks;
  start : l.s-iterator.a.start ≡ length l.yielded;
  end : l.s-iterator.a.end ≡ l.g.slots;
  low : length l.yielded ≤ l.g.slots;
}
