use Rattle.std.proofs.Common.{arith}
use Rattle.tours.proofs.Ticks.{ticks_few}
use Rattle.tours.proofs.work.Work.next.Goals as goal

pub offset_bounds-self-self : goal.offset_bounds-self-self
offset_bounds-self-self c = let w = c.args.self.now in omega (arith, ticks_few w.marks, w.slots, w.counted, w.ahead)

pub bounds-self-self : goal.bounds-self-self
bounds-self-self c = let w = c.args.self.now in omega (arith, ticks_few w.marks, w.slots, w.counted, w.ahead)
