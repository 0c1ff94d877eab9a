use Rattle.std.proofs.Common.{sym, subst, arith}
use Rattle.layout.specs.Sizes.{sizes}
use Rattle.walk.specs.Still.{shows}
use Rattle.tours.specs.Marks.{MarksReached}
use Rattle.walk.proofs.Stills.{still, still_then}
use Rattle.tours.proofs.Marking.{begun, few, next_done, all_marked}
use Rattle.tours.proofs.marks.mark_reached.Goals as goal

pub loop-slot-init : goal.loop-slot-init
loop-slot-init g c =
    let w = c.new-work.result in
    record { still = still _; underway = begun (sizes c.args.g.now) (shows c.args.g.now (g.D.Device.model c.args.device.now)) w c.enter.new.self c.new-work.ensures.empty.1 c.new-work.ensures.empty.0 c.enter.ensures }

pub loop-slot-smaller : goal.loop-slot-smaller
loop-slot-smaller g c =
    let o = c.in-Some.ensures in
    omega (arith, few c.loop-slot.work, o.3.0, o.3.2, c.in_ok-expand.ensures.1.0.grew.head)

pub loop-slot-preserved : goal.loop-slot-preserved
loop-slot-preserved g c =
    let z = sizes c.args.g.now in
    let m = g.D.Device.model c.args.device.now in
    let k = g.D.Device.model c.loop-slot.device in
    let v = c.loop-slot.invariant in
    let e = c.in_ok-expand.ensures in
    record {
      still = still_then m k _ v.still e.0;
      underway = next_done z c.loop-slot.work c.next.new.self c.in-Some.slot c.in-Some.ensures m k c.expand.new.work v.still v.underway e.1.0 e.1.1;
    }

pub returns : goal.returns
returns g c =
    let z = sizes c.args.g.now in
    let w = shows c.args.g.now (g.D.Device.model c.args.device.now) in
    let v = c.loop-slot.invariant in
    let e = c.in_default.ensures in
    (v.still, subst (MarksReached z w) (sym e.0) (all_marked z w c.loop-slot.work v.underway e.3.0))
