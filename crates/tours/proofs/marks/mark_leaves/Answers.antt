use Rattle.std.proofs.Common.{arith}
use Rattle.layout.specs.Sizes.{sizes}
use Rattle.rule.specs.Agree.{Shown, seen}
use Rattle.walk.specs.Copies.{copied}
use Rattle.walk.proofs.Stills.{still, still_then}
use Rattle.tours.specs.Marks.{Chained, Open}
use Rattle.tours.proofs.Marking.{onward_none, onward_then, moved, leaves_more}
use Rattle.tours.proofs.marks.mark_leaves.Goals as goal

pub loop-k-init : goal.loop-k-init
loop-k-init g c = record { still = still _; onward = onward_none _ _ _ c.requires.1; done = λ j h. absurd (omega arith) }

pub mark_leaf-requires : goal.mark_leaf-requires
mark_leaf-requires g c =
    let z = sizes c.args.g.now in
    let m = g.D.Device.model c.args.device.now in
    let k = g.D.Device.model c.loop-k.device in
    let n = c.args.folder.now in
    let v = c.loop-k.invariant in (
      moved (λ (sh : Shown). Open z (seen z sh) n.handle (copied n.slot)) m k v.still c.requires.0,
      moved (λ (sh : Shown). Chained z (seen z sh) c.loop-k.work) m k v.still v.onward.chained,
    )

pub loop-k-preserved : goal.loop-k-preserved
loop-k-preserved g c =
    let z = sizes c.args.g.now in
    let m = g.D.Device.model c.args.device.now in
    let k = g.D.Device.model c.loop-k.device in
    let n = c.args.folder.now in
    let v = c.loop-k.invariant in
    let e = c.in_ok-mark_leaf.ensures in
    record {
      still = still_then m k _ v.still e.0;
      onward = onward_then z m k _ _ _ v.still v.onward e.1.0;
      done = leaves_more z m k n.handle (copied n.slot) c.loop-k.k _ _ v.still e.1.0.grew.more v.done e.1.1;
    }

pub returns : goal.returns
returns g c = let v = c.loop-k.invariant in (v.still, (v.onward, λ j h. v.done j (let a = c.loop-k.auto.k-end in omega arith)))
