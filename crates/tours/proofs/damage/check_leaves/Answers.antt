use Rattle.std.proofs.Common.{◌≡◌, ℕ, [], ◌∷◌, ap, ◌∙◌, arith}
use Rattle.layout.specs.Sizes.{sizes}
use Rattle.layout.proofs.Numbers.{length_numbers}
use Rattle.rule.specs.Agree.{Shown, seen, from, count}
use Rattle.walk.specs.Copies.{copied}
use Rattle.walk.proofs.Stills.{still_then}
use Rattle.tours.specs.Damage.{leaf_rows}
use Rattle.tours.proofs.Adding.{adds_is, adds_more}
use Rattle.tours.proofs.Damages.{leaves_more}
use Rattle.tours.proofs.damage.check_leaves.Goals as goal

pub loop-k-preserved : goal.loop-k-preserved
loop-k-preserved g c =
    let z = sizes c.args.g.now in
    let m = g.D.Device.model c.args.device.now in
    let k = g.D.Device.model c.loop-k.device in
    let r = copied c.args.node.now.slot in
    let h = c.args.node.now.handle in
    let v = c.loop-k.invariant in
    let e = c.in_ok-check_leaf.ensures in
    record {
      still = still_then m k _ v.still e.added.0;
      adds = adds_more (λ (sh : Shown). leaf_rows (seen z sh) h r (c.loop-k.k ∷ [])) m k c.loop-k.k 1 _ _ _ _ _ _ _ _ _ v.still (omega arith)
          (leaves_more (seen z m.shown) h r c.loop-k.k) v.adds e.added.1;
      same = e.same ∙ v.same;
    }

pub returns-clause-added : goal.returns-clause-added
returns-clause-added g c =
    let v = seen (sizes c.args.g.now) (g.D.Device.model c.args.device.now).shown in
    let h = c.args.node.now.handle in
    let r = copied c.args.node.now.slot in
    let all : c.loop-k.k ≡ count r = omega (arith, length_numbers c.args.node.now.slot.count c.args.node.now.slot.numbers) in (
      c.loop-k.invariant.still,
      adds_is c.loop-k.k 65535 _ _ _ _ _ _ (omega arith) (ap (λ (n : ℕ). leaf_rows v h r (from 0 n)) all) c.loop-k.invariant.adds,
    )
