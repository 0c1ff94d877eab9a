use Rattle.std.proofs.Common.{sym}
use Rattle.layout.specs.Sizes.{sizes}
use Rattle.walk.specs.Copies.{copied}
use Rattle.walk.proofs.Stills.{still, still_read}
use Rattle.walk.proofs.Copying.{leaf_none, leaf_there}
use Rattle.walk.proofs.leaf.read_leaf.Goals as goal

pub returns-then-not-is_body : goal.returns-then-not-is_body
returns-then-not-is_body g c =
    (still _, leaf_none (sizes c.args.g.now) (g.D.Device.model c.args.device.now).shown c.args.owner.now.handle (copied c.args.owner.now.slot) c.args.leaf.0 _ c.number-at.ensures (sym c.if-not-is_body.ensures))

pub returns : goal.returns
returns g c =
    let e = c.in_ok-block.ensures in
    (still_read _ _ e.stayed, leaf_there (sizes c.args.g.now) (g.D.Device.model c.args.device.now).shown c.args.owner.now.handle (copied c.args.owner.now.slot) c.args.leaf.0 _ _ _ c.number-at.ensures e.bytes (sym c.if-not-is_body.ensures) c.leaf_in.ensures)
