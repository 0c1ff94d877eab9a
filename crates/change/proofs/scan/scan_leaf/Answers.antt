use Rattle.std.proofs.Common.{subst}
use Rattle.walk.specs.Copies.{copied, LeafIs}
use Rattle.walk.specs.Still.{shows}
use Rattle.change.proofs.Scanning.{leaf_copied, leaf_scanned}
use Rattle.change.proofs.scan.scan_leaf.Goals as goal

pub returns : goal.returns
returns g c =
    let v = shows c.args.known.now.geometry (g.D.Device.model c.args.device.now) in
    let e = c.in_ok-copy.ensures in
    let is = subst (LeafIs v c.args.folder.now.handle (copied c.args.folder.now.slot) c.args.leaf.0) c.in-Some.is e.1 in
    let w = leaf_copied _ _ _ _ c.in-Some.copy c.requires is in
    (e.0, leaf_scanned _ _ _ _ _ _ c.in-Some.copy w c.args.sought c.args.before _ _ c.spot_in-found.ensures c.vacant_in-vacant.ensures)
