use Rattle.layout.specs.Sizes.{sizes}
use Rattle.walk.specs.Copies.{copied}
use Rattle.walk.proofs.Stills.{says_then}
use Rattle.walk.proofs.Finding.{leaf_says}
use Rattle.walk.proofs.entry.find_leaf.Goals as goal

pub returns : goal.returns
returns g c =
    let e = c.in_ok-copy.ensures in
    says_then c.args.g.now c.find_in_leaf.result _ _ _ _ (g.D.Device.model c.find_in_leaf.new.device) e.0
    (leaf_says (sizes c.args.g.now) (g.D.Device.model c.args.device.now).shown _ c.args.folder.now.handle c.args.name.now (copied c.args.folder.now.slot) c.args.leaf.0 _ c.in-Some.copy c.cells.result.now c.cells.ensures.value e.0.kept.shown c.requires c.in-Some.is e.1)
    c.find_in_leaf.ensures
