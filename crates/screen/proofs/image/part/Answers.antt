use Rattle.screen.proofs.Images.{part_is}
use Rattle.screen.proofs.image.part.Goals as goal

pub returns : goal.returns
returns c = part_is c.args.image.now c.args.b c.min-start.result c.min-end.result c.min-start.ensures c.min-end.ensures
