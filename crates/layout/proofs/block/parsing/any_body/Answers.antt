use Rattle.layout.specs.Sizes.{sizes}
use Rattle.layout.specs.Head.{body_by, body_head_at}
use Rattle.layout.proofs.Parsing.{joined, body_parts}
use Rattle.layout.proofs.block.parsing.any_body.Goals as goal

pub returns : goal.returns
returns c =
    record {
      means = joined (body_by (sizes c.args.g.now) c.args.kind) c.args.block.now _ _ _ (body_head_at c.args.block.now) c.told-block c.body_after.ensures.means c.body_head-head.ensures (body_parts (sizes c.args.g.now) c.args.block.now c.args.kind);
      sized = c.body_after.ensures.sized;
    }
