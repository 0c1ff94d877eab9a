use Rattle.layout.specs.Sizes.{sizes}
use Rattle.layout.specs.Head.{slot_by, slot_head_at}
use Rattle.layout.proofs.Parsing.{joined, slot_parts}
use Rattle.layout.proofs.block.parsing.any_slot.Goals as goal

pub returns : goal.returns
returns c =
    record {
      means = joined (slot_by (sizes c.args.g.now) c.args.kind) c.args.block.now _ _ _ (slot_head_at c.args.block.now) c.told-block c.slot_after.ensures.means c.slot_head-head.ensures (slot_parts (sizes c.args.g.now) c.args.block.now c.args.kind);
      sized = c.slot_after.ensures.sized;
    }
