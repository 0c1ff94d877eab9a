use Rattle.std.proofs.Common.{◌∙◌}
use Rattle.encode.proofs.Numbers.{one_more}
use Rattle.encode.proofs.block.encode_numbers.Goals as goal

pub loop-k-preserved : goal.loop-k-preserved
loop-k-preserved c =
    one_more c.args.numbers.now c.loop-k.k _ c.loop-k.bytes _ c.loop-k-test.true c.loop-k.invariant (c.copy_from_slice.ensures.after ∙ c.to_le_bytes.ensures)
