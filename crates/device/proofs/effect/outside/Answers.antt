use Rattle.std.proofs.Common.{[], sym, ◌∙◌, arith}
use Rattle.device.proofs.Effects.{outside_here, outside_more, outside_none}
use Rattle.device.proofs.effect.outside.Goals as goal

pub returns-then-put-count : goal.returns-then-put-count
returns-then-put-count c =
    sym (c.loop-put.invariant ∙ outside_here c.args.count c.args.puts.now c.loop-put.put-index _ (omega arith) c.if-put-count.true)

pub loop-put-preserved : goal.loop-put-preserved
loop-put-preserved c =
    c.loop-put.invariant ∙ outside_more c.args.count c.args.puts.now c.loop-put.put-index (record { block = record { 0 = 0 }; bytes = [] }) (omega arith) (omega arith)

pub returns : goal.returns
returns c = sym (c.loop-put.invariant ∙ outside_none c.args.count c.args.puts.now c.loop-put.put-index (omega arith))
