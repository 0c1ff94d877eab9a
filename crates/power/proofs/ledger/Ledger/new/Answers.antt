use Rattle.std.proofs.Common.{◌<◌, replicate, arith}
use Rattle.power.proofs.Ledgers.{fresh_items, fresh}
use Rattle.power.proofs.ledger.Ledger.new.Goals as goal

pub returns : goal.returns
returns c =
    let log = c.in_ok-with_capacity.ensures in
    let zeros = fresh_items c.args.count c.new-settled.result.len (replicate 512 0) _ _ c.new-settled.ensures.items c.new-settled.ensures.len c.in_ok-resize.ensures.items in
    let small : c.args.count < 65536 = omega arith in
    fresh c.args.count c.args.log _ _ _ small zeros log.items log.capacity
