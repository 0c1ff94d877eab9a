use Rattle.std.proofs.Common.{arith}
use Rattle.layout.proofs.Numbers.{length_numbers}
use Rattle.change.proofs.Checks.{few_leaves, low_slot}
use Rattle.change.proofs.Shortens.{past_count, at_count, below}
use Rattle.change.proofs.shorten.shorten_file.Goals as goal

pub returns-then-n-file : goal.returns-then-n-file
returns-then-n-file c m q =
    let size = length_numbers c.args.file.slot.count c.args.file.slot.numbers in
    past_count c.args.known.now.geometry m _ _ _ _ q (omega (arith, size))

pub returns-then-n-file-2 : goal.returns-then-n-file-2
returns-then-n-file-2 c m q =
    let size = length_numbers c.args.file.slot.count c.args.file.slot.numbers in
    at_count _ _ _ _ _ _ q (omega (arith, size)) _ c.planned-plan.ensures

pub returns-else-n-file-2 : goal.returns-else-n-file-2
returns-else-n-file-2 c m q =
    let size = length_numbers c.args.file.slot.count c.args.file.slot.numbers in
    let few = few_leaves c.args.known.now.geometry m _ _ _ q in
    let put = c.cut_put-put.ensures (low_slot c.args.known.now.geometry m _ _ _ q) (omega (arith, size)) (omega (arith, size, few)) in
    below _ _ _ _ _ _ q (omega (arith, size)) _ put _ c.planned-plan-else-n-file-2.ensures
