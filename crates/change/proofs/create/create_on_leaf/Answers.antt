use Rattle.std.proofs.Common.{◌<◌, sym, arith}
use Rattle.layout.proofs.Numbers.{length_numbers}
use Rattle.rule.specs.Agree.{count}
use Rattle.walk.specs.Copies.{copied}
use Rattle.change.proofs.Checks as checks
use Rattle.change.proofs.Creates.{low_slot, full, no_body, low_body, new_leaf, kept_both}
use Rattle.change.proofs.create.create_on_leaf.Goals as goal

pub returns-then-folder-ge64 : goal.returns-then-folder-ge64
returns-then-folder-ge64 c m n w o =
    let size = length_numbers c.args.folder.now.slot.count c.args.folder.now.slot.numbers in
    full _ _ _ _ _ _ _ _ _ _ w o (omega (arith, size))

pub returns-in_default : goal.returns-in_default
returns-in_default c m n w o =
    let size = length_numbers c.args.folder.now.slot.count c.args.folder.now.slot.numbers in
    no_body _ _ _ _ _ _ _ _ _ _ w o (omega (arith, size)) _ c.free_body.ensures c.in_default.is

pub returns : goal.returns
returns c m n w o =
    let size = length_numbers c.args.folder.now.slot.count c.args.folder.now.slot.numbers in
    let few : count (copied c.args.folder.now.slot) < 64 = omega (arith, size) in
    let low = low_slot _ _ _ c.args.kind _ _ _ _ _ _ w in
    let low_b = low_body _ _ _ c.args.kind _ _ _ _ _ _ w o few _ c.free_body.ensures _ c.in-Some.is in
    let low_f = checks.low_slot c.args.known.now.geometry m _ _ _ w.entering.slot in
    new_leaf _ _ _ _ _ _ _ _ _ _ w o few _ c.free_body.ensures _ c.in-Some.is
    _ (sym size) _ _ _ (c.new_put-own.ensures low) c.first_put-entry.ensures (c.grown_put-owner.ensures low_f few)
    _ (kept_both c.args.child.now _ _ _ (c.after.ensures low) (c.after-2.ensures low_b)) _ c.planned.ensures
