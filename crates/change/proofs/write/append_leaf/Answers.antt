use Rattle.std.proofs.Common.{ℕ, sym, ap, ◌∙◌}
use Rattle.layout.specs.Format.{file_body, back}
use Rattle.layout.proofs.Numbers.{length_numbers}
use Rattle.rule.specs.Changing.{store}
use Rattle.change.proofs.Checks.{low_slot}
use Rattle.change.proofs.Writes.{no_body, low_body, kept_at, at_end}
use Rattle.change.proofs.write.append_leaf.Goals as goal

pub returns-in_default : goal.returns-in_default
returns-in_default c m w few =
    no_body _ _ _ _ _ _ _ w few _ c.free_body.ensures c.in_default.is

pub returns : goal.returns
returns c m w few =
    let size = length_numbers c.args.file.now.slot.count c.args.file.now.slot.numbers in
    let low = low_body _ _ c.args.known.now.memory _ _ _ _ w few _ c.free_body.ensures _ c.in-Some.is in
    at_end _ _ _ _ _ _ _ w few _ c.free_body.ensures _ c.in-Some.is
    _ (sym size) _ _ (c.file_put-body.ensures w.short ∙ ap (λ (k : ℕ). store c.in-Some.block.0 (file_body (back c.args.file.now.handle k) c.args.bytes.now)) (sym size))
    (c.grown_put-owner.ensures (low_slot c.args.known.now.geometry m _ _ _ w.slot) few)
    _ (ap (kept_at c.args.known.now.memory) (c.after.ensures low)) _ c.planned.ensures
