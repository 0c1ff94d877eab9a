use Rattle.std.proofs.Common.{ℕ, ◌+◌, ◌-◌, sym, ap, ◌∙◌, arith}
use Rattle.layout.specs.Format.{back}
use Rattle.layout.proofs.Numbers.{length_numbers}
use Rattle.marks.specs.Marks.{without, released}
use Rattle.marks.specs.declared.mark.Marks.{Marks}
use Rattle.rule.specs.Agree.{from}
use Rattle.walk.specs.Copies.{copied}
use Rattle.change.proofs.Dropping.{one_released, all_released}
use Rattle.change.proofs.drop.drop_leaves.Goals as goal

pub returns : goal.returns
returns c =
    let size = length_numbers c.args.node.now.slot.count c.args.node.now.slot.numbers in
    sym (all_released c.loop-k.marks c.args.node.now.handle (copied c.args.node.now.slot) c.loop-k.k c.args.node.now.slot.count (omega arith))
    ∙ sym c.loop-k.invariant
    ∙ ap (λ (n : ℕ). without c.args.marks.now c.args.node.now.handle (copied c.args.node.now.slot) (from c.args.n.0 (n - c.args.n.0))) (sym size)

pub loop-k-preserved : goal.loop-k-preserved
loop-k-preserved c =
    let here = c.release.ensures ∙ ap (λ (b : ℕ). released c.loop-k.marks b (back c.args.node.now.handle c.loop-k.k)) c.number.ensures in
    c.loop-k.invariant
    ∙ one_released c.loop-k.marks c.args.node.now.handle (copied c.args.node.now.slot) c.loop-k.k c.args.node.now.slot.count (omega arith)
    ∙ ap (λ (ms : Marks). without ms c.args.node.now.handle (copied c.args.node.now.slot) (from (c.loop-k.k + 1) (c.args.node.now.slot.count - (c.loop-k.k + 1)))) (sym here)
