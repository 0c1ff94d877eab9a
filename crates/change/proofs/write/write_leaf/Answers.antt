use Rattle.std.proofs.Common.{◌≡◌, ℕ, subst, inl, inr, arith}
use Rattle.layout.proofs.Numbers.{length_numbers}
use Rattle.rule.specs.Agree.{count}
use Rattle.rule.specs.Changing.{write}
use Rattle.walk.specs.Copies.{copied}
use Rattle.change.specs.Plans.{card_view, Decides, WritePlanned}
use Rattle.change.proofs.Writes.{past_count, past_limit}
use Rattle.change.proofs.write.write_leaf.Goals as goal

pub returns-then-leaf-file : goal.returns-then-leaf-file
returns-then-leaf-file c m w =
    let size = length_numbers c.args.file.now.slot.count c.args.file.now.slot.numbers in
    c.replace_leaf.ensures m w (omega (arith, size))

pub returns-then-leaf-file-2 : goal.returns-then-leaf-file-2
returns-then-leaf-file-2 c m w =
    let size = length_numbers c.args.file.now.slot.count c.args.file.now.slot.numbers in
    elim c.then-leaf-file-2.either [
      | inl l ↦ past_count _ _ _ _ _ _ _ _ w (omega (arith, size))
      | inr l ↦ past_limit _ _ _ _ _ _ _ _ w (omega arith)
    ]

pub returns : goal.returns
returns c m w =
    let size = length_numbers c.args.file.now.slot.count c.args.file.now.slot.numbers in
    let here : count (copied c.args.file.now.slot) ≡ c.args.leaf.0 = omega (arith, size) in
    subst (λ (k : ℕ). Decides c.append_leaf.result (write c.args.file.now.handle k c.args.bytes.now (card_view c.args.known.now.geometry c.args.known.now.memory) m.shown) (WritePlanned c.args.known.now.geometry m c.args.known.now.memory c.args.file.now.handle k c.args.bytes.now)) here
    (c.append_leaf.ensures m w (omega (arith, size)))
