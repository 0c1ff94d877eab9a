use Rattle.std.proofs.Common.{ℕ, List, ap, ◌∙◌, arith}
use Rattle.layout.proofs.Numbers.{length_numbers}
use Rattle.rule.specs.Changing.{store_slot, with_numbers}
use Rattle.walk.specs.Copies.{copied}
use Rattle.change.proofs.Numbers.{grown_is}
use Rattle.change.proofs.blocks.grown_put.Goals as goal

pub returns : goal.returns
returns c at few =
    let s = copied c.args.slot.now in
    let size = length_numbers c.args.slot.now.count c.args.slot.now.numbers in
    c.slot_put.ensures at
    ∙ ap (λ (ns : List ℕ). store_slot c.args.at.0 (with_numbers s ns)) (grown_is s.numbers _ c.args.leaf c.args.slot.now.count _ c.numbers_of-all.ensures size (omega (arith, size)) c.min-last.ensures)
