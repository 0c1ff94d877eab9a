use Rattle.std.proofs.Common.{ℕ, List, ap, ◌∙◌}
use Rattle.rule.specs.Changing.{store_slot, with_numbers}
use Rattle.walk.specs.Copies.{copied}
use Rattle.change.proofs.Numbers.{cut_is}
use Rattle.change.proofs.blocks.cut_put.Goals as goal

pub returns : goal.returns
returns c at low few =
    let s = copied c.args.slot.now in
    c.slot_put.ensures at
    ∙ ap (λ (ns : List ℕ). store_slot c.args.at.0 (with_numbers s ns)) (cut_is s.numbers _ c.args.n _ c.numbers_of-all.ensures low few c.min-kept.ensures)
