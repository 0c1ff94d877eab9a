use Rattle.std.proofs.Common.{◌≤◌, ◌<◌, ◌/◌, [], length, ap, ◌∙◌, get_or, arith}
use Rattle.layout.specs.Format.{le16}
use Rattle.layout.proofs.Numbers.{length_numbers, pair_at}
use Rattle.layout.proofs.block.Slot.number.Goals as goal

pub returns-in_err-pair : goal.returns-in_err-pair
returns-in_err-pair c =
    let count = length_numbers (length c.args.self.now.numbers.now / 2) c.args.self.now.numbers.now in
    let past : length c.as_chunks.result.0.now ≤ c.args.leaf.0 = c.in_err-pair.ensures.lookup.3 in
    rw c.from_residual.ensures (omega (arith, count))

pub returns : goal.returns
returns c =
    let count = length_numbers (length c.args.self.now.numbers.now / 2) c.args.self.now.numbers.now in
    let found = c.in_ok-pair.ensures.lookup.3 in
    let within : c.args.leaf.0 < length c.args.self.now.numbers.now / 2 = omega (arith, found.0) in (
      omega (arith, count),
      c.number16.ensures ∙ ap (λ p. le16 p 0) (found.1 [] ∙ ap (λ ps. get_or ps c.args.leaf.0 []) c.as_chunks.ensures.front)
          ∙ pair_at (length c.args.self.now.numbers.now / 2) c.args.leaf.0 c.args.self.now.numbers.now within,
    )
