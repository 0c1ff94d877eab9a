use Rattle.std.proofs.Common.{sym}
use Rattle.layout.proofs.Numbers.{length_numbers}
use Rattle.layout.proofs.block.Slot.count.Goals as goal

pub returns : goal.returns
returns c = sym (length_numbers _ c.args.self.now.numbers.now)
