use Rattle.std.proofs.Common.{◌∙◌}
use Rattle.layout.specs.Format.{slotted}
use Rattle.layout.proofs.Back.{read_from}
use Rattle.encode.specs.Heads.{slot_record, plain}
use Rattle.encode.proofs.Numbers.{slot_block}
use Rattle.encode.proofs.block.encode_slot.Goals as goal

pub returns : goal.returns
returns c =
    let few = c.if-numbers-gt64.false in
    let e = (rw (c.slot_head-head.ensures, c.encode_numbers.ensures) at c.fill.ensures) ∙ slot_block c.args.kind c.args.identity.0 c.args.parent.now c.args.numbers.now few in
    record {
      bytes = (few, e);
      read = read_from (slotted (slot_record c.args.kind c.args.identity.0 c.args.parent.now (plain c.args.numbers.now))) _ e;
    }
