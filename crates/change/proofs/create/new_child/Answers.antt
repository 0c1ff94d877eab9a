use Rattle.std.proofs.Common.{sym, arith}
use Rattle.change.proofs.Fresh.{no_slot, spent, handle_given}
use Rattle.change.proofs.create.new_child.Goals as goal

pub returns-in_default : goal.returns-in_default
returns-in_default c = sym (no_slot c.args.known.now.geometry c.args.known.now.marks.now c.args.known.now.memory _ c.free_slot.ensures c.in_default.is)

pub returns-then-known-ge-LAST_IDENTITY : goal.returns-then-known-ge-LAST_IDENTITY
returns-then-known-ge-LAST_IDENTITY c = sym (spent c.args.known.now.geometry c.args.known.now.marks.now c.args.known.now.memory _ c.free_slot.ensures c.in-Some.slot c.in-Some.is (omega arith))

pub returns : goal.returns
returns c = sym (handle_given c.args.known.now.geometry c.args.known.now.marks.now c.args.known.now.memory _ c.free_slot.ensures c.in-Some.slot c.in-Some.is (omega arith))
