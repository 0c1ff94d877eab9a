use Rattle.std.proofs.Common.{sym, refl}
use Rattle.buffered.proofs.Buffers.{sent_from, halted_from}
use Rattle.buffered.proofs.buffered.Buffered.send_down.Goals as goal

pub returns-then-is_err : goal.returns-then-is_err
returns-then-is_err g c =
    (refl, halted_from _ _ _ _ c.requires.0 _ (sym c.if-is_err.ensures.value) c.write.ensures)

pub returns : goal.returns
returns g c = sent_from _ _ _ _ c.requires.0 _ (sym c.if-is_err.ensures.value) c.requires.1 c.write.ensures
