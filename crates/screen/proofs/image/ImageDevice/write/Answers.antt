use Rattle.std.proofs.Common.{sym, refl, inr, arith}
use Rattle.screen.proofs.Images.{write_torn, write_same}
use Rattle.screen.proofs.image.ImageDevice.write.Goals as goal

pub returns-then-is_off-2 : goal.returns-then-is_off-2
returns-then-is_off-2 c =
    (refl, inr (write_torn c.args.self.now.bytes.now c.args.self.now.last (record { block = c.args.at; bytes = c.args.bytes.now }) (omega arith) (sym c.if-is_off-2.ensures)))

pub returns : goal.returns
returns c =
    write_same c.args.self.now.bytes.now c.args.self.now.last (record { block = c.args.at; bytes = c.args.bytes.now }) (omega arith) (sym c.if-is_off.ensures)
    (sym c.if-is_off-2.ensures)
