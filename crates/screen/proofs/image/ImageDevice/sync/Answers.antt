use Rattle.std.proofs.Common.{sym}
use Rattle.screen.proofs.Images.{on_settled}
use Rattle.screen.proofs.image.ImageDevice.sync.Goals as goal

pub returns : goal.returns
returns c = on_settled c.args.self.now.bytes.now c.args.self.now.last (sym c.if-is_off.ensures)
