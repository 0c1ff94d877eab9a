use Rattle.std.proofs.Common.{arith}
use Rattle.power.proofs.Logs.{shows_is}
use Rattle.power.proofs.ledger.Ledger.content.Goals as goal

pub returns : goal.returns
returns c =
    let self = c.args.self.now in
    shows_is self.settled.items self.log.items c.args.at (omega (arith, self.settled.ok.0)) _ c.index.ensures _
    (rw c.deref.ensures.value at c.newest.ensures)
