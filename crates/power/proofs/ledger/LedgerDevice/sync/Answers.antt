use Rattle.power.specs.View.{view}
use Rattle.power.proofs.Ledgers.{settled_sync}
use Rattle.power.proofs.ledger.LedgerDevice.sync.Goals as goal

pub returns-clause-answer : goal.returns-clause-answer
returns-clause-answer c = settled_sync (view c.args.self.now) _ c.if-self.false c.settle.ensures
