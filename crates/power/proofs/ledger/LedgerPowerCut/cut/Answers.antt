use Rattle.power.specs.View.{view}
use Rattle.power.proofs.Ledgers.{cut_left, cut_after}
use Rattle.power.proofs.ledger.LedgerPowerCut.cut.Goals as goal

pub returns-clause-answer : goal.returns-clause-answer
returns-clause-answer c =
    cut_left _ _ _ (cut_after _ (view c.args.self.now) (view c.land_all.new.self) _ _ c.land_all.ensures c.clear.ensures.items c.clear.ensures.capacity)
