use Rattle.std.proofs.Common.{refl}
use Rattle.trial.proofs.Telling.{call_told}
use Rattle.trial.proofs.calling.on_closed.Goals as goal

pub returns-in-Open : goal.returns-in-Open
returns-in-Open g c = call_told c.in-Open.is _ _ refl c.open.ensures.opens

pub returns-in-Cut : goal.returns-in-Cut
returns-in-Cut g c = call_told c.in-Cut.is _ _ refl (c.cut.ensures, refl)
