use Rattle.std.proofs.Common.{refl}
use Rattle.trial.proofs.Telling.{call_told}
use Rattle.trial.proofs.calling.on_opened.Goals as goal

pub returns-in-Step : goal.returns-in-Step
returns-in-Step g c = call_told c.in-Step.is _ _ refl c.step-answer.ensures.surveys

pub returns-in-End : goal.returns-in-End
returns-in-End g c = call_told c.in-End.is _ _ refl c.end.ensures.ends

pub returns-in-Cut : goal.returns-in-Cut
returns-in-Cut g c = call_told c.in-Cut.is _ _ refl (c.cut.ensures, refl)
