use Rattle.card.proofs.Progresses.{learned_none}
use Rattle.card.proofs.progress.Progress.start.Goals as goal

pub returns-clause-learned : goal.returns-clause-learned
returns-clause-learned c = learned_none c.begin.result c.begin.ensures
