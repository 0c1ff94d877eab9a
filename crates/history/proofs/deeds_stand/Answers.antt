use Rattle.history.proofs.Counts.{calls_count}
use Rattle.history.proofs.deeds_stand.Goals as goal

pub returns : goal.returns
returns c = calls_count
