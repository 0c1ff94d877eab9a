use Rattle.marks.proofs.Telling.{marks_tell}
use Rattle.marks.proofs.marks_tell.Goals as goal

pub returns : goal.returns
returns c = marks_tell
