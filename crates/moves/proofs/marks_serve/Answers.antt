use Rattle.moves.proofs.Gained.{marks_serve}
use Rattle.moves.proofs.marks_serve.Goals as goal

pub returns : goal.returns
returns c = marks_serve
