use Rattle.moves.proofs.Backs.{written_reads_back}
use Rattle.moves.proofs.writes_read_back.Goals as goal

pub returns : goal.returns
returns c = written_reads_back
