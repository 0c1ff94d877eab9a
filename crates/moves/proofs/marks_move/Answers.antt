use Rattle.moves.proofs.Starts.{format_moves}
use Rattle.moves.proofs.Joins.{create_moves, write_moves}
use Rattle.moves.proofs.Leaves.{shorten_moves, remove_moves}
use Rattle.moves.proofs.marks_move.Goals as goal

pub returns : goal.returns
returns c = record { format = format_moves; create = create_moves; write = write_moves; shorten = shorten_moves; remove = remove_moves }
