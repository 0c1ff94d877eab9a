use Rattle.moves.proofs.Lines.{room_stays}
use Rattle.moves.proofs.Follows.{create_marks, write_marks, shorten_marks, remove_marks}
use Rattle.moves.proofs.marks_follow.Goals as goal

pub returns : goal.returns
returns c = record { create = create_marks; write = write_marks; shorten = shorten_marks; remove = remove_marks; room = room_stays }
