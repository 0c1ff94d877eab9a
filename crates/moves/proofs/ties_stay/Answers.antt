use Rattle.moves.proofs.Starts.{tied_starts, format_ties}
use Rattle.moves.proofs.Stays.{create_stays_tied, write_stays_tied, shorten_stays_tied, remove_stays_tied}
use Rattle.moves.proofs.ties_stay.Goals as goal

pub returns : goal.returns
returns c = record { survey = tied_starts; format = format_ties; create = create_stays_tied; write = write_stays_tied; shorten = shorten_stays_tied; remove = remove_stays_tied }
