use Rattle.history.proofs.Invariant.{cards_open, cards_keep_true}
use Rattle.history.proofs.cards_stand.Goals as goal

pub returns : goal.returns
returns c = record { opens = cards_open; keeps = cards_keep_true }
