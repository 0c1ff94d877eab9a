use Rattle.rule.proofs.Full.{write_full, create_no_body, create_no_slot}
use Rattle.rule.proofs.full_means_full.Goals as goal

pub returns : goal.returns
returns c = record { write = write_full; create_body = create_no_body; create_slot = create_no_slot }
