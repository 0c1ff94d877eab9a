use Rattle.rule.proofs.Accepted.{create_accepted, write_accepted, shorten_accepted, remove_accepted}
use Rattle.rule.proofs.calls_are_accepted.Goals as goal

pub returns : goal.returns
returns c = record { create = create_accepted; write = write_accepted; shorten = shorten_accepted; remove = remove_accepted }
