use Rattle.rule.proofs.Needed.{fresh_identity_needed, untaken_name_needed, free_body_needed, empty_folder_needed}
use Rattle.rule.proofs.rules_are_needed.Goals as goal

pub returns : goal.returns
returns c = record { identity = fresh_identity_needed; name = untaken_name_needed; body = free_body_needed; folder = empty_folder_needed }
