use Rattle.rule.proofs.Free.{free_slot_is_next, free_body_is_next, no_free_slot, no_free_body}
use Rattle.rule.proofs.cursors_stand.Goals as goal

pub returns : goal.returns
returns c = record { slot = free_slot_is_next; body = free_body_is_next; no_slot = no_free_slot; no_body = no_free_body }
