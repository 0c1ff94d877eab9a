use Rattle.rule.proofs.Means.{found_is_found, good_is_good, reached_is_reached, held_is_held}
use Rattle.rule.proofs.meaning_stands.Goals as goal

pub returns : goal.returns
returns c = record { found = found_is_found; good = good_is_good; reached = reached_is_reached; held = held_is_held }
