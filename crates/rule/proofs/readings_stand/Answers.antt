use Rattle.rule.proofs.Answered.{find_means, path_means, status_means, read_means}
use Rattle.rule.proofs.Lines.{list_means, damage_means}
use Rattle.rule.proofs.readings_stand.Goals as goal

pub returns : goal.returns
returns c = record { find = find_means; path = path_means; status = status_means; read = read_means; list = list_means; damage = damage_means }
