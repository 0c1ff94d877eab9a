use Rattle.rule.proofs.Answered.{opening_means, steps_agree, survey_covers, cursors_start, create_keeps_range, write_keeps_range}
use Rattle.rule.proofs.surveys_stand.Goals as goal

pub returns : goal.returns
returns c = record { opening = opening_means; steps = steps_agree; covers = survey_covers; start = cursors_start; create = create_keeps_range; write = write_keeps_range }
