use Rattle.rule.proofs.Plans.{create_means, write_means, shorten_means, remove_means}
use Rattle.rule.proofs.Blocks.{format_means}
use Rattle.rule.proofs.plans_stand.Goals as goal

pub returns : goal.returns
returns c = record { creates = create_means; writes = write_means; shortens = shorten_means; removes = remove_means; formats = format_means }
