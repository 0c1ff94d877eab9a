use Rattle.rule.proofs.Blocks.{create_once, write_once, shorten_once, remove_once, format_once, puts_show}
use Rattle.rule.proofs.blocks_go_once.Goals as goal

pub returns : goal.returns
returns c = record { create = create_once; write = write_once; shorten = shorten_once; remove = remove_once; format = format_once; shows = puts_show }
