use Rattle.marks.proofs.Scans.{all_none}
use Rattle.marks.proofs.mark.Marks.none.Goals as goal

pub returns : goal.returns
returns c = record { slots = all_none 256; bodies = all_none 4096 }
