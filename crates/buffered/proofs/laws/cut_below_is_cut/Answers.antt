use Rattle.buffered.proofs.Buffers.{cut_below_is_cut}
use Rattle.buffered.proofs.laws.cut_below_is_cut.Goals as goal

pub returns : goal.returns
returns c = cut_below_is_cut
