use Rattle.history.proofs.Invariant.{reads_stand, finds_stand, paths_stand}
use Rattle.history.proofs.Settled.{files_stay}
use Rattle.history.proofs.laws_stand.Goals as goal

pub returns : goal.returns
returns c = record { reads = reads_stand; finds = finds_stand; paths = paths_stand; settled = files_stay }
