use Rattle.history.proofs.Example.{it_happens}
use Rattle.history.proofs.example_happens.Goals as goal

pub returns : goal.returns
returns c = it_happens
