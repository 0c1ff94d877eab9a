use Rattle.survey.proofs.Begins.{begun}
use Rattle.survey.proofs.survey.begin.Goals as goal

pub returns : goal.returns
returns c g v apart = begun g v apart c.new.result c.new.ensures.known c.new.ensures.places
