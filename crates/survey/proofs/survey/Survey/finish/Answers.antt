use Rattle.std.proofs.Common.{◌<◌, rules}
use Rattle.layout.specs.Sizes.{sizes}
use Rattle.survey.proofs.Finishes.{finished}
use Rattle.survey.proofs.survey.Survey.finish.Goals as goal

pub returns-clause-agrees : goal.returns-clause-agrees
returns-clause-agrees c v sofar =
    let room : c.args.g.now.slots < c.args.g.now.blocks = search rules in
    finished (sizes c.args.g.now) v c.args.self.now sofar room c.marks-slots.result c.mark_bodies-bodies.result c.marks-slots.ensures c.mark_bodies-bodies.ensures
