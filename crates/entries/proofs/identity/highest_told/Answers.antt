use Rattle.std.proofs.Common.{ap, ◌∙◌}
use Rattle.layout.specs.Identities.{told}
use Rattle.layout.specs.Sizes.{sizes}
use Rattle.entries.proofs.Highest.{above_from, attained_from}
use Rattle.entries.proofs.identity.highest_told.Goals as goal

pub returns : goal.returns
returns c =
    let is = c.tell.ensures ∙ ap (told (sizes c.args.g.now)) c.parse.ensures.means in
    record {
      told = is;
      above = above_from (sizes c.args.g.now) _ c.tell.result is;
      attained = attained_from (sizes c.args.g.now) _ c.tell.result is;
    }
