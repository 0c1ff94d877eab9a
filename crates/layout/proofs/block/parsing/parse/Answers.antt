use Rattle.std.proofs.Common.{sym}
use Rattle.layout.specs.Sizes.{sizes, region_view}
use Rattle.layout.specs.View.{view}
use Rattle.layout.proofs.Again.{read_again}
use Rattle.layout.proofs.Parsing.{placed}
use Rattle.layout.proofs.block.parsing.parse.Goals as goal

pub returns : goal.returns
returns c =
    let means = placed (sizes c.args.g.now) c.args.block.now c.args.at.0 (region_view c.region.result) _ c.region.ensures c.in_region.ensures.means in
    record {
      means = means;
      ranged = read_again (sizes c.args.g.now) c.args.at.0 c.args.block.now c.fits-block c.told-block (view c.in_region.result) (sym means);
      sized = c.in_region.ensures.sized;
    }
