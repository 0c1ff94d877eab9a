use Rattle.std.proofs.Common.{refl, arith}
use Rattle.listing.proofs.Listing.{fill_more}
use Rattle.listing.proofs.list.fill_lines.Goals as goal

pub loop-place-preserved : goal.loop-place-preserved
loop-place-preserved g c = fill_more _ c.loop-place.lines _ c.loop-place.place-index c.args.line (omega arith) c.loop-place.invariant refl
