use Rattle.std.proofs.Common.{sym, arith}
use Rattle.std.proofs.lemmas.List.{set_past}
use Rattle.marks.proofs.places.set_mark.Goals as goal

pub returns-else-i-marks : goal.returns-else-i-marks
returns-else-i-marks g c = sym (set_past c.args.marks.now c.args.at c.args.mark (omega arith))
