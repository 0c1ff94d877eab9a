use Rattle.std.proofs.Common.{sym, ◌∙◌}
use Rattle.marks.specs.Marks.{unmarked}
use Rattle.marks.proofs.Scans.{first_here, first_on}
use Rattle.marks.proofs.places.first_free.Goals as goal

pub returns-then-is_free : goal.returns-then-is_free
returns-then-is_free g c = sym (c.loop-at.invariant ∙ first_here (unmarked c.args.marks.now) c.loop-at.at c.args.high c.loop-at-test.true (sym c.if-is_free.ensures))

pub loop-at-preserved : goal.loop-at-preserved
loop-at-preserved g c = c.loop-at.invariant ∙ first_on (unmarked c.args.marks.now) c.loop-at.at c.args.high c.loop-at-test.true (sym c.if-is_free.ensures)
