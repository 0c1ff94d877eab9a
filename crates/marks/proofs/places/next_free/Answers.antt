use Rattle.std.proofs.Common.{sym, ◌∙◌}
use Rattle.marks.specs.Marks.{unmarked}
use Rattle.marks.proofs.Scans.{round_left, round_right}
use Rattle.marks.proofs.places.next_free.Goals as goal

pub returns-then-is_some : goal.returns-then-is_some
returns-then-is_some g c =
    round_left (unmarked c.args.marks.now) c.args.low c.args.high c.args.at c.cursor_within-start.result c.cursor_within-start.ensures
    c.first_free-after.result c.first_free-after.ensures (sym c.is_some.ensures ∙ c.if-is_some.true)

pub returns : goal.returns
returns g c =
    round_right (unmarked c.args.marks.now) c.args.low c.args.high c.args.at c.cursor_within-start.result c.cursor_within-start.ensures
    c.first_free-after.result c.first_free.result c.first_free-after.ensures (sym c.is_some.ensures ∙ c.if-is_some.false) c.first_free.ensures
