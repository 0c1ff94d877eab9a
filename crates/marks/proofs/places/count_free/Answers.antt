use Rattle.std.proofs.Common.{◌-◌, drop, take, sym, ap, ◌∙◌, arith}
use Rattle.std.specs.List.{count_by}
use Rattle.std.proofs.lemmas.List.{take_all}
use Rattle.marks.specs.Marks.{is_unmarked}
use Rattle.marks.proofs.Scans.{counted}
use Rattle.marks.proofs.places.count_free.Goals as goal

pub returns : goal.returns
returns g c =
    c.loop-mark.invariant
    ∙ ap (count_by is_unmarked) (take_all c.loop-mark.mark-index (take (c.args.high - c.args.low) (drop c.args.low c.args.marks.now)) c.loop-mark-test.false)
    ∙ sym (counted c.args.marks.now c.args.low (c.args.high - c.args.low) (omega arith))
