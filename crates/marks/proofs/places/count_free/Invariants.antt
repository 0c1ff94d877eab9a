use Rattle.std.proofs.Common.{◌≡◌, take}
use Rattle.std.specs.List.{count_by}
use Rattle.marks.specs.Marks.{is_unmarked}
use Rattle.marks.proofs.places.count_free.Given as goal

abbrev pub invariant-loop-mark : goal.invariant-loop-mark
invariant-loop-mark g l = l.count ≡ count_by is_unmarked (take l.mark-index l.mark-items)
