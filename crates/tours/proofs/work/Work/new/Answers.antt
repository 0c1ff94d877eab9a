use Rattle.std.proofs.Common.{sym}
use Rattle.tours.proofs.Ticks.{ticks_none, none_listed}
use Rattle.tours.proofs.work.Work.new.Goals as goal

pub invariant_of-result-clause-counted : goal.invariant_of-result-clause-counted
invariant_of-result-clause-counted c = sym (ticks_none 256)

pub invariant_of-result-clause-listed : goal.invariant_of-result-clause-listed
invariant_of-result-clause-listed c = none_listed 256 _
