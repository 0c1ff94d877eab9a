use Rattle.std.proofs.Common.{None}
use Rattle.survey.proofs.Begins.{row_of}
use Rattle.survey.proofs.slots.Slots.new.Goals as goal

pub returns-clause-known : goal.returns-clause-known
returns-clause-known c s = row_of 256 s None
