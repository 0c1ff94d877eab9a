use Rattle.std.proofs.Common.{arith, rules}
use Rattle.device.proofs.Plains.{plain_written}
use Rattle.device.proofs.plain.PlainDevice.write.Goals as goal

pub returns-clause-answer : goal.returns-clause-answer
returns-clause-answer c = plain_written _ _ _ _ (omega arith) (search rules) (search rules) c.store.ensures
