use Rattle.device.proofs.Plains.{plain_settled}
use Rattle.device.proofs.plain.PlainDevice.sync.Goals as goal

pub returns-clause-answer : goal.returns-clause-answer
returns-clause-answer c = plain_settled c.args.self.now.image.now
