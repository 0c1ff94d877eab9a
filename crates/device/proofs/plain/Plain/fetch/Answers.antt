use Rattle.std.proofs.Common.{◌/◌, length}
use Rattle.device.proofs.Plains.{chunk_at}
use Rattle.device.proofs.plain.Plain.fetch.Goals as goal

pub returns : goal.returns
returns c =
    let image = c.args.self.now.image.now in
    rw c.as_chunks.ensures.front (chunk_at 512 (length image / 512) image c.args.b c.requires)
