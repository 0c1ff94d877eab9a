use Rattle.layout.specs.Format.{encode, blank}
use Rattle.layout.proofs.Back.{read_from}
use Rattle.encode.proofs.block.encode_blank.Goals as goal

pub returns : goal.returns
unfolding encode
returns c = record { bytes = c.fill.ensures; read = read_from blank _ c.fill.ensures }
