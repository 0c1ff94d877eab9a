use Rattle.layout.specs.Format.{encode, cover}
use Rattle.layout.specs.Sizes.{sizes}
use Rattle.layout.proofs.Back.{read_from}
use Rattle.encode.proofs.block.encode_cover.Goals as goal

pub returns : goal.returns
unfolding encode
returns c =
    let e = rw c.cover_head.ensures at c.fill.ensures in
    record { bytes = e; read = read_from (cover (sizes c.args.g.now)) _ e }
