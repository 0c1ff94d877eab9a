use Rattle.std.proofs.Common.{arith}
use Rattle.layout.specs.Format.{encode, file_body}
use Rattle.layout.proofs.Back.{read_from}
use Rattle.encode.proofs.block.encode_file_body.Goals as goal

pub returns : goal.returns
unfolding encode
returns c =
    record {
      bytes = (omega arith, c.encode_body.ensures);
      read = read_from (file_body c.args.back.now c.args.bytes.now) _ c.encode_body.ensures;
    }
