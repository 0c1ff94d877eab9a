use Rattle.std.proofs.Common.{◌≡◌, length, ◌∙◌, arith}
use Rattle.layout.specs.Head.{cells}
use Rattle.layout.proofs.Cells.{length_cells}
use Rattle.layout.proofs.Back.{folder_read_from, cells_whole}
use Rattle.encode.proofs.Cells.{folder_block}
use Rattle.encode.proofs.block.encode_folder_body.Goals as goal

pub returns : goal.returns
returns c =
    let z = c.args.payload.now in
    let whole : length z ≡ 480 = omega arith in
    let e = c.encode_body.ensures ∙ folder_block c.args.back.now z whole in
    record {
      bytes = (whole, e);
      read = folder_read_from c.args.back.now (cells z) _ (length_cells z) (cells_whole z whole) e;
    }
