use Rattle.std.proofs.Common.{◌≡◌, ◌<◌, length, set, ◌∙◌, arith, rules}
use Rattle.std.proofs.lemmas.List.{length-set}
use Rattle.layout.specs.Head.{cells}
use Rattle.layout.proofs.Cells.{length_cells}
use Rattle.layout.proofs.Back.{folder_read_from, cells_whole, set_whole, changed_at}
use Rattle.encode.proofs.Cells.{changed_block}
use Rattle.encode.proofs.block.encode_folder_change.Goals as goal

pub returns : goal.returns
returns c =
    let back = c.args.back.now in
    let z = c.args.payload.now in
    let k = c.args.place in
    let cell = c.args.cell.now in
    let whole : length z ≡ 480 = c.in_ok-block.ensures.bytes.0 in
    let within : k < 15 = omega arith in
    let size : length cell ≡ 32 = search rules in
    let e = changed_block back z cell _ _ k whole within size c.in_ok-block.ensures.bytes.1 c.copy_from_slice.ensures.after in
    let len = length_cells z in
    record {
      bytes = ((whole, within), e);
      read = (
        folder_read_from back (set (cells z) k cell) _ (length-set (cells z) k cell ∙ len) (set_whole (cells z) k cell size (cells_whole z whole)) e,
        changed_at k cell (cells z) (omega arith),
      );
    }
