use Rattle.std.proofs.Common.{List, ap, refl, ◌∙◌}
use Rattle.layout.specs.Format.{Cell, encode, folder_body}
use Rattle.change.proofs.Numbers.{put_same, one_cell}
use Rattle.change.proofs.blocks.first_put.Goals as goal

pub returns : goal.returns
returns c =
    let is = rw c.unwrap.ensures at c.encode_folder_change.ensures.bytes in
    put_same c.args.at _ _ _ refl (is.1 ∙ ap (λ (cs : List Cell). encode (folder_body c.args.line.now cs)) (one_cell c.args.cell.now))
