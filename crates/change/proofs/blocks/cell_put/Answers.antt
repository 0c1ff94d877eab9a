use Rattle.std.proofs.Common.{◌∙◌}
use Rattle.encode.specs.Heads.{Placed}
use Rattle.change.proofs.Numbers.{not_refused, put_same}
use Rattle.change.proofs.blocks.cell_put.Goals as goal

pub returns : goal.returns
returns c low =
    rw (← c.folder_bytes.ensures.value)
    (put_same c.number.result _ _ _ c.number.ensures
    (c.unwrap_or.ensures ∙ not_refused c.encode_folder_change-change.result (Placed c.folder_bytes.result.now c.args.spot.now.place) _ _ c.encode_folder_change-change.ensures.bytes (c.folder_bytes.ensures.count, low)))
