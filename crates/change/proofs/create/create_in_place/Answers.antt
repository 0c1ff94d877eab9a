use Rattle.change.proofs.Creates.{low_slot, in_place, kept_slot}
use Rattle.change.proofs.Removes.{cell_changed}
use Rattle.change.proofs.create.create_in_place.Goals as goal

pub returns : goal.returns
returns c m n q w o x =
    let low = low_slot _ _ _ c.args.kind _ _ _ _ _ _ w in
    let entry = cell_changed _ _ _ q c.args.spot.now c.args.cell.now c.cell_put-entry.result x (c.cell_put-entry.ensures x.inside) in
    in_place _ _ _ _ _ _ _ _ _ _ w q o _ _ (c.new_put-own.ensures low) entry
    _ (kept_slot c.args.child.now _ _ (c.after.ensures low)) _ c.planned.ensures
