use Rattle.std.proofs.Common.{◌≡◌, set, sym, ◌∙◌}
use Rattle.std.proofs.lemmas.List.{set_past}
use Rattle.listing.proofs.Listing.{one_more}
use Rattle.listing.proofs.list.put_line.Goals as goal
use Rattle.listing.proofs.list.put_line.Goals.{then-count-lines, else-count-lines}

pub returns-clause-listed : goal.returns-clause-listed
returns-clause-listed g c =
    let put : c.if-count-lines.lines ≡ set c.args.lines.now c.args.count c.args.line =
    elim c.if-count-lines.branch [
      | then-count-lines w ↦ w.lines-is
      | else-count-lines w ↦ w.lines-is ∙ sym (set_past c.args.lines.now c.args.count c.args.line w.if-count-lines.false)
    ] in
    λ before items h s. one_more before items c.args.lines.now _ c.args.count _ c.args.line h s c.saturating_add.ensures put
