use Rattle.std.proofs.Common.{◌/◌, length, ap, ◌∙◌}
use Rattle.layout.specs.Format.{cells_of}
use Rattle.layout.specs.Head.{cells}
use Rattle.layout.proofs.Cells.{cells_are}
use Rattle.entries.proofs.entry.cells.Goals as goal

pub returns : goal.returns
unfolding cells
returns c =
    let whole = c.as_chunks.ensures.front ∙ cells_are (length c.args.payload.now / 32) c.args.payload.now in
    record { whole = whole; leaf = λ len. whole ∙ ap (λ n. cells_of (n / 32) c.args.payload.now) len }
