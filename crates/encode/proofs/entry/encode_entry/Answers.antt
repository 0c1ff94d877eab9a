use Rattle.std.proofs.Common.{sym, ap, ◌∙◌}
use Rattle.layout.specs.Format.{entry_of}
use Rattle.layout.proofs.Back.{read_as_entry}
use Rattle.encode.proofs.entry.encode_entry.Goals as goal

pub returns : goal.returns
returns c =
    let good = sym c.if-not-name_fits.ensures in
    let e = rw c.entry_head.ensures at c.fill.ensures in
    (good, e, λ g lim w. ap (entry_of g) e ∙ read_as_entry c.args.name.now c.args.child.now good g lim w)
