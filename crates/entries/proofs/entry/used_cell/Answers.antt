use Rattle.std.proofs.Common.{sym}
use Rattle.layout.specs.Sizes.{sizes}
use Rattle.entries.proofs.Entries.{whole, bad_head, bad_name}
use Rattle.entries.proofs.entry.used_cell.Goals as goal

pub returns-then-not-entry_head_fits : goal.returns-then-not-entry_head_fits
returns-then-not-entry_head_fits c =
    bad_head (sizes c.args.g.now) c.args.bytes.now _ c.read_child-child.ensures (sym c.if-not-entry_head_fits.ensures)

pub returns-then-not-is_plain : goal.returns-then-not-is_plain
returns-then-not-is_plain c = bad_name (sizes c.args.g.now) c.args.bytes.now (sym c.if-not-is_plain.ensures)

pub returns : goal.returns
returns c =
    whole (sizes c.args.g.now) c.args.bytes.now _ c.read_child-child.ensures (sym c.if-not-entry_head_fits.ensures) (sym c.if-not-is_plain.ensures)
