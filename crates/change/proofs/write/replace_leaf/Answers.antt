use Rattle.std.proofs.Common.{sym, arith}
use Rattle.change.proofs.Checks.{few_leaves}
use Rattle.change.proofs.Writes.{not_good, in_place}
use Rattle.change.proofs.write.replace_leaf.Goals as goal

pub returns-then-not-is_leaf : goal.returns-then-not-is_leaf
returns-then-not-is_leaf c m w l =
    let few = few_leaves c.args.known.now.geometry m _ _ _ w.slot in
    not_good _ _ _ _ _ _ _ _ w l (omega (arith, few)) _ c.number-at.ensures (sym c.if-not-is_leaf.ensures)

pub returns : goal.returns
returns c m w l =
    let few = few_leaves c.args.known.now.geometry m _ _ _ w.slot in
    in_place _ _ _ _ _ _ _ _ w l (omega (arith, few)) _ c.number-at.ensures (sym c.if-not-is_leaf.ensures) _ (c.file_put-body.ensures w.short) _ c.planned.ensures
