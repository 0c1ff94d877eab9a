use Rattle.std.proofs.Common.{refl}
use Rattle.screen.proofs.Screens.{leaf_unnamed, leaf_short}
use Rattle.screen.proofs.leaf.look.Goals as goal

pub returns-in-Err : goal.returns-in-Err
returns-in-Err c = (leaf_unnamed c.args.path.now _ _ _ _ c.in-Err.e c.in-Err.ensures, refl)

pub returns-then-out-lt496 : goal.returns-then-out-lt496
returns-then-out-lt496 c = (leaf_short c.args.path.now _ _ _ _ c.in_default.ensures c.if-out-lt496.true, refl)
