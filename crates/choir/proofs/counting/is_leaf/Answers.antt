use Rattle.std.proofs.Common.{rules, length, ◌≤◌}
use Rattle.choir.proofs.Leaves.{leaf_here, no_leaf}
use Rattle.choir.proofs.counting.is_leaf.Goals as goal

pub returns-then-k-leaves : goal.returns-then-k-leaves
returns-then-k-leaves c =
    leaf_here c.args.leaves.now c.args.k c.index-leaves-k.result c.args.bytes.now c.same.result (search rules) c.index-leaves-k.is (rw c.deref.ensures.value at c.same.ensures)

pub returns-else-k-leaves : goal.returns-else-k-leaves
returns-else-k-leaves c =
    let past : length c.args.leaves.now ≤ c.args.k = search rules in
    (search rules, λ e. absurd (no_leaf c.args.leaves.now c.args.k c.args.bytes.now past e))
