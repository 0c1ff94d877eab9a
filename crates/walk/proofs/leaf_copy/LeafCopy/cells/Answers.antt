use Rattle.std.proofs.Common.{◌≡◌, ℕ, ◌/◌, length, ap, ◌∙◌, rules}
use Rattle.std.specs.Simd.{first_chunks}
use Rattle.walk.proofs.Copying.{chunks_cells}
use Rattle.walk.proofs.leaf_copy.LeafCopy.cells.Goals as goal

pub returns-clause-value : goal.returns-clause-value
returns-clause-value c =
    let z = c.args.self.now.bytes in
    let long : length z ≡ 496 = search rules in
    c.as_chunks.ensures.front ∙ ap (λ (n : ℕ). first_chunks 32 (n / 32) z) long ∙ chunks_cells z
