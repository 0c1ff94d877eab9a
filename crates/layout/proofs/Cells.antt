-- The cells of a folder's leaf.
use Rattle.std.proofs.Common.{◌≡◌, ℕ, zero, suc, ◌+◌, ◌-◌, ◌*◌, ◌<◌, ◌≤◌, List, [], ◌∷◌, length, get_or, take, drop, sym, refl, ap, ◌∙◌, arith}
use Rattle.std.proofs.lemmas.List.{drop-drop, drop-take, take-take, length-drop, length-take-le}
use Rattle.std.specs.Simd.{first_chunks}
use Rattle.layout.specs.Format.{cells_of}
use Rattle.layout.specs.Head.{cells}

cells_of_take : (n : ℕ) (z : List ℕ) → cells_of n (take (32 * n) z) ≡ cells_of n z
cells_of_take zero z = refl
cells_of_take (suc n) z =
    let rest : drop 32 (take (32 * suc n) z) ≡ take (32 * n) (drop 32 z) = ap (λ m. drop 32 (take m z)) (omega arith) ∙ drop-take 32 (32 * n) z in
    ap (λ x. x ∷ cells_of n (drop 32 (take (32 * suc n) z))) (take-take 32 (32 * suc n) z (omega arith))
    ∙ ap (λ x. take 32 z ∷ x) (ap (cells_of n) rest ∙ cells_of_take n (drop 32 z))

-- nothing behind the cells counts
pub cells_take : (z : List ℕ) → cells (take 480 z) ≡ cells z
unfolding cells
cells_take z = cells_of_take 15 z

pub length_cells : (z : List ℕ) → length (cells z) ≡ 15
unfolding cells
length_cells z = refl

cell_of_at : (n k : ℕ) (z : List ℕ) → k < n → get_or (cells_of n z) k [] ≡ take 32 (drop (32 * k) z)
cell_of_at zero k z lt = absurd (omega arith)
cell_of_at (suc n) zero z lt = refl
cell_of_at (suc n) (suc k) z lt = cell_of_at n k (drop 32 z) (omega arith) ∙ ap (take 32) (drop-drop (32 * k) 32 z ∙ ap (λ i. drop i z) (omega arith))

-- the k-th cell
pub cell_at : (k : ℕ) (z : List ℕ) → k < 15 → get_or (cells z) k [] ≡ take 32 (drop (32 * k) z)
unfolding cells
cell_at k z lt = cell_of_at 15 k z lt

-- the k-th cell as a part of the block
pub cell_part : (k : ℕ) (z : List ℕ) → length z ≡ 480 → k < 15 → (length (take (32 * k + 32 - 32 * k) (drop (32 * k) z)) ≡ 32) × (take (32 * k + 32 - 32 * k) (drop (32 * k) z) ≡ get_or (cells z) k [])
cell_part k z len lt =
    let room : 32 ≤ length (drop (32 * k) z) = simp length-drop (omega arith) in
    let same : take (32 * k + 32 - 32 * k) (drop (32 * k) z) ≡ take 32 (drop (32 * k) z) =
    let n : 32 * k + 32 - 32 * k ≡ 32 = omega arith in
    ap (λ n. take n (drop (32 * k) z)) n in
    (ap length same ∙ length-take-le 32 (drop (32 * k) z) room, same ∙ sym (cell_at k z lt))

-- whole chunks of 32 bytes are cells
pub cells_are : (n : ℕ) (z : List ℕ) → first_chunks 32 n z ≡ cells_of n z
cells_are zero z = refl
cells_are (suc n) z = ap (λ es. take 32 z ∷ es) (cells_are n (drop 32 z))
