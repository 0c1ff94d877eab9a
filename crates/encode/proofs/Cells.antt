-- The bytes of cells and of numbers.
use Rattle.std.proofs.Common.{◌≡◌, ℕ, zero, suc, ◌+◌, ◌-◌, ◌*◌, ◌<◌, List, ◌++◌, length, take, drop, set, replicate, sym, refl, ap, ◌∙◌, append_assoc, arith, take-add}
use lib.Seq.{take-append-add, drop-append-add}
use borrow.Rule.Slice.PartMut.{put_mid}
use Rattle.std.proofs.lemmas.List.{take_all, take-append-le, drop-append-le, drop-drop, length-append, length-take-le, length-drop}
use Rattle.base.specs.declared.owner.Back.{Back}
use Rattle.layout.specs.Format.{cells_of, cells_bytes, padded, folder_body, encode}
use Rattle.layout.specs.Head.{cells}
use Rattle.encode.specs.Heads.{body_head_bytes}

cells_of_bytes : (n : ℕ) (z : List ℕ) → cells_bytes (cells_of n z) ≡ take (32 * n) z
cells_of_bytes zero z = refl
cells_of_bytes (suc n) z =
    let m : 32 + 32 * n ≡ 32 * suc n = omega arith in
    ap (λ x. take 32 z ++ x) (cells_of_bytes n (drop 32 z)) ∙ sym (take-add 32 (32 * n) z) ∙ ap (λ i. take i z) m

pub bytes_whole : (z : List ℕ) → length z ≡ 480 → cells_bytes (cells z) ≡ z
unfolding cells
bytes_whole z len = cells_of_bytes 15 z ∙ take_all 480 z (omega arith)

-- one cell written over
patched_of : (n k : ℕ) (z e : List ℕ) → length z ≡ 32 * n → k < n → cells_bytes (set (cells_of n z) k e) ≡ take (32 * k) z ++ (e ++ drop (32 * k + 32) z)
patched_of zero k z e len lt = absurd (omega arith)
patched_of (suc n) zero z e len lt =
    ap (λ x. e ++ x) (cells_of_bytes n (drop 32 z) ∙ take_all (32 * n) (drop 32 z) (simp length-drop (omega arith)))
patched_of (suc n) (suc k) z e len lt =
    let a : 32 + 32 * k ≡ 32 * suc k = omega arith in
    let b : 32 + (32 * k + 32) ≡ 32 * suc k + 32 = omega arith in
    ap (λ x. take 32 z ++ x) (patched_of n k (drop 32 z) e (simp length-drop (omega arith)) (omega arith))
    ∙ sym (append_assoc (take 32 z) (take (32 * k) (drop 32 z)) (e ++ drop (32 * k + 32) (drop 32 z)))
    ∙ ap (λ x. x ++ (e ++ drop (32 * k + 32) (drop 32 z))) (sym (take-add 32 (32 * k) z) ∙ ap (λ i. take i z) a)
    ∙ ap (λ x. take (32 * suc k) z ++ (e ++ x)) (drop-drop (32 * k + 32) 32 z ∙ ap (λ i. drop i z) b)

pub patched : (k : ℕ) (z e : List ℕ) → length z ≡ 480 → k < 15 → cells_bytes (set (cells z) k e) ≡ take (32 * k) z ++ (e ++ drop (32 * k + 32) z)
unfolding cells
patched k z e len lt = patched_of 15 k z e len lt

-- one cell of a folder's leaf written over, behind the head and before the zeros at the end
module _ (h z e t : List ℕ) (k : ℕ) (lh : length h ≡ 16) (lz : length z ≡ 480) (lt : k < 15) where
  front : take (16 + 32 * k) (h ++ (z ++ t)) ≡ h ++ take (32 * k) z
  front =
      ap (λ n. take (n + 32 * k) (h ++ (z ++ t))) (sym lh) ∙ take-append-add h (z ++ t) (32 * k)
      ∙ ap (λ x. h ++ x) (take-append-le (32 * k) z t (omega arith))

  behind : drop (16 + 32 * k + 32) (h ++ (z ++ t)) ≡ drop (32 * k + 32) z ++ t
  behind =
      let n : 16 + 32 * k + 32 ≡ length h + (32 * k + 32) = omega arith in
      ap (λ n. drop n (h ++ (z ++ t))) n ∙ drop-append-add h (z ++ t) (32 * k + 32) ∙ drop-append-le (32 * k + 32) z t (omega arith)

  pub changed : put_mid (16 + 32 * k) (16 + 32 * k + 32 - (16 + 32 * k)) (h ++ (z ++ t)) e ≡ h ++ (cells_bytes (set (cells z) k e) ++ t)
  changed =
      let n : 16 + 32 * k + (16 + 32 * k + 32 - (16 + 32 * k)) ≡ 16 + 32 * k + 32 = omega arith in
      ap (λ x. take (16 + 32 * k) (h ++ (z ++ t)) ++ (e ++ x)) (drop-drop (16 + 32 * k + 32 - (16 + 32 * k)) (16 + 32 * k) (h ++ (z ++ t)) ∙ ap (λ i. drop i (h ++ (z ++ t))) n ∙ behind)
      ∙ ap (λ x. x ++ (e ++ (drop (32 * k + 32) z ++ t))) front
      ∙ append_assoc h (take (32 * k) z) (e ++ (drop (32 * k + 32) z ++ t))
      ∙ ap (λ x. h ++ (take (32 * k) z ++ x)) (sym (append_assoc e (drop (32 * k + 32) z) t))
      ∙ ap (λ x. h ++ x) (sym (append_assoc (take (32 * k) z) (e ++ drop (32 * k + 32) z) t))
      ∙ ap (λ x. h ++ (x ++ t)) (sym (patched k z e lz lt))

  patched_length : length e ≡ 32 → length (cells_bytes (set (cells z) k e)) ≡ 480
  patched_length le =
      let a : length (take (32 * k) z) ≡ 32 * k = length-take-le (32 * k) z (omega arith) in
      ap length (patched k z e lz lt) ∙ simp (length-append, length-drop) (omega arith)

-- the block of a leaf, and the same with one cell written over
pub folder_block : (b : Back) (z : List ℕ) → length z ≡ 480 → body_head_bytes 5 b (length z) ++ padded 496 z ≡ encode (folder_body b (cells z))
unfolding encode
folder_block b z len =
    ap (λ n. body_head_bytes 5 b n ++ padded 496 z) len ∙ ap (λ x. body_head_bytes 5 b 480 ++ padded 496 x) (sym (bytes_whole z len))

pub changed_block : (b : Back) (z e o x : List ℕ) (k : ℕ) → length z ≡ 480 → k < 15 → length e ≡ 32 → o ≡ encode (folder_body b (cells z)) → x ≡ e → put_mid (16 + 32 * k) (16 + 32 * k + 32 - (16 + 32 * k)) o x ≡ encode (folder_body b (set (cells z) k e))
unfolding encode
changed_block b z e o x k lz lt le eo ex =
    let h : List ℕ = body_head_bytes 5 b 480 in
    let t : List ℕ = replicate (496 - length z) 0 in
    let n : 496 - length z ≡ 496 - length (cells_bytes (set (cells z) k e)) = omega (arith, patched_length h z e t k refl lz lt le) in
    ap (λ y. put_mid (16 + 32 * k) (16 + 32 * k + 32 - (16 + 32 * k)) y x) (eo ∙ ap (λ c. h ++ padded 496 c) (bytes_whole z lz))
    ∙ ap (put_mid (16 + 32 * k) (16 + 32 * k + 32 - (16 + 32 * k)) (h ++ padded 496 z)) ex
    ∙ changed h z e t k refl lz lt ∙ ap (λ m. h ++ (cells_bytes (set (cells z) k e) ++ replicate m 0)) n
