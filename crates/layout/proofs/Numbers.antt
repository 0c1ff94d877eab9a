-- The numbers of a slot, one more at a time.
use Rattle.std.proofs.Common.{◌≡◌, ℕ, zero, suc, ◌+◌, ◌-◌, ◌*◌, ◌/◌, ◌<◌, ◌≤◌, Bool, true, false, ◌&&◌, ltb, leb, List, [], ◌∷◌, length, get_or, take, drop, sym, refl, ap, ◌∙◌, arith}
use Rattle.std.proofs.lemmas.List.{get_or-drop, get_or-take, drop-take, length-take-le}
use Rattle.std.proofs.lemmas.Bool.{and_parts, leb-true}
use Rattle.std.specs.Simd.{first_chunks}
use Rattle.layout.specs.View.{all_numbers, SlotSized}
use Rattle.base.specs.declared.owner.Kind.{Kind}
use Rattle.layout.specs.declared.block.parsing.SlotHead.{SlotHead}
use Rattle.layout.specs.Head.{slot_head_fits, slot_by}
use Rattle.layout.specs.Format.{Geometry, slotted, ill_formed, le16, numbers_of, body_number, all_bodies}

-- a number after the first
le16_drop : (z : List ℕ) (k : ℕ) → le16 (drop 2 z) (2 * k) ≡ le16 z (2 * suc k)
le16_drop z k =
    rw (get_or-drop, get_or-drop) (ap (λ i. get_or z i 0 + 256 * get_or z (2 + (2 * k + 1)) 0) (omega arith) ∙ ap (λ i. get_or z (2 * suc k) 0 + 256 * get_or z i 0) (omega arith))

-- the numbers as pairs of bytes
abbrev pub pairs_fit : Geometry → List (List ℕ) → Bool
pairs_fit g [] = true
pairs_fit g (p ∷ ps) = body_number g (le16 p 0) && pairs_fit g ps

le16_take : (z : List ℕ) → le16 (take 2 z) 0 ≡ le16 z 0
le16_take z = rw (get_or-take 2 z 0 0 (omega arith), get_or-take 2 z 1 0 (omega arith))

pub pairs_are : (g : Geometry) (n : ℕ) (z : List ℕ) → pairs_fit g (first_chunks 2 n z) ≡ all_bodies g (numbers_of n z)
pairs_are g zero z = refl
pairs_are g (suc n) z = rw (le16_take z, pairs_are g n (drop 2 z))

pub pair_at : (n k : ℕ) (z : List ℕ) → k < n → le16 (get_or (first_chunks 2 n z) k []) 0 ≡ get_or (numbers_of n z) k 0
pair_at zero k z lt = absurd (omega arith)
pair_at (suc n) zero z lt = le16_take z
pair_at (suc n) (suc k) z lt = pair_at n k (drop 2 z) (omega arith)

pub length_numbers : (n : ℕ) (z : List ℕ) → length (numbers_of n z) ≡ n
length_numbers zero z = refl
length_numbers (suc n) z = ap suc (length_numbers n (drop 2 z))

numbers_take : (n : ℕ) (z : List ℕ) → numbers_of n (take (2 * n) z) ≡ numbers_of n z
numbers_take zero z = refl
numbers_take (suc n) z =
    let first : le16 (take (2 * suc n) z) 0 ≡ le16 z 0 = rw (get_or-take (2 * suc n) z 0 0 (omega arith), get_or-take (2 * suc n) z 1 0 (omega arith)) in
    let rest : drop 2 (take (2 * suc n) z) ≡ take (2 * n) (drop 2 z) = ap (λ m. drop 2 (take m z)) (omega arith) ∙ drop-take 2 (2 * n) z in
    ap (λ x. x ∷ numbers_of n (drop 2 (take (2 * suc n) z))) first
    ∙ ap (λ x. le16 z 0 ∷ x) (ap (numbers_of n) rest ∙ numbers_take n (drop 2 z))

-- the numbers as a part of the block
module _ (c : ℕ) (z : List ℕ) (h : 2 * c ≤ length z) where
  part_length : length (take (2 * c - 0) z) ≡ 2 * c
  part_length = length-take-le (2 * c - 0) z (omega arith) ∙ omega arith

  part_count : length (take (2 * c - 0) z) / 2 ≡ c
  part_count = ap (λ n. n / 2) part_length ∙ omega arith

  pub part_numbers : all_numbers (take (2 * c - 0) z) ≡ numbers_of c z
  part_numbers =
      ap (λ n. numbers_of n (take (2 * c - 0) z)) part_count
      ∙ ap (λ m. numbers_of c (take m z)) (omega arith) ∙ numbers_take c z

  pub part_sized : c ≤ 64 → SlotSized (take (2 * c - 0) z)
  part_sized few = (omega (arith, part_length, part_count), omega (arith, part_count))

-- the k-th number
pub number_at : (n k : ℕ) (z : List ℕ) → k < n → get_or (numbers_of n z) k 0 ≡ le16 z (2 * k)
number_at zero k z lt = absurd (omega arith)
number_at (suc n) zero z lt = refl
number_at (suc n) (suc k) z lt = number_at n k (drop 2 z) (omega arith) ∙ le16_drop z k

pub count_few : (g : Geometry) (h : SlotHead) → slot_head_fits g h ≡ true → h.count ≤ 64
count_few g h fits =
    leb-true h.count 64 (and_parts (leb h.count 64) (leb 1 h.identity.0 && (leb 1 h.parent.identity.0 && ltb h.parent.slot.0 g.slots)) fits).0

-- a slot in its ranges, as the code makes it, or out of them
module _ (g : Geometry) (h : SlotHead) (z : List ℕ) (len : length z ≡ 496) (fits : slot_head_fits g h ≡ true) where
  numbers_are : all_numbers (take (2 * h.count - 0) z) ≡ numbers_of h.count z
  numbers_are = let few : h.count ≤ 64 = count_few g h fits in part_numbers h.count z (omega arith)

  pub slot_whole : (d e : Kind) → all_bodies g (all_numbers (take (2 * h.count - 0) z)) ≡ true → e ≡ d → slotted (record { kind = d; identity = h.identity.0; parent = h.parent; numbers = all_numbers (take (2 * h.count - 0) z) }) ≡ slot_by g e h z
  slot_whole d e bodies same =
      let bodies' : all_bodies g (numbers_of h.count z) ≡ true = ap (all_bodies g) (sym numbers_are) ∙ bodies in
      rw (same, numbers_are, fits, bodies')

  pub slot_spoilt : (e : Kind) → all_bodies g (all_numbers (take (2 * h.count - 0) z)) ≡ false → ill_formed ≡ slot_by g e h z
  slot_spoilt e bodies =
      let bodies' : all_bodies g (numbers_of h.count z) ≡ false = ap (all_bodies g) (sym numbers_are) ∙ bodies in
      rw (fits, bodies')
