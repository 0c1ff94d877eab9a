-- The numbers of a slot, one more at a time, and their bytes.
use Rattle.std.proofs.Common.{◌≡◌, ℕ, ◌+◌, ◌-◌, ◌*◌, ◌<◌, ◌≤◌, List, [], ◌∷◌, ◌++◌, length, get_or, take, replicate, sym, refl, ap, ◌∙◌, append_assoc, arith}
use borrow.Rule.Slice.PartMut.{put_mid}
use Rattle.std.proofs.lemmas.List.{take_at, drop_at, take_more, ext_get_or, get_or-map, get_or-take, map_push, length-append, length-map, length-take-le, length-replicate, drop-replicate, replicate-append-replicate}
use Rattle.base.specs.declared.number.BlockNo.{BlockNo}
use Rattle.base.specs.declared.owner.Handle.{Handle}
use Rattle.base.specs.declared.owner.Kind.{Kind}
use Rattle.layout.specs.Format.{two, numbers_bytes, padded, slotted, encode}
use Rattle.encode.specs.Heads.{plain, slot_head_bytes, slot_record, Begins}

length_numbers_bytes : (ns : List ℕ) → length (numbers_bytes ns) ≡ 2 * length ns
length_numbers_bytes [] = refl
length_numbers_bytes (n ∷ ns) = let e = length_numbers_bytes ns in omega arith

numbers_bytes_push : (ns : List ℕ) (n : ℕ) → numbers_bytes (ns ++ n ∷ []) ≡ numbers_bytes ns ++ two n []
numbers_bytes_push [] n = refl
numbers_bytes_push (m ∷ ns) n = ap (two m) (numbers_bytes_push ns n)

length_plain : (ns : List BlockNo) → length (plain ns) ≡ length ns
length_plain ns = length-map ns (λ (b : BlockNo). b.0)

length_bytes : (ns : List BlockNo) → length (numbers_bytes (plain ns)) ≡ 2 * length ns
length_bytes ns = length_numbers_bytes (plain ns) ∙ ap (λ n. 2 * n) (length_plain ns)

-- two bytes written over zeros
written_more : (p t : List ℕ) (k : ℕ) → length p ≡ 2 * k → length t ≡ 2 → put_mid (2 * k) (2 * k + 2 - 2 * k) (padded 128 p) t ≡ padded 128 (p ++ t)
written_more p t k lp lt =
    let z : List ℕ = replicate (128 - length p) 0 in
    let m : 128 - length p - (2 * k + 2 - 2 * k) ≡ 128 - length (p ++ t) = omega (arith, length-append p t) in
    rw (take_at p z (2 * k) lp, drop_at p z (2 * k) lp, drop-replicate, m) (sym (append_assoc p t (replicate (128 - length (p ++ t)) 0)))

pub one_more : (ns : List BlockNo) (k : ℕ) (d : BlockNo) (o t : List ℕ) → k < length ns → o ≡ padded 128 (numbers_bytes (plain (take k ns))) → t ≡ two (get_or ns k d).0 [] → put_mid (2 * k) (2 * k + 2 - 2 * k) o t ≡ padded 128 (numbers_bytes (plain (take (k + 1) ns)))
one_more ns k d o t lt eo et =
    let p : List ℕ = numbers_bytes (plain (take k ns)) in
    let n : ℕ = (get_or ns k d).0 in
    let len : length p ≡ 2 * k = length_bytes (take k ns) ∙ ap (λ i. 2 * i) (length-take-le k ns (omega arith)) in
    let more : plain (take (k + 1) ns) ≡ plain (take k ns) ++ n ∷ [] = ap plain (take_more ns k d lt) ∙ map_push (λ (b : BlockNo). b.0) (take k ns) (get_or ns k d) in
    rw (eo, et) (written_more p (two n []) k len refl ∙ ap (padded 128) (sym (ap numbers_bytes more ∙ numbers_bytes_push (plain (take k ns)) n)))

-- zeros that follow are part of the padding
padded_more : (z : List ℕ) (m n : ℕ) → length z ≤ m → m ≤ n → padded n (padded m z) ≡ padded n z
padded_more z m n lm mn =
    let all : n - length (padded m z) ≡ n - m = omega (arith, length-append z (replicate (m - length z) 0), length-replicate {A = ℕ} (m - length z) 0) in
    let sum : m - length z + (n - m) ≡ n - length z = omega arith in
    rw (all, append_assoc, replicate-append-replicate, sum) refl

-- the first n of them
pub begins_plain : (ns : List ℕ) (bs : List BlockNo) (n : ℕ) → Begins ns bs 64 → n ≤ length ns → n ≤ 64 → plain (take n bs) ≡ take n ns
begins_plain ns bs n h low few =
    ext_get_or 0 (plain (take n bs)) (take n ns) (size ∙ sym (length-take-le n ns low)) at
  where
    size : length (plain (take n bs)) ≡ n
    size = length_plain (take n bs) ∙ length-take-le n bs (omega (arith, h.size))

    at : (i : ℕ) → i < length (plain (take n bs)) → get_or (plain (take n bs)) i 0 ≡ get_or (take n ns) i 0
    at i l =
        let j : i < n = omega (arith, size) in
        get_or-map (λ (x : BlockNo). x.0) (take n bs) i (record { 0 = 0 }) 0 (omega (arith, length-take-le n bs (omega (arith, h.size))))
        ∙ ap (λ (x : BlockNo). x.0) (get_or-take n bs i (record { 0 = 0 }) j)
        ∙ h.each i (omega arith) ∙ sym (get_or-take n ns i 0 j)

-- the block of a slot: its head, its numbers, and zeros
pub slot_block : (k : Kind) (i : ℕ) (p : Handle) (ns : List BlockNo) → length ns ≤ 64 → slot_head_bytes k (length ns) i p ++ padded 496 (padded 128 (numbers_bytes (plain ns))) ≡ encode (slotted (slot_record k i p (plain ns)))
unfolding encode
slot_block k i p ns few =
    ap (λ x. slot_head_bytes k (length ns) i p ++ x) (padded_more (numbers_bytes (plain ns)) 128 496 (omega (arith, length_bytes ns)) (omega arith))
    ∙ ap (λ n. slot_head_bytes k n i p ++ padded 496 (numbers_bytes (plain ns))) (sym (length_plain ns))
