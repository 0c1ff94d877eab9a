-- Where blocks lie, and how long what is written is.
use Rattle.std.proofs.Common.{◌≡◌, ℕ, zero, suc, ◌+◌, ◌-◌, ◌*◌, ◌<◌, ◌≤◌, true, eqb, ltb, leb, List, [], ◌∷◌, length, get_or, replicate, refl, ap, ◌∙◌, arith, length-append}
use lib.ListN.{length-replicate}
use Rattle.std.proofs.lemmas.Bool.{eqb-true, ne_eqb, and_parts, lt-ltb, le-leb, lt-leb, le-ltb, cond-true, cond-false}
use Rattle.base.specs.declared.owner.Handle.{Handle}
use Rattle.base.specs.declared.owner.Back.{Back}
use Rattle.device.specs.Model.{Block}
use Rattle.layout.specs.Format.{Name, Cell, Geometry, Slot, blank, cover, slotted, file_body, folder_body, ill_formed, numbers_bytes, cells_bytes, padded, region, Region, cover_region, slot_region, body_region, beyond, by_kind, parse, encode, cell, blank_cell, cover_of}
use Rattle.layout.specs.Laws.{whole_cells}

-- ---- regions

pub slot_lies : (g : Geometry) (b : ℕ) → 0 < b → b ≤ g.slots → region g b ≡ slot_region
slot_lies g b up low = cond-false (eqb b 0) cover_region _ (ne_eqb b 0 (λ e. omega arith)) ∙ cond-true (leb b g.slots) slot_region _ (le-leb b g.slots low)

pub body_lies : (g : Geometry) (b : ℕ) → g.slots < b → b < g.blocks → region g b ≡ body_region
body_lies g b up low =
    cond-false (eqb b 0) cover_region _ (ne_eqb b 0 (λ e. omega arith))
    ∙ cond-false (leb b g.slots) slot_region _ (lt-leb b g.slots up)
    ∙ cond-true (ltb b g.blocks) body_region beyond (lt-ltb b g.blocks low)

pub parse_cover : (g : Geometry) (z : Block) → parse g 0 z ≡ cover_of z
unfolding parse
parse_cover g z = refl

pub parse_beyond : (g : Geometry) (b : ℕ) (z : Block) → g.slots < b → g.blocks ≤ b → parse g b z ≡ ill_formed
unfolding parse
parse_beyond g b z up far = ap (λ (t : Region). by_kind g t (get_or z 0 0) z)
    (cond-false (eqb b 0) cover_region _ (ne_eqb b 0 (λ e. omega arith))
    ∙ cond-false (leb b g.slots) slot_region _ (lt-leb b g.slots up)
    ∙ cond-false (ltb b g.blocks) body_region beyond (le-ltb b g.blocks far))

-- ---- lengths

abbrev eight : ℕ → ℕ
eight n = suc (suc (suc (suc (suc (suc (suc (suc n)))))))

padded_length : (n : ℕ) (xs : List ℕ) → length xs ≤ n → length (padded n xs) ≡ n
padded_length n xs l = length-append xs (replicate (n - length xs) 0) ∙ ap (λ (k : ℕ). length xs + k) (length-replicate (n - length xs) 0) ∙ omega arith

pub cell_length : (n : Name) (c : Handle) → length n ≤ 24 → length (cell n c) ≡ 32
cell_length n c l = ap eight (padded_length 24 n l)

pub blank_cells : (n : ℕ) → whole_cells (replicate n blank_cell) ≡ true
blank_cells zero = refl
blank_cells (suc n) = blank_cells n

numbers_length : (xs : List ℕ) → length (numbers_bytes xs) ≡ 2 * length xs
numbers_length [] = refl
numbers_length (x ∷ xs) = ap (λ (n : ℕ). suc (suc n)) (numbers_length xs) ∙ omega arith

cells_length : (es : List Cell) → whole_cells es ≡ true → length (cells_bytes es) ≡ 32 * length es
cells_length [] f = refl
cells_length (e ∷ es) f =
    let w = and_parts (eqb (length e) 32) (whole_cells es) f in
    length-append e (cells_bytes es) ∙ (let a = eqb-true (length e) 32 w.0 in let b = cells_length es w.1 in omega arith)

-- a block of 512 bytes
pub slot_whole : (r : Slot) → length r.numbers ≤ 64 → length (encode (slotted r)) ≡ 512
unfolding encode
slot_whole r l = ap (λ (k : ℕ). eight (eight k)) (padded_length 496 (numbers_bytes r.numbers) (let z = numbers_length r.numbers in omega arith))

pub file_whole : (k : Back) (x : List ℕ) → length x ≤ 496 → length (encode (file_body k x)) ≡ 512
unfolding encode
file_whole k x l = ap (λ (n : ℕ). eight (eight n)) (padded_length 496 x l)

pub folder_whole : (k : Back) (es : List Cell) → length es ≡ 15 → whole_cells es ≡ true → length (encode (folder_body k es)) ≡ 512
unfolding encode
folder_whole k es n f = ap (λ (n : ℕ). eight (eight n)) (padded_length 496 (cells_bytes es) (let z = cells_length es f in omega arith))

pub blank_whole : length (encode blank) ≡ 512
unfolding encode
blank_whole = refl

pub cover_whole : (g : Geometry) → length (encode (cover g)) ≡ 512
unfolding encode
cover_whole g = refl
