-- What is copied out of a block.
use Rattle.std.proofs.Common.{◌≡◌, ℕ, zero, suc, ◌+◌, ◌-◌, ◌*◌, ◌/◌, ◌<◌, ◌≤◌, Bool, true, false, cond, ◌&&◌, eqb, ltb, leb, ◌⊎◌, List, ◌∷◌, ◌++◌, length, take, drop, get_or, Some, None, Option, sym, refl, ap, ◌∙◌, subst, inl, inr, arith, MatchOption}
use Rattle.std.specs.Simd.{first_chunks}
use Rattle.std.proofs.lemmas.List.{get_or_past, take_at, length-append}
use Rattle.std.proofs.lemmas.Bool.{cases_lt, and_right, and_from, and_parts, lt-ltb, ltb-true, ltb-false, leb-false, and_cases}
use Rattle.base.specs.declared.owner.Kind.{Kind}
use Rattle.base.specs.declared.owner.Kind.TheVariants.{File, Folder}
use Rattle.base.specs.declared.owner.Handle.{Handle}
use Rattle.base.specs.declared.owner.Back.{Back}
use Rattle.device.specs.Model.{Block}
use Rattle.layout.specs.Format.{Geometry, Slot, Cell, Content, blank, ill_formed, back, cells_of, le16, numbers_of, body_number, slot_of, slot_fits, cover_of, in_limits, cover_region, slot_region, body_region, beyond, by_kind, parse}
use Rattle.layout.specs.View.{all_numbers, SlotSized}
use Rattle.layout.specs.Head.{cells}
use Rattle.layout.proofs.Cells.{cells_take}
use Rattle.layout.proofs.Numbers.{part_numbers, number_at, length_numbers}
use Rattle.rule.specs.Agree.{Shown, seen, number, count, names}
use Rattle.walk.specs.declared.slot.SlotCopy.{SlotCopy}
use Rattle.walk.specs.declared.leaf_copy.LeafCopy.{LeafCopy}
use Rattle.walk.specs.Copies.{copied, Holds, LeafIs}

-- the numbers of a slot, copied to the front of a longer row
front_numbers : (z w : List ℕ) → SlotSized z → numbers_of (length z / 2) (z ++ w) ≡ all_numbers z
front_numbers z w s =
    let room : 2 * (length z / 2) ≤ length (z ++ w) = rw (length-append z w) (omega (arith, s.0)) in
    sym (part_numbers (length z / 2) (z ++ w) room) ∙ ap all_numbers (take_at z w (2 * (length z / 2) - 0) (omega (arith, s.0)))

pub numbers_copied : (z x w : List ℕ) → x ≡ z → SlotSized z → numbers_of (length z / 2) (x ++ w) ≡ all_numbers z
numbers_copied z x w e s = ap (λ (y : List ℕ). numbers_of (length z / 2) (y ++ w)) e ∙ front_numbers z w s

-- the front of a leaf, cut into cells
chunks_are : (n : ℕ) (z : List ℕ) → first_chunks 32 n z ≡ cells_of n z
chunks_are zero z = refl
chunks_are (suc n) z = ap (λ (cs : List Cell). take 32 z ∷ cs) (chunks_are n (drop 32 z))

all_cells : (z : List ℕ) → cells_of 15 z ≡ cells z
unfolding cells
all_cells z = refl

pub chunks_cells : (z : List ℕ) → first_chunks 32 15 z ≡ cells (take 480 z)
chunks_cells z = chunks_are 15 z ∙ all_cells z ∙ sym (cells_take z)

-- past the count there is no number
pub number_past : (s : SlotCopy) (k : ℕ) → s.count ≤ k → number (copied s) k ≡ 0
number_past s k h = get_or_past (numbers_of s.count s.numbers) k 0 (omega (arith, h, length_numbers s.count s.numbers))

-- nor past the bytes
pub number_beyond : (s : SlotCopy) (k : ℕ) → length s.numbers ≤ 2 * k → number (copied s) k ≡ 0
number_beyond s k h = elim (cases_lt k s.count) [
  | inl l ↦ number_at s.count k s.numbers l ∙ rw (get_or_past s.numbers (2 * k) 0 h, get_or_past s.numbers (2 * k + 1) 0 (omega arith))
  | inr l ↦ number_past s k l
]

pub number_none : (s : SlotCopy) (k : ℕ) → length s.numbers ≡ 128 → (s.count ≤ k) ⊎ (64 ≤ k) → 0 ≡ number (copied s) k
number_none s k h (inl l) = sym (number_past s k l)
number_none s k h (inr l) = sym (number_beyond s k (omega arith))

pub number_here : (s : SlotCopy) (k : ℕ) → k < s.count → number (copied s) k ≡ le16 s.numbers (2 * k)
number_here s k l = number_at s.count k s.numbers l

-- a block that is no body's is no leaf
module _ (l : Back) where
  none_in : (d : Kind) (t : Bool) (c : Content) → names d l c ≡ false → names d l (cond t c ill_formed) ≡ false
  none_in d true c h = h
  none_in File false c h = refl
  none_in Folder false c h = refl

  in_cover : (d : Kind) (z : Block) → names d l (cover_of z) ≡ false
  in_cover File z = none_in File (eqb (get_or z 0 0) 1 && (eqb (get_or z 1 0) 1 && in_limits (le16 z 2) (le16 z 4))) _ refl
  in_cover Folder z = none_in Folder (eqb (get_or z 0 0) 1 && (eqb (get_or z 1 0) 1 && in_limits (le16 z 2) (le16 z 4))) _ refl

  in_slot : (g : Geometry) (d e : Kind) (z : Block) → names d l (slot_of g e z) ≡ false
  in_slot g File e z = none_in File (slot_fits g z) _ refl
  in_slot g Folder e z = none_in Folder (slot_fits g z) _ refl

  in_slots : (g : Geometry) (d : Kind) (z : Block) (a b c : Bool) → names d l (elim a [ true ↦ blank | false ↦ elim b [ true ↦ slot_of g File z | false ↦ elim c [ true ↦ slot_of g Folder z | false ↦ ill_formed ] ] ]) ≡ false
  in_slots g File z true b c = refl
  in_slots g Folder z true b c = refl
  in_slots g d z false true c = in_slot g d File z
  in_slots g d z false false true = in_slot g d Folder z
  in_slots g File z false false false = refl
  in_slots g Folder z false false false = refl

  by_region : (g : Geometry) (d : Kind) (z : Block) (a b c : Bool) → (b ≡ false → c ≡ false) →
      names d l (by_kind g (cond a cover_region (cond b slot_region (cond c body_region beyond))) (get_or z 0 0) z) ≡ false
  by_region g d z true b c h = in_cover d z
  by_region g d z false true c h = in_slots g d z (eqb (get_or z 0 0) 0) (eqb (get_or z 0 0) 2) (eqb (get_or z 0 0) 3)
  by_region g File z false false false h = refl
  by_region g Folder z false false false h = refl
  by_region g d z false false true h = let e = h refl in let w : ◌≡◌ {A = ℕ} 0 1 = cc in absurd (omega arith)

  pub no_body : (g : Geometry) (d : Kind) (b : ℕ) (z : Block) → body_number g b ≡ false → names d l (parse g b z) ≡ false
  unfolding parse
  no_body g d b z h = by_region g d z (eqb b 0) (leb b g.slots) (ltb b g.blocks) beyond_it
    where
      beyond_it : leb b g.slots ≡ false → ltb b g.blocks ≡ false
      beyond_it e = elim (and_cases (ltb g.slots b) (ltb b g.blocks) h) [ inl f ↦ absurd (omega (arith, ltb-false g.slots b f, leb-false b g.slots e)) | inr f ↦ f ]

-- a number that is a body's is below the count
pub body_below : (g : Geometry) (r : Slot) (k : ℕ) → body_number g (number r k) ≡ true → k < count r
body_below g r k h = elim (cases_lt k (count r)) [
  | inl l ↦ l
  | inr l ↦
      let e = get_or_past r.numbers k 0 l in
      let low = ltb-true g.slots (number r k) (and_parts (ltb g.slots (number r k)) (ltb (number r k) g.blocks) h).0 in
      absurd (omega (arith, e, low))
]

module _ (g : Geometry) (shown : Shown) (h : Handle) (r : Slot) (k : ℕ) where
  pub leaf_none : (b : ℕ) → b ≡ number r k → body_number g b ≡ false → LeafIs (seen g shown) h r k None
  leaf_none b e f =
      and_right (ltb k (count r)) (names r.kind (back h k) (seen g shown (number r k)))
      (no_body (back h k) g r.kind (number r k) (shown (number r k)) (subst (λ (i : ℕ). body_number g i ≡ false) e f))

  abbrev Is : Content → Option LeafCopy → Type 0
  Is c o = MatchOption o (names r.kind (back h k) c ≡ false) (λ l. (names r.kind (back h k) c ≡ true) × Holds l c)

  pub leaf_there : (b : ℕ) (z : Block) (o : Option LeafCopy) → b ≡ number r k → z ≡ shown b → body_number g b ≡ true →
      MatchOption o (names r.kind (back h k) (parse g b z) ≡ false) (λ l. (names r.kind (back h k) (parse g b z) ≡ true) × Holds l (parse g b z)) → LeafIs (seen g shown) h r k o
  leaf_there b z o e q f w =
      go o (subst (λ (i : ℕ). Is (parse g i (shown i)) o) e (subst (λ (y : Block). Is (parse g b y) o) q w))
    where
      low : ltb k (count r) ≡ true
      low = lt-ltb k (count r) (body_below g r k (subst (λ (i : ℕ). body_number g i ≡ true) e f))

      go : (o : Option LeafCopy) → Is (seen g shown (number r k)) o → LeafIs (seen g shown) h r k o
      go None x = and_right (ltb k (count r)) (names r.kind (back h k) (seen g shown (number r k))) x
      go (Some l) x = (and_from (ltb k (count r)) (names r.kind (back h k) (seen g shown (number r k))) low x.0, x.1)
