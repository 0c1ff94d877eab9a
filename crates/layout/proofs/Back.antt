-- What is written is what is read.
use Rattle.std.proofs.Common.{◌≡◌, ℕ, zero, suc, ◌+◌, ◌-◌, ◌*◌, ◌/◌, ◌%◌, ◌^◌, ◌<◌, ◌≤◌, true, ◌&&◌, eqb, ltb, leb, List, [], ◌∷◌, ◌++◌, length, get_or, take, drop, set, replicate, sym, refl, ap, ◌∙◌, inl, inr, append_assoc, arith}
use native.Mathlib.Nat.{div-div-eq-div-mul}
use Rattle.std.proofs.lemmas.List.{take_at, drop_at, get_or-set_same, get_or-set_other, length-drop, length-take-le}
use Rattle.std.proofs.lemmas.Bool.{and_parts, and_from, eqb-true, eq-eqb, le-leb, lt-ltb, ltb-true}
use Rattle.std.proofs.lemmas.Bool.Decides.{nat_tests}
use Rattle.base.specs.declared.owner.Kind.{Kind}
use Rattle.base.specs.declared.owner.Kind.TheVariants.{File, Folder}
use Rattle.base.specs.declared.owner.Handle.{Handle}
use Rattle.base.specs.declared.owner.Back.{Back}
use Rattle.layout.specs.Format.{Geometry, Slot, Name, Cell, Content, blank, cover, slotted, file_body, folder_body, ill_formed, entry, in_limits, region, Region, cover_region, slot_region, body_region, by_kind, parse, encode, cell, slot_of, slot_byte, body_bytes, cover_of, file_body_of, folder_body_of, all_bodies, body_number, numbers_of, cells_of, numbers_bytes, cells_bytes, padded, entry_of, good_name, plain_bytes}
use Rattle.layout.specs.Head.{cells, slot_head_at, body_head_at, slot_by, file_body_by, folder_body_by, slot_head_fits, body_head_fits}
use Rattle.layout.specs.declared.block.parsing.SlotHead.{SlotHead}
use Rattle.layout.specs.declared.block.parsing.BodyHead.{BodyHead}
use Rattle.layout.proofs.Parsing.{slot_parts, body_parts}
use Rattle.layout.specs.Laws.{SlotFits, BackFits, ChildFits, whole_cells, Writable, ReadAs, ReadAsFolder, ReadAsEntry, ChangedAt}

back16 : (n : ℕ) → n < 65536 → n % 256 + 256 * (n / 256 % 256) ≡ n
back16 n h = omega arith

digits : (a b q r s n : ℕ) → a + 256 * q ≡ n → b + 256 * r ≡ q → s ≡ r → a + 256 * b + 65536 * s ≡ n
digits a b q r s n e f g = omega arith

back32 : (n : ℕ) → n < 2 ^ 32 → n % 256 + 256 * (n / 256 % 256) + 65536 * (n / 65536 % 256 + 256 * (n / 65536 / 256 % 256)) ≡ n
back32 n h =
    digits (n % 256) (n / 256 % 256) (n / 256) (n / 65536) (n / 65536 % 256 + 256 * (n / 65536 / 256 % 256)) n (omega arith)
    (ap (λ q. n / 256 % 256 + 256 * q) (sym (div-div-eq-div-mul n 256 256)) ∙ omega arith)
    (back16 (n / 65536) (omega arith))

numbers_back : (g : Geometry) → g.blocks ≤ 4096 → (ns z : List ℕ) → all_bodies g ns ≡ true → numbers_of (length ns) (numbers_bytes ns ++ z) ≡ ns
numbers_back g few [] z h = refl
numbers_back g few (n ∷ ns) z h =
    let both = and_parts (body_number g n) (all_bodies g ns) h in
    let high : ltb n g.blocks ≡ true = (and_parts (ltb g.slots n) (ltb n g.blocks) both.0).1 in
    let small : n < 65536 = omega (arith, ltb-true n g.blocks high) in
    ap (λ x. x ∷ numbers_of (length ns) (numbers_bytes ns ++ z)) (back16 n small) ∙ ap (λ x. n ∷ x) (numbers_back g few ns z both.1)

cells_back : (es : List Cell) (z : List ℕ) → whole_cells es ≡ true → cells_of (length es) (cells_bytes es ++ z) ≡ es
cells_back [] z h = refl
cells_back (e ∷ es) z h =
    let both = and_parts (eqb (length e) 32) (whole_cells es) h in
    let len = eqb-true (length e) 32 both.0 in
    ap (λ x. cells_of (suc (length es)) x) (append_assoc e (cells_bytes es) z)
    ∙ ap (λ x. x ∷ cells_of (length es) (drop 32 (e ++ (cells_bytes es ++ z)))) (take_at e (cells_bytes es ++ z) 32 len)
    ∙ ap (λ x. e ∷ cells_of (length es) x) (drop_at e (cells_bytes es ++ z) 32 len)
    ∙ ap (λ x. e ∷ x) (cells_back es z both.1)

placed : (g : Geometry) (b : ℕ) (r : Region) (z : List ℕ) → region g b ≡ r → parse g b z ≡ by_kind g r (get_or z 0 0) z
unfolding parse
placed g b r z e = ap (λ x. by_kind g x (get_or z 0 0) z) e

slot_first : (r : Slot) → get_or (encode (slotted r)) 0 0 ≡ slot_byte r.kind
unfolding encode
slot_first r = refl

cells_in : (es : List Cell) (z : List ℕ) → length es ≡ 15 → whole_cells es ≡ true → cells (cells_bytes es ++ z) ≡ es
unfolding cells
cells_in es z len whole = ap (λ n. cells_of n (cells_bytes es ++ z)) (sym len) ∙ cells_back es z whole

cover_back : (c : Geometry) → in_limits c.blocks c.slots ≡ true → cover_of (encode (cover c)) ≡ cover c
unfolding encode
cover_back c lim =
    let n : c.blocks < 65536 = grind (arith, nat_tests) in
    let s : c.slots < 65536 = grind (arith, nat_tests) in
    rw (back16 c.blocks n, back16 c.slots s, lim)

module _ (g : Geometry) (lim : in_limits g.blocks g.slots ≡ true) where
  few_slots : g.slots ≤ 256
  few_slots = grind (arith, nat_tests)

  few_blocks : g.blocks ≤ 4096
  few_blocks = grind (arith, nat_tests)

  -- a slot
  abbrev head_of : Slot → SlotHead
  head_of r = record { count = length r.numbers; identity = record { 0 = r.identity }; parent = r.parent }

  slot_head_back : (r : Slot) → SlotFits g r → slot_head_at (encode (slotted r)) ≡ head_of r
  unfolding encode
  slot_head_back r w =
      let n : length r.numbers < 65536 = omega (arith, w.few) in
      let p : r.parent.slot.0 < 65536 = omega (arith, w.parent_slot, few_slots) in
      rw (back16 (length r.numbers) n, back32 r.identity w.own.1, back32 r.parent.identity.0 w.parent.1, back16 r.parent.slot.0 p)

  slot_head_good : (r : Slot) → SlotFits g r → slot_head_fits g (head_of r) ≡ true
  slot_head_good r w =
      and_from _ _ (le-leb (length r.numbers) 64 w.few)
      (and_from _ _ (le-leb 1 r.identity w.own.0) (and_from _ _ (le-leb 1 r.parent.identity.0 w.parent.0) (lt-ltb r.parent.slot.0 g.slots w.parent_slot)))

  slot_whole : (r : Slot) (z : List ℕ) → SlotFits g r → slot_by g r.kind (head_of r) (numbers_bytes r.numbers ++ z) ≡ slotted r
  slot_whole r z w =
      let head = slot_head_good r w in
      let bodies = w.bodies in
      rw (numbers_back g few_blocks r.numbers z w.bodies, head, bodies)

  slot_rest : (r : Slot) → drop 16 (encode (slotted r)) ≡ padded 496 (numbers_bytes r.numbers)
  unfolding encode
  slot_rest r = refl

  slot_back_by : (r : Slot) (d : Kind) → r.kind ≡ d → SlotFits g r → slot_of g d (encode (slotted r)) ≡ slotted r
  slot_back_by r d e w =
      let zeros : List ℕ = replicate (496 - length (numbers_bytes r.numbers)) 0 in
      sym (slot_parts g (encode (slotted r)) d) ∙ ap (λ k. slot_by g k (slot_head_at (encode (slotted r))) (drop 16 (encode (slotted r)))) (sym e)
      ∙ ap (λ h. slot_by g r.kind h (drop 16 (encode (slotted r)))) (slot_head_back r w)
      ∙ ap (slot_by g r.kind (head_of r)) (slot_rest r) ∙ slot_whole r zeros w

  slot_back : (r : Slot) (d : Kind) → r.kind ≡ d → SlotFits g r → by_kind g slot_region (get_or (encode (slotted r)) 0 0) (encode (slotted r)) ≡ slotted r
  slot_back r File e w = ap (λ x. by_kind g slot_region x (encode (slotted r))) (slot_first r ∙ ap slot_byte e) ∙ slot_back_by r File e w
  slot_back r Folder e w = ap (λ x. by_kind g slot_region x (encode (slotted r))) (slot_first r ∙ ap slot_byte e) ∙ slot_back_by r Folder e w

  -- a body
  module _ (k : Back) (w : BackFits g k) where
    abbrev body_head_of : ℕ → BodyHead
    body_head_of used = record { back = k; used = used }

    head_back : (x used : ℕ) (z : List ℕ) → used < 65536 → body_head_at (body_bytes x k used z) ≡ body_head_of used
    head_back x used z h =
        let s : k.owner.slot.0 < 65536 = omega (arith, w.slot, few_slots) in
        let l : k.leaf.0 < 65536 = omega (arith, w.leaf) in
        rw (back16 k.owner.slot.0 s, back32 k.owner.identity.0 w.own.1, back16 k.leaf.0 l, back16 used h)

    head_good : (used : ℕ) → body_head_fits g (body_head_of used) ≡ true
    head_good used =
        and_from (ltb k.owner.slot.0 g.slots) _ (lt-ltb k.owner.slot.0 g.slots w.slot)
        (and_from (leb 1 k.owner.identity.0) (ltb k.leaf.0 64) (le-leb 1 k.owner.identity.0 w.own.0) (lt-ltb k.leaf.0 64 w.leaf))

    file_back : (x : List ℕ) → length x ≤ 496 → file_body_of g (body_bytes 4 k (length x) x) ≡ file_body k x
    file_back x short =
        let zeros : List ℕ = replicate (496 - length x) 0 in
        let head = head_good (length x) in
        let room = le-leb (length x) 496 short in
        ap (λ h. file_body_by g h (x ++ zeros)) (head_back 4 (length x) x (omega arith)) ∙ rw (head, room, take_at x zeros (length x) refl)

    folder_back : (es : List Cell) → length es ≡ 15 → whole_cells es ≡ true → folder_body_of g (body_bytes 5 k 480 (cells_bytes es)) ≡ folder_body k es
    folder_back es len whole =
        let zeros : List ℕ = replicate (496 - length (cells_bytes es)) 0 in
        let head = head_good 480 in
        sym (body_parts g (body_bytes 5 k 480 (cells_bytes es)) Folder)
        ∙ ap (λ h. folder_body_by g h (cells_bytes es ++ zeros)) (head_back 5 480 (cells_bytes es) (omega arith)) ∙ rw head (ap (folder_body k) (cells_in es zeros len whole))

  -- every content
  pub read_back : (c : Content) (b : ℕ) → Writable g b c → parse g b (encode c) ≡ c
  unfolding encode
  read_back blank b (inl r) = placed g b slot_region (encode blank) r
  read_back blank b (inr r) = placed g b body_region (encode blank) r
  read_back (cover c) b w = placed g b cover_region (encode (cover c)) w.0 ∙ cover_back c w.1
  read_back (slotted r) b w = placed g b slot_region (encode (slotted r)) w.0 ∙ slot_back r r.kind refl w.1
  read_back (file_body k x) b w = placed g b body_region (encode (file_body k x)) w.0 ∙ file_back k w.1 x w.2
  read_back (folder_body k es) b w = placed g b body_region (encode (folder_body k es)) w.0 ∙ folder_back k w.1 es w.2 w.3
  read_back ill_formed b w = absurd w

  -- an entry
  pub entry_back : (n : Name) (c : Handle) → good_name n ≡ true → ChildFits g c → entry_of g (cell n c) ≡ entry n c
  unfolding entry_of
  entry_back n c good w =
      let zeros : List ℕ = replicate (24 - length n) 0 in
      let s : c.slot.0 < 65536 = omega (arith, w.slot, few_slots) in
      let parts = and_parts (leb 1 (length n)) (leb (length n) 24 && plain_bytes n) good in
      let rest = and_parts (leb (length n) 24) (plain_bytes n) parts.1 in
      let a = parts.0 in
      let b = rest.0 in
      let plain = rest.1 in
      let one = le-leb 1 c.slot.0 w.from_one in
      let below = lt-ltb c.slot.0 g.slots w.slot in
      let own = le-leb 1 c.identity.0 w.own.0 in
      rw (back16 c.slot.0 s, back32 c.identity.0 w.own.1, take_at n zeros (length n) refl, a, b, one, below, own, plain)

pub read_as : (c : Content) → ReadAs c (encode c)
read_as c g b lim w = read_back g lim c b w

pub read_from : (c : Content) (z : List ℕ) → z ≡ encode c → ReadAs c z
read_from c z e g b lim w = ap (parse g b) e ∙ read_as c g b lim w

pub folder_read_from : (k : Back) (es : List Cell) (z : List ℕ) → length es ≡ 15 → whole_cells es ≡ true → z ≡ encode (folder_body k es) → ReadAsFolder k es z
folder_read_from k es z len whole e g b lim r w = read_from (folder_body k es) z e g b lim (r, w, len, whole)

pub read_as_entry : (n : Name) (c : Handle) → good_name n ≡ true → ReadAsEntry n c (cell n c)
read_as_entry n c good g lim w = entry_back g lim n c good w

pub changed_at : (k : ℕ) (e : Cell) (xs : List Cell) → k < length xs → ChangedAt k e xs (set xs k e)
changed_at k e xs lt = record { there = get_or-set_same xs k e [] lt; elsewhere = λ j ne. get_or-set_other xs k j e [] ne }

-- the cells of a folder's leaf are whole, and stay so
pub whole_of : (n : ℕ) (z : List ℕ) → 32 * n ≤ length z → whole_cells (cells_of n z) ≡ true
whole_of zero z h = refl
whole_of (suc n) z h =
    and_from (eqb (length (take 32 z)) 32) (whole_cells (cells_of n (drop 32 z))) (eq-eqb (length (take 32 z)) 32 (length-take-le 32 z (omega arith)))
    (whole_of n (drop 32 z) (simp length-drop (omega arith)))

pub cells_whole : (z : List ℕ) → length z ≡ 480 → whole_cells (cells z) ≡ true
unfolding cells
cells_whole z len = whole_of 15 z (omega arith)

pub set_whole : (es : List Cell) (k : ℕ) (e : Cell) → length e ≡ 32 → whole_cells es ≡ true → whole_cells (set es k e) ≡ true
set_whole [] k e len h = h
set_whole (x ∷ es) zero e len h = and_from (eqb (length e) 32) (whole_cells es) (eq-eqb (length e) 32 len) (and_parts (eqb (length x) 32) (whole_cells es) h).1
set_whole (x ∷ es) (suc k) e len h =
    let both = and_parts (eqb (length x) 32) (whole_cells es) h in
    and_from (eqb (length x) 32) (whole_cells (set es k e)) both.0 (set_whole es k e len both.1)
