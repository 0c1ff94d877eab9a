-- What a block that reads as a body or an entry says of its cells, and that contents of different kinds differ.
use Rattle.std.proofs.Common.{◌≡◌, ℕ, ◌<◌, ◌≤◌, Bool, true, false, cond, ◌&&◌, eqb, ltb, leb, ◌⊎◌, List, [], length, get_or, take, drop, sym, refl, ap, ◌∙◌, subst, inl, inr, arith, length-drop, length-take}
use Rattle.std.proofs.lemmas.Bool.{and_parts, leb-true}
use Rattle.base.specs.declared.owner.Handle.{Handle}
use Rattle.base.specs.declared.owner.Back.{Back}
use Rattle.device.specs.Model.{Block}
use Rattle.layout.specs.Format.{Name, Cell, Geometry, handle, Slot, Content, blank, cover, slotted, file_body, folder_body, ill_formed, Entry, entry, no_entry, le16, le32, between, cells_of, plain_bytes, back_of, back_fits, file_body_of, folder_body_of, Region, body_region, by_kind, parse, entry_of, entry_fits, blank_cell}
use Rattle.layout.specs.Head.{cells}
use Rattle.layout.specs.Laws.{whole_cells}
use Rattle.layout.proofs.Cells.{cells_take, length_cells}
use Rattle.layout.proofs.Back.{cells_whole}
use Rattle.history.proofs.Written.{body_lies}

abbrev pub code : Content → ℕ
code blank = 0
code (cover g) = 1
code (slotted r) = 2
code (file_body b x) = 3
code (folder_body b es) = 4
code ill_formed = 5

pub apart : {X : Type 0} {x a b : Content} → x ≡ a → x ≡ b → (code a ≡ code b → ⊥) → X
apart p q ne = absurd (ne (ap code (sym p ∙ q)))

pub slotted_same : {a b : Slot} → slotted a ≡ slotted b → a ≡ b
slotted_same e = cc

pub folder_back : {b c : Back} {es fs : List Cell} → folder_body b es ≡ folder_body c fs → b ≡ c
folder_back e = cc

pub folder_cells : {b c : Back} {es fs : List Cell} → folder_body b es ≡ folder_body c fs → es ≡ fs
folder_cells e = cc

pub file_back : {b c : Back} {x y : List ℕ} → file_body b x ≡ file_body c y → b ≡ c
file_back e = cc

pub file_bytes : {b c : Back} {x y : List ℕ} → file_body b x ≡ file_body c y → x ≡ y
file_bytes e = cc

pub entry_child : {a n : Name} {c d : Handle} → entry a c ≡ entry n d → c ≡ d
entry_child e = cc

pub entry_name : {a n : Name} {c d : Handle} → entry a c ≡ entry n d → a ≡ n
entry_name e = cc

pub no_such_entry : {X : Type 0} {e : Entry} {n : Name} {c : Handle} → e ≡ no_entry → e ≡ entry n c → X
no_such_entry p q = let z : ◌≡◌ {A = ℕ} 0 1 = cc in absurd (omega arith)

pub cond_parts : {A : Type 0} (b : Bool) (x y z : A) → cond b x y ≡ z → ((b ≡ true) × (x ≡ z)) ⊎ ((b ≡ false) × (y ≡ z))
cond_parts true x y z e = inl (refl, e)
cond_parts false x y z e = inr (refl, e)

-- ---- folder bodies

kinds : (p q s : Bool) (a b y : Content) → elim p [ true ↦ blank | false ↦ elim q [ true ↦ a | false ↦ elim s [ true ↦ b | false ↦ ill_formed ] ] ] ≡ y →
    ((blank ≡ y) ⊎ (ill_formed ≡ y)) ⊎ ((a ≡ y) ⊎ (b ≡ y))
kinds true q s a b y e = inl (inl e)
kinds false true s a b y e = inr (inl e)
kinds false false true a b y e = inr (inr e)
kinds false false false a b y e = inl (inr e)

-- the cells of a block of 512 bytes
cells_of_block : (z : Block) → length z ≡ 512 → (length (cells_of 15 (drop 16 z)) ≡ 15) × (whole_cells (cells_of 15 (drop 16 z)) ≡ true)
unfolding cells
cells_of_block z whole = (
  length_cells (drop 16 z),
  ap whole_cells (sym (cells_take (drop 16 z))) ∙ cells_whole (take 480 (drop 16 z)) (length-take 480 (drop 16 z) ∙ (let v = length-drop 16 z in omega arith)),
)

pub folder_parsed : (g : Geometry) (b : ℕ) (z : Block) (k : Back) (es : List Cell) → g.slots < b → b < g.blocks → length z ≡ 512 → parse g b z ≡ folder_body k es → (length es ≡ 15) × (whole_cells es ≡ true)
unfolding parse
folder_parsed g b z k es up low whole e =
    let f : by_kind g body_region (get_or z 0 0) z ≡ folder_body k es = ap (λ (t : Region). by_kind g t (get_or z 0 0) z) (sym (body_lies g b up low)) ∙ e in
    elim (kinds (eqb (get_or z 0 0) 0) (eqb (get_or z 0 0) 4) (eqb (get_or z 0 0) 5) (file_body_of g z) (folder_body_of g z) (folder_body k es) f) [
      | inl (inl q) ↦ apart q refl (λ w. omega arith)
      | inl (inr q) ↦ apart q refl (λ w. omega arith)
      | inr (inl q) ↦ elim (cond_parts (back_fits g z && leb (le16 z 10) 496) (file_body (back_of z) (between 16 (le16 z 10) z)) ill_formed (folder_body k es) q) [
        | inl w ↦ apart w.1 refl (λ v. omega arith)
        | inr w ↦ apart w.1 refl (λ v. omega arith)
      ]
      | inr (inr q) ↦ elim (cond_parts (back_fits g z && eqb (le16 z 10) 480) (folder_body (back_of z) (cells_of 15 (drop 16 z))) ill_formed (folder_body k es) q) [
        | inl w ↦ subst (λ (cs : List Cell). (length cs ≡ 15) × (whole_cells cs ≡ true)) (folder_cells w.1) (cells_of_block z whole)
        | inr w ↦ apart w.1 refl (λ v. omega arith)
      ]
    ]

-- ---- entries

pub child_parsed : (g : Geometry) (e : Cell) (n : Name) (c : Handle) → entry_of g e ≡ entry n c → 1 ≤ c.slot.0
unfolding entry_of
child_parsed g e n c q = elim (cond_parts (entry_fits g e) (entry (between 8 (get_or e 0 0) e) (handle (le16 e 2) (le32 e 4))) no_entry (entry n c) q) [
  | inr w ↦ no_such_entry (sym w.1) refl
  | inl w ↦
      (let x2 : Bool = ltb (le16 e 2) g.slots && (leb 1 (le32 e 4) && plain_bytes (between 8 (get_or e 0 0) e)) in
      let x1 : Bool = leb 1 (le16 e 2) && x2 in
      let a = and_parts (leb 1 (get_or e 0 0)) (leb (get_or e 0 0) 24 && x1) w.0 in
      let b = and_parts (leb (get_or e 0 0) 24) x1 a.1 in
      let d = and_parts (leb 1 (le16 e 2)) x2 b.1 in
      let same : c ≡ handle (le16 e 2) (le32 e 4) = sym (entry_child w.1) in
      subst (λ (h : Handle). 1 ≤ h.slot.0) (sym same) (leb-true 1 (le16 e 2) d.0))
]

pub blank_entry : (g : Geometry) → entry_of g blank_cell ≡ no_entry
unfolding entry_of
blank_entry g = refl

pub past_entry : (g : Geometry) → entry_of g [] ≡ no_entry
unfolding entry_of
past_entry g = refl
