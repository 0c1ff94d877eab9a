-- What a block that was read says of its place and its numbers.
use Rattle.std.proofs.Common.{◌≡◌, ℕ, zero, suc, ◌<◌, ◌≤◌, Bool, true, false, cond, ◌&&◌, eqb, ltb, leb, List, [], ◌∷◌, length, get_or, drop, sym, refl, ap, subst, arith}
use Rattle.std.proofs.lemmas.Bool.{and_parts, eqb-false, leb-true, leb-false, ltb-true, cond_both}
use Rattle.std.proofs.lemmas.List.{length-take}
use Rattle.base.specs.declared.owner.Kind.{Kind}
use Rattle.base.specs.declared.owner.Kind.TheVariants.{File, Folder}
use Rattle.base.specs.declared.owner.Back.{Back}
use Rattle.device.specs.Model.{Block}
use Rattle.layout.specs.Format.{Cell, Geometry, Slot, Content, blank, cover, slotted, file_body, folder_body, ill_formed, Region, cover_region, slot_region, body_region, beyond, region, by_kind, parse, in_limits, le16, le32, leaf_limit, numbers_of, cells_of, between, body_number, all_bodies, slot_fits, slot_fields, slot_of, cover_of, back_of, back_fits, file_body_of, folder_body_of}

-- a slot stands in the slot region, and its numbers are those of bodies
pub record SlotFormed (g : Geometry) (b : ℕ) (r : Slot) : Type 0 where
  pub above : 0 < b
  pub inside : b ≤ g.slots
  pub count : length r.numbers ≤ leaf_limit
  pub identity : 0 < r.identity
  pub parent_identity : 0 < r.parent.identity.0
  pub parent : r.parent.slot.0 < g.slots
  pub numbers : all_bodies g r.numbers ≡ true

-- a body stands in the body region, and its back line is in range
pub record BodyFormed (g : Geometry) (b : ℕ) (k : Back) : Type 0 where
  pub above : g.slots < b
  pub inside : b < g.blocks
  pub owner : k.owner.slot.0 < g.slots
  pub identity : 0 < k.owner.identity.0
  pub leaf : k.leaf.0 < leaf_limit

pub Formed : Geometry → ℕ → Content → Type 0
Formed g b (slotted r) = SlotFormed g b r
Formed g b (file_body k x) = BodyFormed g b k × (length x ≤ 496)
Formed g b (folder_body k es) = BodyFormed g b k × (length es ≡ 15)
Formed g b (cover h) = in_limits h.blocks h.slots ≡ true
Formed g b blank = Unit {0}
Formed g b ill_formed = Unit {0}

numbers_length : (n : ℕ) (z : List ℕ) → length (numbers_of n z) ≡ n
numbers_length zero z = refl
numbers_length (suc n) z = ap suc (numbers_length n (drop 2 z))

cells_length : (n : ℕ) (z : List ℕ) → length (cells_of n z) ≡ n
cells_length zero z = refl
cells_length (suc n) z = ap suc (cells_length n (drop 32 z))

RegionIs : Geometry → ℕ → Region → Type 0
RegionIs g b cover_region = Unit {0}
RegionIs g b slot_region = (0 < b) × (b ≤ g.slots)
RegionIs g b body_region = (g.slots < b) × (b < g.blocks)
RegionIs g b beyond = Unit {0}

positive : (b : ℕ) → (b ≡ 0 → ⊥) → 0 < b
positive zero k = absurd (k refl)
positive (suc b) k = omega arith

region_is : (g : Geometry) (b : ℕ) → RegionIs g b (region g b)
unfolding RegionIs
region_is g b = go (eqb b 0) (leb b g.slots) (ltb b g.blocks) refl refl refl
  where
    go : (s t u : Bool) → eqb b 0 ≡ s → leb b g.slots ≡ t → ltb b g.blocks ≡ u → RegionIs g b (cond s cover_region (cond t slot_region (cond u body_region beyond)))
    go true t u f h k = tt
    go false true u f h k = (positive b (eqb-false b 0 f), leb-true b g.slots h)
    go false false true f h k = (leb-false b g.slots h, ltb-true b g.blocks k)
    go false false false f h k = tt

module _ (g : Geometry) (b : ℕ) (z : Block) where
  pub cover_formed : Formed g b (cover_of z)
  unfolding Formed
  cover_formed =
      cond_both (eqb (get_or z 0 0) 1 && (eqb (get_or z 1 0) 1 && in_limits (le16 z 2) (le16 z 4))) _ ill_formed (Formed g b)
      (λ h. (and_parts (eqb (get_or z 1 0) 1) (in_limits (le16 z 2) (le16 z 4)) (and_parts (eqb (get_or z 0 0) 1) (eqb (get_or z 1 0) 1 && in_limits (le16 z 2) (le16 z 4)) h).1).1)
      (λ h. tt)

  of_slot : (0 < b) × (b ≤ g.slots) → (d : Kind) → Formed g b (slot_of g d z)
  unfolding Formed
  of_slot w d = cond_both (slot_fits g z) (slotted (slot_fields d z)) ill_formed (Formed g b) yes (λ h. tt)
    where
      yes : slot_fits g z ≡ true → SlotFormed g b (slot_fields d z)
      yes h =
          let a = and_parts (leb (le16 z 2) leaf_limit) (leb 1 (le32 z 4) && (leb 1 (le32 z 8) && (ltb (le16 z 12) g.slots && all_bodies g (numbers_of (le16 z 2) (drop 16 z))))) h in
          let i = and_parts (leb 1 (le32 z 4)) (leb 1 (le32 z 8) && (ltb (le16 z 12) g.slots && all_bodies g (numbers_of (le16 z 2) (drop 16 z)))) a.1 in
          let p = and_parts (leb 1 (le32 z 8)) (ltb (le16 z 12) g.slots && all_bodies g (numbers_of (le16 z 2) (drop 16 z))) i.1 in
          let q = and_parts (ltb (le16 z 12) g.slots) (all_bodies g (numbers_of (le16 z 2) (drop 16 z))) p.1 in
          record {
            above = w.0;
            inside = w.1;
            count = subst (λ (n : ℕ). n ≤ leaf_limit) (sym (numbers_length (le16 z 2) (drop 16 z))) (leb-true (le16 z 2) leaf_limit a.0);
            identity = leb-true 1 (le32 z 4) i.0;
            parent_identity = leb-true 1 (le32 z 8) p.0;
            parent = ltb-true (le16 z 12) g.slots q.0;
            numbers = q.1;
          }

  of_back : (g.slots < b) × (b < g.blocks) → back_fits g z ≡ true → BodyFormed g b (back_of z)
  of_back w h =
      let a = and_parts (ltb (le16 z 2) g.slots) (leb 1 (le32 z 4) && ltb (le16 z 8) leaf_limit) h in
      let i = and_parts (leb 1 (le32 z 4)) (ltb (le16 z 8) leaf_limit) a.1 in
      record { above = w.0; inside = w.1; owner = ltb-true (le16 z 2) g.slots a.0; identity = leb-true 1 (le32 z 4) i.0; leaf = ltb-true (le16 z 8) leaf_limit i.1 }

  of_file : (g.slots < b) × (b < g.blocks) → Formed g b (file_body_of g z)
  unfolding Formed
  of_file w = cond_both (back_fits g z && leb (le16 z 10) 496) (file_body (back_of z) (between 16 (le16 z 10) z)) ill_formed (Formed g b) yes (λ h. tt)
    where
      yes : (back_fits g z && leb (le16 z 10) 496) ≡ true → BodyFormed g b (back_of z) × (length (between 16 (le16 z 10) z) ≤ 496)
      yes h =
          let a = and_parts (back_fits g z) (leb (le16 z 10) 496) h in
          (of_back w a.0, omega (arith, length-take (le16 z 10) (drop 16 z), leb-true (le16 z 10) 496 a.1))

  of_folder : (g.slots < b) × (b < g.blocks) → Formed g b (folder_body_of g z)
  unfolding Formed
  of_folder w = cond_both (back_fits g z && eqb (le16 z 10) 480) (folder_body (back_of z) (cells_of 15 (drop 16 z))) ill_formed (Formed g b)
      (λ h. (of_back w (and_parts (back_fits g z) (eqb (le16 z 10) 480) h).0, cells_length 15 (drop 16 z))) (λ h. tt)

  in_slot_region : (0 < b) × (b ≤ g.slots) → (s t u : Bool) → Formed g b (elim s [ true ↦ blank | false ↦ elim t [ true ↦ slot_of g File z | false ↦ elim u [ true ↦ slot_of g Folder z | false ↦ ill_formed ] ] ])
  unfolding Formed
  in_slot_region w true t u = tt
  in_slot_region w false true u = of_slot w File
  in_slot_region w false false true = of_slot w Folder
  in_slot_region w false false false = tt

  in_body_region : (g.slots < b) × (b < g.blocks) → (s t u : Bool) → Formed g b (elim s [ true ↦ blank | false ↦ elim t [ true ↦ file_body_of g z | false ↦ elim u [ true ↦ folder_body_of g z | false ↦ ill_formed ] ] ])
  unfolding Formed
  in_body_region w true t u = tt
  in_body_region w false true u = of_file w
  in_body_region w false false true = of_folder w
  in_body_region w false false false = tt

  pub parse_formed : Formed g b (parse g b z)
  unfolding parse Formed RegionIs
  parse_formed = go (region g b) (region_is g b)
    where
      go : (x : Region) → RegionIs g b x → Formed g b (by_kind g x (get_or z 0 0) z)
      go cover_region w = cover_formed
      go slot_region w = in_slot_region w (eqb (get_or z 0 0) 0) (eqb (get_or z 0 0) 2) (eqb (get_or z 0 0) 3)
      go body_region w = in_body_region w (eqb (get_or z 0 0) 0) (eqb (get_or z 0 0) 4) (eqb (get_or z 0 0) 5)
      go beyond w = tt

pub slot_formed : (g : Geometry) (b : ℕ) (z : Block) (r : Slot) → parse g b z ≡ slotted r → SlotFormed g b r
unfolding Formed
slot_formed g b z r e = subst (Formed g b) e (parse_formed g b z)

pub file_formed : (g : Geometry) (b : ℕ) (z : Block) (k : Back) (x : List ℕ) → parse g b z ≡ file_body k x → BodyFormed g b k × (length x ≤ 496)
unfolding Formed
file_formed g b z k x e = subst (Formed g b) e (parse_formed g b z)

pub folder_formed : (g : Geometry) (b : ℕ) (z : Block) (k : Back) (es : List Cell) → parse g b z ≡ folder_body k es → BodyFormed g b k × (length es ≡ 15)
unfolding Formed
folder_formed g b z k es e = subst (Formed g b) e (parse_formed g b z)

-- every number of a slot is that of a body
pub body_at : (g : Geometry) (ns : List ℕ) (k : ℕ) → all_bodies g ns ≡ true → k < length ns → (g.slots < get_or ns k 0) × (get_or ns k 0 < g.blocks)
body_at g [] k e l = absurd (omega arith)
body_at g (n ∷ ns) zero e l =
    let a = and_parts (body_number g n) (all_bodies g ns) e in
    let c = and_parts (ltb g.slots n) (ltb n g.blocks) a.0 in
    (ltb-true g.slots n c.0, ltb-true n g.blocks c.1)
body_at g (n ∷ ns) (suc k) e l = body_at g ns k (and_parts (body_number g n) (all_bodies g ns) e).1 (omega arith)

pub cover_limits : (z : Block) (g : Geometry) → cover_of z ≡ cover g → in_limits g.blocks g.slots ≡ true
unfolding Formed
cover_limits z g e = subst (Formed g 0) e (cover_formed g 0 z)
