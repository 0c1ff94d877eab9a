-- What the parts that a parser read make of a block.
use Rattle.std.proofs.Common.{◌≡◌, ℕ, ◌≤◌, Bool, true, false, cond, ◌&&◌, ltb, leb, List, length, get_or, take, drop, refl, ap, ◌∙◌, arith}
use Rattle.std.proofs.lemmas.List.{take_all, length-drop}
use Rattle.base.specs.declared.owner.Kind.{Kind}
use Rattle.base.specs.declared.owner.Kind.TheVariants.{File, Folder}
use Rattle.layout.specs.Format.{Geometry, Content, Region, by_kind, parse, region, slotted, ill_formed, slot_fields, slot_of, le16, le32, numbers_of, all_bodies, leaf_limit}
use Rattle.layout.specs.Head.{cells, slot_head_at, body_head_at, slot_by, body_by, body_of}

-- the head, and the rest of the block
pub joined : {H : Type 0} (of : H → List ℕ → Content) (z : List ℕ) (p q : Content) (h h' : H) → length z ≡ 512 → p ≡ of h (take 496 (drop 16 z)) → h ≡ h' → of h' (drop 16 z) ≡ q → p ≡ q
joined of z p q h h' len e eh el =
    let whole : length (drop 16 z) ≤ 496 = simp length-drop (omega arith) in
    e ∙ ap (of h) (take_all 496 (drop 16 z) whole) ∙ ap (λ x. of x (drop 16 z)) eh ∙ el

grouped : (a b c d e : Bool) → ((a && (b && (c && d))) && e) ≡ (a && (b && (c && (d && e))))
grouped false b c d e = refl
grouped true false c d e = refl
grouped true true false d e = refl
grouped true true true d e = refl

module _ (g : Geometry) (z : List ℕ) where
  pub slot_parts : (d : Kind) → slot_by g d (slot_head_at z) (drop 16 z) ≡ slot_of g d z
  slot_parts d =
      ap (λ t. cond t (slotted (slot_fields d z)) ill_formed)
      (grouped (leb (le16 z 2) leaf_limit) (leb 1 (le32 z 4)) (leb 1 (le32 z 8)) (ltb (le16 z 12) g.slots) (all_bodies g (numbers_of (le16 z 2) (drop 16 z))))

  pub body_parts : (d : Kind) → body_by g d (body_head_at z) (drop 16 z) ≡ body_of g d z
  unfolding cells
  body_parts File = refl
  body_parts Folder = refl

  -- where the block lies
  pub placed : (b : ℕ) (r : Region) (p : Content) → r ≡ region g b → p ≡ by_kind g r (get_or z 0 0) z → p ≡ parse g b z
  unfolding parse
  placed b r p er e = e ∙ ap (λ x. by_kind g x (get_or z 0 0) z) er
