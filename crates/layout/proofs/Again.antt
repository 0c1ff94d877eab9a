-- What is read may be written again.
use Rattle.std.proofs.Common.{◌≡◌, ℕ, ◌+◌, ◌^◌, ◌<◌, ◌≤◌, Bool, true, false, cond, ◌&&◌, eqb, ltb, leb, List, length, get_or, drop, sym, refl, subst, inl, inr, arith}
use Rattle.std.proofs.lemmas.List.{length-take-le, length-drop}
use Rattle.std.proofs.lemmas.Bool.{and_parts, leb-true, ltb-true}
use Rattle.base.specs.declared.owner.Kind.{Kind}
use Rattle.base.specs.declared.owner.Kind.TheVariants.{File, Folder}
use Rattle.layout.specs.Format.{Geometry, Content, blank, ill_formed, in_limits, leaf_limit, region, Region, cover_region, slot_region, body_region, beyond, by_kind, parse, cover_of, slot_of, slot_fits, slot_fields, back_of, back_fits, file_body_of, folder_body_of, all_bodies, numbers_of, le16, le32}
use Rattle.layout.specs.Laws.{SlotFits, BackFits, Writable, Rewritable, Bytes}
use Rattle.layout.proofs.Numbers.{length_numbers}
use Rattle.layout.proofs.Back.{whole_of}

-- a content that came from a test
by_test : (P : Content → Type 0) (t : Bool) (x c : Content) → cond t x ill_formed ≡ c → (c ≡ ill_formed → ⊥) → (t ≡ true → P x) → P c
by_test P true x c e ne p = subst P e (p refl)
by_test P false x c e ne p = absurd (ne (sym e))

-- and one that came from three
abbrev pick : Bool → Bool → Bool → Content → Content → Content → Content
pick p q r x y w =
    elim p [ true ↦ x | false ↦ elim q [ true ↦ y | false ↦ elim r [ true ↦ w | false ↦ ill_formed ] ] ]

by_pick : (P : Content → Type 0) (p q r : Bool) (x y w c : Content) → pick p q r x y w ≡ c → (c ≡ ill_formed → ⊥) → (x ≡ c → P c) → (y ≡ c → P c) → (w ≡ c → P c) → P c
by_pick P true q r x y w c e ne i j k = i e
by_pick P false true r x y w c e ne i j k = j e
by_pick P false false true x y w c e ne i j k = k e
by_pick P false false false x y w c e ne i j k = absurd (ne (sym e))

module _ (g : Geometry) (b : ℕ) (z : List ℕ) (fits : Bytes z) where
  narrow : (i : ℕ) → le32 z i < 2 ^ 32
  narrow i = omega (arith, fits i, fits (i + 1), fits (i + 2), fits (i + 2 + 1))

  -- the tests of a slot, one by one
  module _ (t : slot_fits g z ≡ true) where
    abbrev s1 : Bool
    s1 = ltb (le16 z 12) g.slots && all_bodies g (numbers_of (le16 z 2) (drop 16 z))

    abbrev s2 : Bool
    s2 = leb 1 (le32 z 8) && s1

    abbrev s3 : Bool
    s3 = leb 1 (le32 z 4) && s2

    slot_writable : (d : Kind) → SlotFits g (slot_fields d z)
    slot_writable d =
        let a = and_parts (leb (le16 z 2) leaf_limit) s3 t in
        let b = and_parts (leb 1 (le32 z 4)) s2 a.1 in
        let c = and_parts (leb 1 (le32 z 8)) s1 b.1 in
        let e = and_parts (ltb (le16 z 12) g.slots) (all_bodies g (numbers_of (le16 z 2) (drop 16 z))) c.1 in
        record {
          few = omega (arith, length_numbers (le16 z 2) (drop 16 z), leb-true (le16 z 2) 64 a.0);
          own = (leb-true 1 (le32 z 4) b.0, narrow 4);
          parent = (leb-true 1 (le32 z 8) c.0, narrow 8);
          parent_slot = ltb-true (le16 z 12) g.slots e.0;
          bodies = e.1;
        }

  back_writable : back_fits g z ≡ true → BackFits g (back_of z)
  back_writable t =
      let a = and_parts (ltb (le16 z 2) g.slots) (leb 1 (le32 z 4) && ltb (le16 z 8) leaf_limit) t in
      let c = and_parts (leb 1 (le32 z 4)) (ltb (le16 z 8) leaf_limit) a.1 in
      record { slot = ltb-true (le16 z 2) g.slots a.0; own = (leb-true 1 (le32 z 4) c.0, narrow 4); leaf = ltb-true (le16 z 8) 64 c.1 }

  module _ (len : length z ≡ 512) (c : Content) (ne : c ≡ ill_formed → ⊥) where
    in_cover : region g b ≡ cover_region → cover_of z ≡ c → Writable g b c
    in_cover r e =
        by_test (Writable g b) (eqb (get_or z 0 0) 1 && (eqb (get_or z 1 0) 1 && in_limits (le16 z 2) (le16 z 4))) _ c e ne
        (λ t. (r, (and_parts (eqb (get_or z 1 0) 1) (in_limits (le16 z 2) (le16 z 4)) (and_parts (eqb (get_or z 0 0) 1) (eqb (get_or z 1 0) 1 && in_limits (le16 z 2) (le16 z 4)) t).1).1))

    as_slot : region g b ≡ slot_region → (d : Kind) → slot_of g d z ≡ c → Writable g b c
    as_slot r d e = by_test (Writable g b) (slot_fits g z) _ c e ne (λ t. (r, slot_writable t d))

    as_file : region g b ≡ body_region → file_body_of g z ≡ c → Writable g b c
    as_file r e =
        by_test (Writable g b) (back_fits g z && leb (le16 z 10) 496) _ c e ne
        (λ t.
        let a = and_parts (back_fits g z) (leb (le16 z 10) 496) t in
        let used : le16 z 10 ≤ 496 = leb-true (le16 z 10) 496 a.1 in
        let room : le16 z 10 ≤ length (drop 16 z) = simp length-drop (omega arith) in
        (r, back_writable a.0, omega (arith, length-take-le (le16 z 10) (drop 16 z) room)))

    as_folder : region g b ≡ body_region → folder_body_of g z ≡ c → Writable g b c
    as_folder r e =
        by_test (Writable g b) (back_fits g z && eqb (le16 z 10) 480) _ c e ne
        (λ t. (r, back_writable (and_parts (back_fits g z) (eqb (le16 z 10) 480) t).0, refl, whole_of 15 (drop 16 z) (simp length-drop (omega arith))))

    in_slots : (x : ℕ) → region g b ≡ slot_region → by_kind g slot_region x z ≡ c → Writable g b c
    in_slots x r e =
        by_pick (Writable g b) (eqb x 0) (eqb x 2) (eqb x 3) blank (slot_of g File z) (slot_of g Folder z) c e ne (λ h. subst (Writable g b) h (inl r)) (as_slot r File) (as_slot r Folder)

    in_bodies : (x : ℕ) → region g b ≡ body_region → by_kind g body_region x z ≡ c → Writable g b c
    in_bodies x r e =
        by_pick (Writable g b) (eqb x 0) (eqb x 4) (eqb x 5) blank (file_body_of g z) (folder_body_of g z) c e ne (λ h. subst (Writable g b) h (inr r)) (as_file r) (as_folder r)

    by_region : (r : Region) → region g b ≡ r → by_kind g r (get_or z 0 0) z ≡ c → Writable g b c
    by_region cover_region r e = in_cover r e
    by_region slot_region r e = in_slots (get_or z 0 0) r e
    by_region body_region r e = in_bodies (get_or z 0 0) r e
    by_region beyond r e = absurd (ne (sym e))

    read_writable : parse g b z ≡ c → Writable g b c
    unfolding parse
    read_writable e = by_region (region g b) refl e

pub read_again : (g : Geometry) (b : ℕ) (z : List ℕ) → Rewritable g b z
read_again g b z fits len c e ne = read_writable g b z fits len c ne e
