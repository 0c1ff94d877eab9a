-- Tests of all bytes, and an entry by its parts.
use Rattle.std.proofs.Common.{◌≡◌, ℕ, zero, suc, ◌+◌, ◌-◌, ◌≤◌, Bool, true, false, cond, not, ◌&&◌, ◌||◌, eqb, ltb, leb, List, [], ◌∷◌, length, get_or, take, drop, replicate, sym, refl, ap, ◌∙◌, subst, ⊎_elim, arith}
use Rattle.std.specs.List.{list_any}
use Rattle.std.specs.Cmp.Lexicographic.{pointwise}
use Rattle.std.proofs.lemmas.List.{length-drop, length-take-le}
use Rattle.std.proofs.lemmas.Bool.{eqb-true, eq-eqb, and_parts, and_from, and_right, cases_Bool, leb-true, ltb-true}
use Rattle.base.specs.declared.owner.Handle.{Handle}
use Rattle.layout.specs.Format.{Geometry, no_entry, le16, le32, plain_bytes, entry_fits, entry_of}
use Rattle.layout.specs.Entries.{State, blank, well_formed, ill_formed, all_zero, child_at, name_at, used_state, entry_state, leads}
use Rattle.entries.specs.View.{entry_head_fits}
use Rattle.layout.specs.Laws.{Bytes, EntryRanged}

-- the two tests of a name are the one of its bytes
pub plain_is : (xs : List ℕ) → (not (list_any (λ x. eqb x 0) xs) && not (list_any (λ x. eqb x 47) xs)) ≡ plain_bytes xs
plain_is [] = refl
plain_is (x ∷ xs) = byte (eqb x 0) (eqb x 47) (list_any (λ y. eqb y 0) xs) (list_any (λ y. eqb y 47) xs) ∙ ap (λ r. not (eqb x 0 || eqb x 47) && r) (plain_is xs)
  where
    byte : (a b c d : Bool) → (not (a || c) && not (b || d)) ≡ (not (a || b) && (not c && not d))
    byte true b c d = refl
    byte false true true d = refl
    byte false true false d = refl
    byte false false c d = refl

-- equal to zeros of the same length
pub zeros_are : (n : ℕ) (xs : List ℕ) → length xs ≡ n → pointwise eqb xs (replicate n 0) ≡ all_zero xs
zeros_are zero [] e = refl
zeros_are (suc n) (x ∷ xs) e = ap (λ r. eqb x 0 && r) (zeros_are n xs (omega arith))
zeros_are zero (x ∷ xs) e = absurd (omega arith)
zeros_are (suc n) [] e = absurd (omega arith)

grouped : (a b c d e f : Bool) → ((a && (b && (c && (d && e)))) && f) ≡ (a && (b && (c && (d && (e && f)))))
grouped false b c d e f = refl
grouped true false c d e f = refl
grouped true true false d e f = refl
grouped true true true false e f = refl
grouped true true true true e f = refl

-- an entry, from its parts as the code has them
module _ (g : Geometry) (e : List ℕ) where
  abbrev name_part : List ℕ
  name_part = take (8 + get_or e 0 0 - 8) (drop 8 e)

  name_part_is : name_part ≡ name_at e
  name_part_is = ap (λ n. take n (drop 8 e)) (omega arith)

  fits_is : (entry_head_fits g (get_or e 0 0) (child_at e) && plain_bytes (name_at e)) ≡ entry_fits g e
  fits_is =
      grouped (leb 1 (get_or e 0 0)) (leb (get_or e 0 0) 24) (leb 1 (le16 e 2)) (ltb (le16 e 2) g.slots) (leb 1 (le32 e 4)) (plain_bytes (name_at e))

  pub whole : (c : Handle) → c ≡ child_at e → entry_head_fits g (get_or e 0 0) c ≡ true → plain_bytes name_part ≡ true → well_formed name_part c ≡ used_state g e
  whole c ec h n =
      let h' = rw ec at h in
      let n' = rw name_part_is at n in
      let fits : entry_fits g e ≡ true = sym fits_is ∙ rw (h', n') in
      rw (ec, name_part_is, fits)

  pub bad_head : (c : Handle) → c ≡ child_at e → entry_head_fits g (get_or e 0 0) c ≡ false → ill_formed ≡ used_state g e
  bad_head c ec h =
      let h' = rw ec at h in
      let fits : entry_fits g e ≡ false = sym fits_is ∙ rw h' in
      rw fits

  pub bad_name : plain_bytes name_part ≡ false → ill_formed ≡ used_state g e
  bad_name n =
      let n' = rw name_part_is at n in
      let fits : entry_fits g e ≡ false = sym fits_is ∙ and_right (entry_head_fits g (get_or e 0 0) (child_at e)) (plain_bytes (name_at e)) n' in
      rw fits

  -- an entry that is well formed or ill formed leads where it should
  used_leads : leads (used_state g e) ≡ entry_of g e
  unfolding entry_of
  used_leads = ⊎_elim (λ (t : entry_fits g e ≡ true). rw t) (λ (f : entry_fits g e ≡ false). rw f) (cases_Bool (entry_fits g e))

zero_first : (e : List ℕ) → all_zero e ≡ true → get_or e 0 0 ≡ 0
zero_first [] z = refl
zero_first (x ∷ xs) z = eqb-true x 0 (and_parts (eqb x 0) (all_zero xs) z).0

-- a blank entry leads nowhere, for its name has no length
zero_leads : (g : Geometry) (e : List ℕ) → all_zero e ≡ true → no_entry ≡ entry_of g e
unfolding entry_of
zero_leads g e z = let f = zero_first e z in rw f

state_leads : (g : Geometry) (e : List ℕ) → length e ≡ 32 → leads (entry_state g e) ≡ entry_of g e
state_leads g e len =
    let l = eq-eqb (length e) 32 len in
    ⊎_elim (λ (t : all_zero e ≡ true). rw (l, t) (zero_leads g e t)) (λ (f : all_zero e ≡ false). rw (l, f) (used_leads g e)) (cases_Bool (all_zero e))

-- a cell of 32 bytes, from its tests as the code makes them
module _ (g : Geometry) (e : List ℕ) (len : length e ≡ 32) where
  pub blank_state : all_zero e ≡ true → blank ≡ entry_state g e
  blank_state z = let l = eq-eqb (length e) 32 len in rw (l, z)

  pub other_state : (s : State) → all_zero e ≡ false → s ≡ used_state g e → s ≡ entry_state g e
  other_state s z u = let l = eq-eqb (length e) 32 len in rw (l, z) u

  pub state_led : (s : State) → s ≡ entry_state g e → leads s ≡ entry_of g e
  state_led s i = ap leads i ∙ state_leads g e len

-- what is well formed keeps its ranges
module _ (g : Geometry) (e : List ℕ) (fits : Bytes e) (len : length e ≡ 32) where
  ranged_used : (t : Bool) → entry_fits g e ≡ t → EntryRanged g (cond t (well_formed (name_at e) (child_at e)) ill_formed)
  ranged_used false t = tt
  ranged_used true t =
      let a = and_parts (leb 1 (get_or e 0 0)) (leb (get_or e 0 0) 24 && (leb 1 (le16 e 2) && (ltb (le16 e 2) g.slots && (leb 1 (le32 e 4) && plain_bytes (name_at e))))) t in
      let b = and_parts (leb (get_or e 0 0) 24) (leb 1 (le16 e 2) && (ltb (le16 e 2) g.slots && (leb 1 (le32 e 4) && plain_bytes (name_at e)))) a.1 in
      let c = and_parts (leb 1 (le16 e 2)) (ltb (le16 e 2) g.slots && (leb 1 (le32 e 4) && plain_bytes (name_at e))) b.1 in
      let d = and_parts (ltb (le16 e 2) g.slots) (leb 1 (le32 e 4) && plain_bytes (name_at e)) c.1 in
      let f = and_parts (leb 1 (le32 e 4)) (plain_bytes (name_at e)) d.1 in
      let short : get_or e 0 0 ≤ 24 = leb-true (get_or e 0 0) 24 b.0 in
      let room : get_or e 0 0 ≤ length (drop 8 e) = simp length-drop (omega arith) in
      let n : length (name_at e) ≡ get_or e 0 0 = length-take-le (get_or e 0 0) (drop 8 e) room in (
        and_from (leb 1 (length (name_at e))) (leb (length (name_at e)) 24 && plain_bytes (name_at e)) (ap (leb 1) n ∙ a.0)
            (and_from (leb (length (name_at e)) 24) (plain_bytes (name_at e)) (ap (λ m. leb m 24) n ∙ b.0) f.1),
        record {
          from_one = leb-true 1 (le16 e 2) c.0;
          slot = ltb-true (le16 e 2) g.slots d.0;
          own = (leb-true 1 (le32 e 4) f.0, omega (arith, fits 4, fits 5, fits 6, fits 7));
        },
      )

  ranged_zero : (t : Bool) → EntryRanged g (cond t blank (used_state g e))
  ranged_zero true = tt
  ranged_zero false = ranged_used (entry_fits g e) refl

  pub ranged_state : (s : State) → s ≡ entry_state g e → EntryRanged g s
  ranged_state s i =
      let l = eq-eqb (length e) 32 len in
      subst (EntryRanged g) (sym i) (rw l (ranged_zero (all_zero e)))
