-- The rows of damage, leaf by leaf and slot by slot.
use Rattle.std.proofs.Common.{◌≡◌, ℕ, ◌+◌, Bool, true, false, cond, not, List, [], ◌∷◌, ◌++◌, map, get_or, drop, Some, Option, sym, refl, ap, ◌∙◌, arith}
use Rattle.std.proofs.lemmas.List.{append_assoc, append-nil, drop-drop, get_or-drop, map-append}
use Rattle.std.proofs.lemmas.Simd.{map-map}
use Rattle.std.proofs.lemmas.Bool.{cond-true, cond-false}
use Rattle.base.specs.declared.owner.Handle.{Handle}
use Rattle.layout.specs.Format.{Geometry, Slot, handle}
use Rattle.rule.specs.Agree.{View, those, from, good, count, slot_at}
use Rattle.rule.specs.Reading.{DamageLine, bad_leaves_of, bad_leaves}
use Rattle.listing.specs.declared.line.DamageLine.{DamageLine as DamageRow}
use Rattle.tours.specs.Damage.{damage_row, leaf_rows, leaves_rows, slot_rows, marked_rows}
use Rattle.tours.proofs.Rows.{those_append, from_more}

-- the mark that comes next, of marks that are read one after another
pub next_mark : (marks xs rest : List Bool) (n : ℕ) (b : Bool) → xs ≡ drop n marks → xs ≡ b ∷ rest → (b ≡ get_or marks n false) × (rest ≡ drop (n + 1) marks)
next_mark marks xs rest n b e q =
    let d : (b ∷ rest) ≡ drop n marks = sym q ∙ e in (
      ap (λ (ys : List Bool). get_or ys 0 false) d ∙ get_or-drop n marks 0 false ∙ ap (λ (i : ℕ). get_or marks i false) (omega arith),
      ap (drop 1) d ∙ drop-drop 1 n marks,
    )

pub leaves_more : (v : View) (h : Handle) (r : Slot) (k : ℕ) → leaf_rows v h r (from 0 k) ++ leaf_rows v h r (k ∷ []) ≡ leaf_rows v h r (from 0 (k + 1))
leaves_more v h r k =
    sym (ap (leaf_rows v h r) (from_more k)
    ∙ ap (map (λ (k : ℕ). record { slot = h.slot; leaf = record { 0 = k } })) (those_append (λ k. not (good v h r k)) (from 0 k) (k ∷ []))
    ∙ map-append (λ (k : ℕ). record { slot = h.slot; leaf = record { 0 = k } }) (those (λ k. not (good v h r k)) (from 0 k)) (those (λ k. not (good v h r k)) (k ∷ [])))

module _ (g : Geometry) (v : View) where
  pub slot_there : (s : ℕ) (r : Slot) → slot_at g v s ≡ Some r → leaves_rows v (handle s r.identity) r ≡ slot_rows g v s
  slot_there s r e =
      sym (ap (λ (o : Option Slot). map damage_row (bad_leaves_of v s o)) e
      ∙ map-map damage_row (λ (k : ℕ). record { slot = s; leaf = k }) (those (λ k. not (good v (handle s r.identity) r k)) (from 0 (count r))))

  bad_append : (xs ys : List ℕ) → bad_leaves g v (xs ++ ys) ≡ bad_leaves g v xs ++ bad_leaves g v ys
  bad_append [] ys = refl
  bad_append (x ∷ xs) ys =
      ap (λ (ls : List DamageLine). bad_leaves_of v x (slot_at g v x) ++ ls) (bad_append xs ys)
      ∙ sym (append_assoc (bad_leaves_of v x (slot_at g v x)) (bad_leaves g v xs) (bad_leaves g v ys))

  one_row : (marks : List Bool) (s : ℕ) → marked_rows g v marks (s ∷ []) ≡ cond (get_or marks s false) (slot_rows g v s) []
  one_row marks s = go (get_or marks s false)
    where
      go : (b : Bool) → map damage_row (bad_leaves g v (cond b (s ∷ []) [])) ≡ cond b (slot_rows g v s) []
      go true = ap (map damage_row) (append-nil (bad_leaves_of v s (slot_at g v s)))
      go false = refl

  slots_more : (marks : List Bool) (s : ℕ) → marked_rows g v marks (from 0 s) ++ cond (get_or marks s false) (slot_rows g v s) [] ≡ marked_rows g v marks (from 0 (s + 1))
  slots_more marks s =
      ap (λ (rows : List DamageRow). marked_rows g v marks (from 0 s) ++ rows) (sym (one_row marks s))
      ∙ sym (ap (marked_rows g v marks) (from_more s)
      ∙ ap (λ (ss : List ℕ). map damage_row (bad_leaves g v ss)) (those_append (λ s. get_or marks s false) (from 0 s) (s ∷ []))
      ∙ ap (map damage_row) (bad_append (those (λ s. get_or marks s false) (from 0 s)) (those (λ s. get_or marks s false) (s ∷ [])))
      ∙ map-append damage_row (bad_leaves g v (those (λ s. get_or marks s false) (from 0 s))) (bad_leaves g v (those (λ s. get_or marks s false) (s ∷ []))))

  pub marked_more : (marks : List Bool) (s : ℕ) → get_or marks s false ≡ true → marked_rows g v marks (from 0 s) ++ slot_rows g v s ≡ marked_rows g v marks (from 0 (s + 1))
  marked_more marks s e = ap (λ (rows : List DamageRow). marked_rows g v marks (from 0 s) ++ rows) (sym (cond-true (get_or marks s false) (slot_rows g v s) [] e)) ∙ slots_more marks s

  pub unmarked_more : (marks : List Bool) (s : ℕ) → get_or marks s false ≡ false → marked_rows g v marks (from 0 s) ≡ marked_rows g v marks (from 0 (s + 1))
  unmarked_more marks s e =
      sym (append-nil (marked_rows g v marks (from 0 s)))
      ∙ ap (λ (rows : List DamageRow). marked_rows g v marks (from 0 s) ++ rows) (sym (cond-false (get_or marks s false) (slot_rows g v s) [] e)) ∙ slots_more marks s
