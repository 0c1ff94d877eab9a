-- The rows of a folder's entries, cell by cell and leaf by leaf.
use Rattle.std.proofs.Common.{◌≡◌, ℕ, zero, suc, ◌+◌, ◌<◌, Bool, true, false, cond, ltb, List, [], ◌∷◌, ◌++◌, map, length, get_or, take, Option, sym, refl, ap, ◌∙◌, inl, inr, add-one, arith}
use Rattle.std.proofs.lemmas.List.{append_assoc, append-nil, map-append, take_more}
use Rattle.std.proofs.lemmas.Bool.{cond-true, and_parts}
use Rattle.base.specs.declared.owner.Kind.TheVariants.{File, Folder}
use Rattle.base.specs.declared.owner.Handle.{Handle}
use Rattle.layout.specs.Format.{Geometry, Name, Cell, Slot, entry, entry_of, back}
use Rattle.layout.specs.Head.{cells}
use Rattle.rule.specs.Agree.{View, Place, those, from, agrees, sound, good, names, number, count, cells_in, places_of, places_over}
use Rattle.rule.specs.Meaning.{Body}
use Rattle.rule.specs.Reading.{entry_line}
use Rattle.rule.proofs.Steps.{names_true}
use Rattle.listing.specs.declared.line.EntryLine.{EntryLine as EntryRow}
use Rattle.std.specs.Option.{option_map, is_some}
use Rattle.std.proofs.lemmas.Grind.{common_steps}
use Rattle.walk.specs.Copies.{copied, child_slot, Holds, folder_bytes}
use Rattle.walk.proofs.Finding.{leaf_cells as copied_cells}
use Rattle.walk.specs.declared.slot.SlotCopy.{SlotCopy}
use Rattle.walk.specs.declared.leaf_copy.LeafCopy.{LeafCopy}
use Rattle.walk.specs.Finding.{leaf_places}
use Rattle.tours.specs.Lists.{Adds, entry_row, entry_lines, entry_rows, cell_rows}

pub those_append : {A : Type 0} (p : A → Bool) (xs ys : List A) → those p (xs ++ ys) ≡ those p xs ++ those p ys
those_append p [] ys = refl
those_append p (x ∷ xs) ys = go (p x) (those_append p xs ys)
  where
    go : (b : Bool) → those p (xs ++ ys) ≡ those p xs ++ those p ys → cond b (x ∷ those p (xs ++ ys)) (those p (xs ++ ys)) ≡ cond b (x ∷ those p xs) (those p xs) ++ those p ys
    go true e = ap (λ zs. x ∷ zs) e
    go false e = e

from_suc : (i n : ℕ) → from i (suc n) ≡ from i n ++ (i + n) ∷ []
from_suc i zero = ap (λ (j : ℕ). j ∷ []) (omega arith)
from_suc i (suc n) = ap (λ (js : List ℕ). i ∷ js) (from_suc (suc i) n ∙ ap (λ (j : ℕ). from (suc i) n ++ j ∷ []) (omega arith))

pub from_more : (n : ℕ) → from 0 (n + 1) ≡ from 0 n ++ n ∷ []
from_more n = ap (from 0) (add-one n) ∙ from_suc 0 n ∙ ap (λ (j : ℕ). from 0 n ++ j ∷ []) (omega arith)

pub no_kind : {A : Type 0} → File ≡ Folder → A
no_kind e = let z : ◌≡◌ {A = ℕ} 0 1 = cc in absurd (omega arith)

module _ (g : Geometry) (v : View) (f : Handle) where
  -- an entry is sound where its child's slot is there
  pub child_there : (n : Name) (c : Handle) (o : Option SlotCopy) → option_map copied o ≡ child_slot g v f c → is_some o ≡ true → agrees g v f (entry n c) ≡ true
  child_there n c o e there = grind (arith, common_steps)

  -- where it is not there, nothing is added
  pub unsound : (e : Cell) (n : Name) (c : Handle) (o : Option SlotCopy) (count : ℕ) (lines : List EntryRow) → option_map copied o ≡ child_slot g v f c → is_some o ≡ false → entry n c ≡ entry_of g e →
      Adds 1 (cell_rows g v f (e ∷ [])) count lines count lines
  unsound e n c o count lines k missing q = grind (arith, common_steps)

  pub rows_more : (es : List Cell) (i : ℕ) (e : Cell) → i < length es → e ≡ get_or es i [] → cell_rows g v f (take i es) ++ cell_rows g v f (e ∷ []) ≡ cell_rows g v f (take (i + 1) es)
  rows_more es i e l is =
      ap (λ (x : Cell). cell_rows g v f (take i es) ++ cell_rows g v f (x ∷ [])) is
      ∙ sym (ap (cell_rows g v f) (take_more es i [] l)
      ∙ ap (map (λ (e : Cell). entry_row (entry_line (entry_of g e)))) (those_append (λ e. agrees g v f (entry_of g e)) (take i es) (get_or es i [] ∷ []))
      ∙ map-append (λ (e : Cell). entry_row (entry_line (entry_of g e))) (those (λ e. agrees g v f (entry_of g e)) (take i es)) (those (λ e. agrees g v f (entry_of g e)) (get_or es i [] ∷ [])))

  -- the places of a leaf give the rows of its cells
  pub place_rows : (k p : ℕ) (es : List Cell) → entry_rows g v f (places_of k p es) ≡ cell_rows g v f es
  place_rows k p [] = refl
  place_rows k p (e ∷ es) = go (agrees g v f (entry_of g e)) (place_rows k (suc p) es)
    where
      go : (b : Bool) → entry_rows g v f (places_of k (suc p) es) ≡ cell_rows g v f es →
          map entry_row (map (λ (q : Place). entry_line (entry_of g q.cell)) (cond b (record { leaf = k; place = p; cell = e } ∷ those (sound g v f) (places_of k (suc p) es)) (those (sound g v f) (places_of k (suc p) es))))
          ≡ map (λ (e : Cell). entry_row (entry_line (entry_of g e))) (cond b (e ∷ those (λ e. agrees g v f (entry_of g e)) es) (those (λ e. agrees g v f (entry_of g e)) es))
      go true q = ap (λ (xs : List EntryRow). entry_row (entry_line (entry_of g e)) ∷ xs) q
      go false q = q

  pub rows_append : (xs ys : List Place) → entry_rows g v f (xs ++ ys) ≡ entry_rows g v f xs ++ entry_rows g v f ys
  rows_append xs ys =
      ap (λ (qs : List Place). map entry_row (map (λ (q : Place). entry_line (entry_of g q.cell)) qs)) (those_append (sound g v f) xs ys)
      ∙ ap (map entry_row) (map-append (λ (q : Place). entry_line (entry_of g q.cell)) (those (sound g v f) xs) (those (sound g v f) ys))
      ∙ map-append entry_row (entry_lines g v f xs) (entry_lines g v f ys)

  -- leaf by leaf, of the folder whose slot is r
  module _ (r : Slot) where
    over_append : (js ks : List ℕ) → places_over v f r (js ++ ks) ≡ places_over v f r js ++ places_over v f r ks
    over_append [] ks = refl
    over_append (j ∷ js) ks = ap (λ (qs : List Place). leaf_places v f r j ++ qs) (over_append js ks) ∙ sym (append_assoc (leaf_places v f r j) (places_over v f r js) (places_over v f r ks))

    over_more : (k : ℕ) → places_over v f r (from 0 (k + 1)) ≡ places_over v f r (from 0 k) ++ leaf_places v f r k
    over_more k =
        ap (places_over v f r) (from_more k)
        ∙ over_append (from 0 k) (k ∷ [])
        ∙ ap (λ (qs : List Place). places_over v f r (from 0 k) ++ qs) (append-nil (leaf_places v f r k))

    pub leaves_more : (k : ℕ) → entry_rows g v f (places_over v f r (from 0 k)) ++ entry_rows g v f (leaf_places v f r k) ≡ entry_rows g v f (places_over v f r (from 0 (k + 1)))
    leaves_more k = sym (ap (entry_rows g v f) (over_more k) ∙ rows_append (places_over v f r (from 0 k)) (leaf_places v f r k))

    -- a good leaf's body
    body_of : (k : ℕ) → good v f r k ≡ true → Body r.kind (back f k) (v (number r k))
    body_of k e = names_true r.kind (back f k) (v (number r k)) (and_parts (ltb k (count r)) (names r.kind (back f k) (v (number r k))) e).1

    -- the cells of a good leaf, as copied
    pub leaf_cells : (k : ℕ) (l : LeafCopy) (cs : List Cell) → cs ≡ cells (folder_bytes l) → r.kind ≡ Folder → good v f r k ≡ true → Holds l (v (number r k)) → cs ≡ cells_in (v (number r k))
    leaf_cells k l cs q d e h = q ∙ copied_cells v f r k l d e h

    pub leaf_good : (k : ℕ) (l : LeafCopy) (cs : List Cell) → cs ≡ cells (folder_bytes l) → r.kind ≡ Folder → good v f r k ≡ true → Holds l (v (number r k)) → cell_rows g v f cs ≡ entry_rows g v f (leaf_places v f r k)
    leaf_good k l cs q d e h =
        ap (cell_rows g v f) (leaf_cells k l cs q d e h)
        ∙ sym (ap (entry_rows g v f) (cond-true (good v f r k) _ _ e) ∙ place_rows k 0 (cells_in (v (number r k))))

    -- a file has no entries
    pub file_none : r.kind ≡ File → (ks : List ℕ) → places_over v f r ks ≡ []
    file_none d [] = refl
    file_none d (k ∷ ks) = ap (λ (qs : List Place). qs ++ places_over v f r ks) (no_cells (good v f r k) refl) ∙ file_none d ks
      where
        none : Body r.kind (back f k) (v (number r k)) → cells_in (v (number r k)) ≡ []
        none (inl (x, file, is)) = ap cells_in is
        none (inr (es, folder, is)) = no_kind (sym d ∙ folder)

        no_cells : (b : Bool) → good v f r k ≡ b → cond b (places_of k 0 (cells_in (v (number r k)))) [] ≡ []
        no_cells false e = refl
        no_cells true e = ap (places_of k 0) (none (body_of k e))
