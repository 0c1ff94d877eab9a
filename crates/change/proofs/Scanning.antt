-- The scan of a folder, place by place and leaf by leaf.
use Rattle.std.proofs.Common.{◌≡◌, ℕ, suc, ◌+◌, ◌-◌, ◌<◌, ◌≤◌, Bool, true, false, cond, ltb, List, [], ◌∷◌, ◌++◌, get_or, take, Some, None, Option, sym, refl, ap, ◌∙◌, subst, inl, inr, add-one, arith, MatchOption}
use Rattle.std.specs.Option.{is_some, IsSome}
use Rattle.std.proofs.lemmas.Bool.{cond-true, cond-false, and_parts}
use Rattle.base.specs.declared.owner.Kind.TheVariants.{File, Folder}
use Rattle.base.specs.declared.owner.Handle.{Handle}
use Rattle.layout.specs.Format.{Geometry, Cell, Slot, back}
use Rattle.layout.specs.Head.{cells}
use Rattle.marks.specs.declared.mark.Marks.{Marks}
use Rattle.rule.specs.Agree.{View, Place, first, good, number, count, names, cells_in, places_of, places_over, places, from}
use Rattle.rule.specs.Meaning.{Body}
use Rattle.rule.proofs.Steps.{names_true}
use Rattle.walk.specs.Copies.{Holds, LeafIs}
use Rattle.walk.specs.Finding.{leaf_places}
use Rattle.walk.specs.declared.leaf_copy.LeafCopy.{LeafCopy}
use Rattle.walk.proofs.Finding.{first_past, first_here}
use Rattle.change.specs.declared.scan.Sought.{Sought}
use Rattle.change.specs.declared.scan.Sought.TheVariants.{Open}
use Rattle.change.specs.declared.scan.Spot.{Spot}
use Rattle.change.specs.declared.scan.Scan.{Scan}
use Rattle.change.specs.Scanning.{passes, at_cell, first_sought, SpotIn, SpotOr, LeafScanned, Scanned}

no_kind : {A : Type 0} → File ≡ Folder → A
no_kind e = let z : ◌≡◌ {A = ℕ} 0 1 = cc in absurd (omega arith)

module _ (v : View) (f : Handle) (r : Slot) where
  -- the copy of a good leaf
  pub record Copied (k : ℕ) (l : LeafCopy) : Type 0 where
    pub places : leaf_places v f r k ≡ places_of k 0 (cells (take 480 l.bytes))
    pub cells : cells (take 480 l.bytes) ≡ cells_in (v (number r k))

  pub leaf_copied : (k : ℕ) (l : LeafCopy) → r.kind ≡ Folder → LeafIs v f r k (Some l) → Copied k l
  leaf_copied k l d h = go (names_true r.kind (back f k) (v (number r k)) (and_parts (ltb k (count r)) (names r.kind (back f k) (v (number r k))) h.0).1)
    where
      go : Body r.kind (back f k) (v (number r k)) → Copied k l
      go (inl (x, file, is)) = no_kind (sym file ∙ d)
      go (inr (es, folder, is)) =
          let w = subst (Holds l) is h.1 in
          let all : cells (take 480 l.bytes) ≡ es = ap (λ (u : ℕ). cells (take u l.bytes)) (sym w.0) ∙ w.1 in
          let held : cells (take 480 l.bytes) ≡ cells_in (v (number r k)) = all ∙ ap cells_in (sym is) in
          record { places = cond-true (good v f r k) _ _ h.0 ∙ ap (places_of k 0) (sym held); cells = held }

  pub leaf_bad : (k : ℕ) → good v f r k ≡ false → leaf_places v f r k ≡ []
  leaf_bad k e = cond-false (good v f r k) (places_of k 0 (cells_in (v (number r k)))) [] e

  over_more : (k c : ℕ) → k < c → places_over v f r (from k (c - k)) ≡ leaf_places v f r k ++ places_over v f r (from (k + 1) (c - (k + 1)))
  over_more k c l =
      let m : c - k ≡ suc (c - (k + 1)) = omega arith in
      ap (λ (m : ℕ). places_over v f r (from k m)) m
      ∙ ap (λ (j : ℕ). leaf_places v f r k ++ places_over v f r (from j (c - (k + 1)))) (sym (add-one k))

  -- the places from leaf k on
  module _ (p : Place → Bool) (k c : ℕ) where
    pub leaf_on : k < c → first p (leaf_places v f r k) ≡ None → first p (places_over v f r (from k (c - k))) ≡ first p (places_over v f r (from (k + 1) (c - (k + 1))))
    leaf_on l e = ap (first p) (over_more k c l) ∙ first_past p (leaf_places v f r k) (places_over v f r (from (k + 1) (c - (k + 1)))) e

    pub leaf_here : (q : Place) → k < c → first p (leaf_places v f r k) ≡ Some q → first p (places_over v f r (from k (c - k))) ≡ Some q
    leaf_here q l e = ap (first p) (over_more k c l) ∙ first_here p (leaf_places v f r k) (places_over v f r (from (k + 1) (c - (k + 1)))) q e

    pub leaf_end : c ≤ k → first p (places_over v f r (from k (c - k))) ≡ None
    leaf_end l = let m : c - k ≡ 0 = omega arith in ap (λ (m : ℕ). first p (places_over v f r (from k m))) m

  -- a file has no places
  pub file_places : r.kind ≡ File → (ks : List ℕ) → places_over v f r ks ≡ []
  file_places d [] = refl
  file_places d (k ∷ ks) = ap (λ (qs : List Place). qs ++ places_over v f r ks) (none (good v f r k) refl) ∙ file_places d ks
    where
      go : Body r.kind (back f k) (v (number r k)) → cells_in (v (number r k)) ≡ []
      go (inl (x, file, is)) = ap cells_in is
      go (inr (es, folder, is)) = no_kind (sym d ∙ folder)

      none : (b : Bool) → good v f r k ≡ b → cond b (places_of k 0 (cells_in (v (number r k)))) [] ≡ []
      none false e = refl
      none true e = ap (places_of k 0) (go (names_true r.kind (back f k) (v (number r k)) (and_parts (ltb k (count r)) (names r.kind (back f k) (v (number r k))) e).1))

-- what is sought, in a leaf that was copied
module _ (g : Geometry) (v : View) (ms : Marks) (f : Handle) (r : Slot) (k : ℕ) (l : LeafCopy) (w : Copied v f r k l) where
  pub spot_copied : (a : Sought) (o : Option Spot) → SpotIn g ms f a k l o → SpotOr v r (first_sought g ms f a (leaf_places v f r k)) None o
  spot_copied a None h = ap (first_sought g ms f a) w.places ∙ h k
  spot_copied a (Some x) h = (
    record { leaf = k; place = x.place; cell = get_or (cells (take 480 l.bytes)) x.place [] },
    ap (first_sought g ms f a) w.places ∙ h.2.1 k,
    record {
      leaf = h.0;
      place = refl;
      inside = h.2.0;
      cells = ap (λ (y : LeafCopy). cells (take 480 y.bytes)) h.1 ∙ w.cells;
      cell = ap (λ (cs : List Cell). get_or cs x.place []) w.cells;
    },
  )

  pub leaf_scanned : (a : Sought) (before o u : Option Spot) → SpotIn g ms f a k l o → MatchOption before (SpotIn g ms f Open k l u) (λ y. u ≡ Some y) →
      LeafScanned g v ms f r k a before (record { found = o; vacant = u })
  leaf_scanned a before o u h b = record { found = spot_copied a o h; vacant = go before b }
    where
      go : (before : Option Spot) → MatchOption before (SpotIn g ms f Open k l u) (λ y. u ≡ Some y) → MatchOption before (SpotOr v r (first_sought g ms f Open (leaf_places v f r k)) None u) (λ y. u ≡ Some y)
      go None b = spot_copied Open u b
      go (Some y) b = b

-- one that is not good has no places
pub leaf_skipped : (g : Geometry) (v : View) (ms : Marks) (f : Handle) (r : Slot) (k : ℕ) (a : Sought) (before : Option Spot) → good v f r k ≡ false →
    LeafScanned g v ms f r k a before (record { found = None; vacant = before })
leaf_skipped g v ms f r k a before e = record { found = ap (first_sought g ms f a) (leaf_bad v f r k e); vacant = go before }
  where
    go : (before : Option Spot) → MatchOption before (SpotOr v r (first_sought g ms f Open (leaf_places v f r k)) None before) (λ y. before ≡ Some y)
    go None = ap (first_sought g ms f Open) (leaf_bad v f r k e)
    go (Some y) = refl

-- a turn of the scan, at leaf k of c
module _ (g : Geometry) (v : View) (ms : Marks) (f : Handle) (r : Slot) (a : Sought) (k c : ℕ) (l : k < c) (before : Option Spot) (x : Scan) (w : LeafScanned g v ms f r k a before x)
    (inv : first_sought g ms f a (places v f r) ≡ first_sought g ms f a (places_over v f r (from k (c - k)))) where
  pub scan_found : IsSome x.found → Scanned g v ms f r a x
  scan_found some = record { found = go x.found some w.found; vacant = λ none. let t : false ≡ true = ap is_some (sym none) ∙ some in cc }
    where
      go : (o : Option Spot) → IsSome o → SpotOr v r (first_sought g ms f a (leaf_places v f r k)) None o → SpotOr v r (first_sought g ms f a (places v f r)) None o
      go None e h = cc
      go (Some y) e h = (h.0, inv ∙ leaf_here v f r (at_cell (passes g ms f a)) k c h.0 l h.1, h.2)

  pub scan_on : x.found ≡ None → first_sought g ms f a (places v f r) ≡ first_sought g ms f a (places_over v f r (from (k + 1) (c - (k + 1))))
  scan_on e = inv ∙ leaf_on v f r (at_cell (passes g ms f a)) k c l (subst (SpotOr v r (first_sought g ms f a (leaf_places v f r k)) None) e w.found)

pub vacant_on : (g : Geometry) (v : View) (ms : Marks) (f : Handle) (r : Slot) (a : Sought) (k c : ℕ) → k < c → (before : Option Spot) (x : Scan) → LeafScanned g v ms f r k a before x →
    (s : Option Place) → SpotOr v r s (first_sought g ms f Open (places_over v f r (from k (c - k)))) before → SpotOr v r s (first_sought g ms f Open (places_over v f r (from (k + 1) (c - (k + 1))))) x.vacant
vacant_on g v ms f r a k c l before x w s inv = go before w.vacant inv
  where
    step : (u : Option Spot) → s ≡ first_sought g ms f Open (places_over v f r (from k (c - k))) → SpotOr v r (first_sought g ms f Open (leaf_places v f r k)) None u → SpotOr v r s (first_sought g ms f Open (places_over v f r (from (k + 1) (c - (k + 1))))) u
    step None i h = i ∙ leaf_on v f r (at_cell (passes g ms f Open)) k c l h
    step (Some y) i h = (h.0, i ∙ leaf_here v f r (at_cell (passes g ms f Open)) k c h.0 l h.1, h.2)

    go : (before : Option Spot) → MatchOption before (SpotOr v r (first_sought g ms f Open (leaf_places v f r k)) None x.vacant) (λ y. x.vacant ≡ Some y) →
        SpotOr v r s (first_sought g ms f Open (places_over v f r (from k (c - k)))) before → SpotOr v r s (first_sought g ms f Open (places_over v f r (from (k + 1) (c - (k + 1))))) x.vacant
    go None h i = step x.vacant i h
    go (Some y) h i = subst (SpotOr v r s (first_sought g ms f Open (places_over v f r (from (k + 1) (c - (k + 1)))))) (sym h) i

pub scan_end : (g : Geometry) (v : View) (ms : Marks) (f : Handle) (r : Slot) (a : Sought) (k c : ℕ) → c ≤ k → (o : Option Spot) →
    first_sought g ms f a (places v f r) ≡ first_sought g ms f a (places_over v f r (from k (c - k))) →
    SpotOr v r (first_sought g ms f Open (places v f r)) (first_sought g ms f Open (places_over v f r (from k (c - k)))) o → Scanned g v ms f r a (record { found = None; vacant = o })
scan_end g v ms f r a k c l o i h = record {
  found = i ∙ leaf_end v f r (at_cell (passes g ms f a)) k c l;
  vacant = λ u. subst (λ (s : Option Place). SpotOr v r (first_sought g ms f Open (places v f r)) s o) (leaf_end v f r (at_cell (passes g ms f Open)) k c l) h;
}

pub scan_file : (g : Geometry) (v : View) (ms : Marks) (f : Handle) (r : Slot) (a : Sought) → r.kind ≡ File → Scanned g v ms f r a (record { found = None; vacant = None })
scan_file g v ms f r a d = record {
  found = ap (first_sought g ms f a) (file_places v f r d (from 0 (count r)));
  vacant = λ u. ap (first_sought g ms f Open) (file_places v f r d (from 0 (count r)));
}
