-- Taking an accepted plan apart, check by check.
use Rattle.std.proofs.Common.{◌≡◌, ℕ, suc, ◌+◌, ◌<◌, ◌≤◌, Bool, true, false, cond, not, eqb, ltb, leb, ◌⊎◌, List, [], ◌∷◌, length, get_or, set, Some, None, Ok, Err, Option, Result, sym, refl, ap, ◌∙◌, subst, inl, inr, zero-add, arith}
use Rattle.std.proofs.lemmas.Bool.{and_parts, eqb-true, eqb-false, leb-true, ltb-true, ltb-false, not-true, not-false, cases_lt}
use Rattle.base.specs.declared.owner.Kind.{Kind}
use Rattle.base.specs.declared.owner.Kind.TheVariants.{File, Folder}
use Rattle.base.specs.declared.owner.Handle.{Handle}
use Rattle.base.specs.declared.refusal.Refusal.{Refusal}
use Rattle.device.specs.declared.put.Put.{Put}
use Rattle.layout.specs.Format.{Name, Cell, Geometry, handle, back, Slot, Content, blank, file_body, folder_body, entry_of, cell, blank_cell, leaf_limit}
use Rattle.rule.specs.Agree.{Place, places, sound, found, cells_in, View, seen, same_kind, count, number, good, names, reached, first, some_is}
use Rattle.rule.specs.Check.{◌>>=◌, check, demand}
use Rattle.rule.specs.Card.{Card, Plan}
use Rattle.rule.specs.Reading.{fits, kind_is, named, child_of}
use Rattle.rule.specs.Changing.{store, store_slot, with_cell, open_place, untaken, placed, create, changing, replaces, appends, below_count, write, shorten, grown, cut_to, has_entries, remove, last_identity}
use Rattle.rule.specs.Meaning.{Fits, Body, Before, Finds, Rooted}
use Rattle.rule.specs.Calls.{Standing, OverGood, SoundAt, InPlace, OnNewLeaf, Creates, CreateMeans, Replaces, Appends, WriteMeans, ShortenMeans, RemoveMeans}
use Rattle.rule.proofs.Places.{FirstLeaf, leaf_first, leaf_none, FirstCell, cell_first, cell_none, cells_at, at}
use Rattle.rule.proofs.Means.{agrees_true, fits_at, fits_from, leaf_is, good_from, sound_listed, found_is_found, none_sound, reached_fits, same_slot}
use Rattle.rule.proofs.Steps.{clash, names_true}
use Rattle.rule.proofs.Free.{slot_given, body_given}

pub clash_ok : {A B E : Type 0} {a : A} {r : E} → Err r ≡ Ok a → B
clash_ok e = let z : ◌≡◌ {A = ℕ} 0 1 = cc in absurd (omega arith)

pub bind_ok : {A B E : Type 0} (e : Result A E) (k : A → Result B E) (b : B) → (e >>= k) ≡ Ok b → (a : A) × (e ≡ Ok a) × (k a ≡ Ok b)
unfolding ◌>>=◌
bind_ok (Ok a) k b e = (a, refl, e)
bind_ok (Err r) k b e = clash_ok e

pub check_ok : (t : Bool) (r : Refusal) (u : Unit {0}) → check t r ≡ Ok u → t ≡ true
unfolding check
check_ok true r u e = refl
check_ok false r u e = clash_ok e

pub demand_ok : {A : Type 0} (o : Option A) (r : Refusal) (a : A) → demand o r ≡ Ok a → o ≡ Some a
unfolding demand
demand_ok None r a e = clash_ok e
demand_ok (Some x) r a e = let s : x ≡ a = cc in ap {B = Option _} Some s

pub ok_same : {A E : Type 0} {a b : A} → ◌≡◌ {A = Result A E} (Ok a) (Ok b) → a ≡ b
ok_same e = cc

pub kind_true : (a b : Kind) → same_kind a b ≡ true → a ≡ b
kind_true File File e = refl
kind_true File Folder e = clash e
kind_true Folder File e = clash e
kind_true Folder Folder e = refl

-- ---- the handle

pub fits_ok : (g : Geometry) (v : View) (h : Handle) (r : Slot) → fits g v h ≡ Ok r → Fits g v h r
unfolding fits
fits_ok g v h r e =
    let a = bind_ok _ _ r e in
    let b = bind_ok _ _ r a.2 in
    let s : a.0 ≡ r = ok_same b.2 in
    subst (Fits g v h) s (fits_from g v h a.0 (demand_ok _ _ a.0 a.1) (eqb-true a.0.identity h.identity.0 (check_ok _ _ _ b.1)))

pub record Changing (g : Geometry) (v : View) (d : Kind) (h : Handle) (r : Slot) : Type 0 where
  pub fits : Fits g v h r
  pub reached : reached g v h.slot.0 ≡ true
  pub kind : r.kind ≡ d

pub changing_ok : (g : Geometry) (v : View) (d : Kind) (h : Handle) (r : Slot) → changing g v d h ≡ Ok r → Changing g v d h r
unfolding changing kind_is
changing_ok g v d h r e =
    let a = bind_ok _ _ r e in
    let b = bind_ok _ _ r a.2 in
    let k = bind_ok _ _ r b.2 in
    let s : a.0 ≡ r = ok_same k.2 in
    subst (Changing g v d h) s (record { fits = fits_ok g v h a.0 a.1; reached = check_ok _ _ _ b.1; kind = kind_true a.0.kind d (check_ok _ _ _ k.1) })

standing : (g : Geometry) (v : View) (d : Kind) (h : Handle) (r : Slot) → Rooted g v → Changing g v d h r → Standing g v d h r
standing g v d h r rooted w = record { fits = w.fits; reached = reached_fits g v h r rooted w.fits w.reached; kind = w.kind }

-- ---- write and shorten

-- a good leaf of a file
pub file_leaf : (v : View) (h : Handle) (r : Slot) (k : ℕ) → r.kind ≡ File → good v h r k ≡ true → (k < count r) × ((old : List ℕ) × (v (number r k) ≡ file_body (back h k) old))
file_leaf v h r k d e =
    let w = and_parts (ltb k (count r)) (names r.kind (back h k) (v (number r k))) e in
    (ltb-true k (count r) w.0, go (names_true r.kind (back h k) (v (number r k)) w.1))
  where
    go : Body r.kind (back h k) (v (number r k)) → (old : List ℕ) × (v (number r k) ≡ file_body (back h k) old)
    go (inl (x, k, e)) = (x, e)
    go (inr (es, k, e)) = clash (ap (same_kind Folder) (sym d ∙ k))

pub write_means : WriteMeans
unfolding write replaces appends
write_means h k x c shown p e =
    let a = bind_ok _ _ p e in
    let b = bind_ok _ _ p a.2 in
    let d = bind_ok _ _ p b.2 in
    let f = bind_ok _ _ p d.2 in
    let g = b.0 in
    let r = d.0 in
    let w = changing_ok g (seen g shown) File h r d.1 in
    let n = and_parts (leb k (count r)) (ltb k leaf_limit) (check_ok _ _ _ f.1) in (
      g,
      b.1,
      λ rooted. record {
        size = leb-true (length x) 496 (check_ok _ _ _ a.1);
        leaf = ltb-true k leaf_limit n.1;
        slot = r;
        standing = standing g (seen g shown) File h r rooted w;
        blocks = which g r w.kind (ltb k (count r)) refl (leb-true k (count r) n.0) f.2;
      },
    )
  where
    which : (g : Geometry) (r : Slot) → r.kind ≡ File → (t : Bool) → ltb k (count r) ≡ t → k ≤ count r → below_count t g (seen g shown) c h r k x ≡ Ok p →
        Replaces (seen g shown) c h r k x p ⊎ Appends g (seen g shown) c h r k x p
    which g r d true m l e =
        let a = bind_ok _ _ p e in
        let s = ok_same a.2 in
        let o = file_leaf (seen g shown) h r k d (check_ok _ _ _ a.1) in
        inl (record { below = o.0; old = o.1.0; body = o.1.1; blocks = sym (ap (λ (q : Plan (Unit {0})). q.puts) s); after = sym (ap (λ (q : Plan (Unit {0})). q.card) s) })
    which g r d false m l e =
        let a = bind_ok _ _ p e in
        let s = ok_same a.2 in
        let last : k ≡ count r = omega (arith, ltb-false k (count r) m) in
        inr (record {
          last = last;
          block = a.0;
          free = body_given g (seen g shown) c.next_body a.0 (demand_ok _ _ a.0 a.1);
          next = demand_ok _ _ a.0 a.1;
          blocks = sym (ap (λ (q : Plan (Unit {0})). q.puts) s) ∙ ap (λ (z : ℕ). store a.0 (file_body (back h z) x) ∷ store_slot h.slot.0 (grown r a.0) ∷ []) (sym last);
          after = sym (ap (λ (q : Plan (Unit {0})). q.card) s);
        })

pub shorten_means : ShortenMeans
unfolding shorten
shorten_means h n c shown p e =
    let b = bind_ok _ _ p e in
    let d = bind_ok _ _ p b.2 in
    let f = bind_ok _ _ p d.2 in
    let g = b.0 in
    let r = d.0 in
    let s = ok_same f.2 in
    let l = leb-true n (count r) (check_ok _ _ _ f.1) in (
      g,
      b.1,
      λ rooted. record {
        slot = r;
        standing = standing g (seen g shown) File h r rooted (changing_ok g (seen g shown) File h r d.1);
        fewer = l;
        blocks = which r (eqb n (count r)) refl l (sym (ap (λ (q : Plan (Unit {0})). q.puts) s));
        after = sym (ap (λ (q : Plan (Unit {0})). q.card) s);
      },
    )
  where
    which : (r : Slot) (t : Bool) → eqb n (count r) ≡ t → n ≤ count r → p.puts ≡ cond t [] (store_slot h.slot.0 (cut_to r n) ∷ []) →
        ((n ≡ count r) × (p.puts ≡ [])) ⊎ ((n < count r) × (p.puts ≡ store_slot h.slot.0 (cut_to r n) ∷ []))
    which r true e l k = inl (eqb-true n (count r) e, k)
    which r false e l k = inr (elim (cases_lt n (count r)) [ inl d ↦ d | inr d ↦ absurd (eqb-false n (count r) e (omega arith)) ], k)

-- ---- create

module _ (g : Geometry) (v : View) (f : Handle) (r : Slot) (fit : Fits g v f r) (folder : r.kind ≡ Folder) where
  over_good : (j q : ℕ) → OverGood v f r j q → good v f r j ≡ true
  over_good j q o = good_from v f r j o.below (inr (o.cells, folder, o.body))

  over_inside : (j q : ℕ) (o : OverGood v f r j q) → q < length (cells_at v r j)
  over_inside j q o = subst (λ (z : List Cell). q < length z) (sym (ap cells_in o.body)) o.inside

  -- a place whose entry passes is sound
  sound_at : (j q : ℕ) → OverGood v f r j q → sound g v f (at j (0 + q) (get_or (cells_at v r j) q [])) ≡ true → SoundAt g v f j q
  sound_at j q o e =
      let a = agrees_true g v f (entry_of g (get_or o.cells q [])) (sym (ap (λ (c : Content). sound g v f (at j (0 + q) (get_or (cells_in c) q []))) o.body) ∙ e) in
      (a.name, a.leads, record { slot = r; fits = fit; kind = folder; below = o.below; cells = o.cells; body = o.body; here = a.is; child = a.child; child_fits = a.holds; parent = a.parent })

  abbrev shut : Place → Bool
  shut q = not (sound g v f q)

  -- no place passes: every entry over good leaves is sound
  pub all_sound : open_place g v f r ≡ None → (j q : ℕ) → OverGood v f r j q → SoundAt g v f j q
  all_sound e j q o =
      sound_at j q o (not-false _ (cell_none shut j 0 (cells_at v r j) (leaf_none shut v f r 0 (count r) e j (omega arith) (omega (arith, o.below)) (over_good j q o)) q (over_inside j q o)))

  pub in_place : (c : Card) (e : Cell) (q : Place) → open_place g v f r ≡ Some q → InPlace g v c f r e (with_cell v f r q e ∷ []) c.next_body
  in_place c e q h = leaf (leaf_first shut v f r 0 (count r) q h)
    where
      leaf : FirstLeaf shut v f r 0 (count r) q → InPlace g v c f r e (with_cell v f r q e ∷ []) c.next_body
      leaf l = cells (cell_first shut l.k 0 (cells_at v r l.k) q l.here)
        where
          cells : FirstCell shut l.k 0 (cells_at v r l.k) q → InPlace g v c f r e (with_cell v f r q e ∷ []) c.next_body
          cells w =
              let d = leaf_is v f r l.k w.j l.fine w.inside in
              let same : cells_at v r l.k ≡ d.cells = ap cells_in d.body in
              record {
                leaf = l.k;
                place = w.j;
                here = record { below = d.below; cells = d.cells; body = d.body; inside = subst (λ (z : List Cell). w.j < length z) same w.inside };
                unsound = λ s. clash (sym (not-true (sound g v f q) w.passes) ∙ ap (sound g v f) w.is ∙ (sound_listed g v f r l.k w.j s.0 s.1 fit s.2).agreed);
                earlier = before;
                blocks = ap (λ (z : Place). with_cell v f r z e ∷ []) w.is
                    ∙ ap (λ (z : List Cell). store (number r l.k) (folder_body (back f l.k) (set z (0 + w.j) e)) ∷ []) same
                    ∙ ap (λ (z : ℕ). store (number r l.k) (folder_body (back f l.k) (set d.cells z e)) ∷ []) (zero-add w.j);
                cursor = refl;
              }
            where
              before : (j p : ℕ) → Before j p l.k w.j → OverGood v f r j p → SoundAt g v f j p
              before j p (inl t) o = sound_at j p o (not-false _ (cell_none shut j 0 (cells_at v r j) (l.before j (omega arith) t (over_good j p o)) p (over_inside j p o)))
              before j p (inr t) o = sound_at j p o (not-false _ (ap (λ (z : ℕ). shut (at z (0 + p) (get_or (cells_at v r z) p []))) t.0 ∙ w.before p t.1))

  place_it : (c : Card) (e : Cell) (o : Option Place) → open_place g v f r ≡ o → (w : List Put × ℕ) → placed g v c f r e o ≡ Ok w → InPlace g v c f r e w.0 w.1 ⊎ OnNewLeaf g v c f r e w.0 w.1
  unfolding placed
  place_it c e (Some q) h w k = inl (subst (λ (z : List Put × ℕ). InPlace g v c f r e z.0 z.1) (ok_same k) (in_place c e q h))
  place_it c e None h w k =
      let a = bind_ok _ _ w k in
      let b = bind_ok _ _ w a.2 in
      let s = ok_same b.2 in
      inr (record {
        full = all_sound h;
        room = ltb-true (count r) leaf_limit (check_ok _ _ _ a.1);
        block = b.0;
        free = body_given g v c.next_body b.0 (demand_ok _ _ b.0 b.1);
        first = demand_ok _ _ b.0 b.1;
        blocks = sym (ap (λ (z : List Put × ℕ). z.0) s);
        cursor = sym (ap (λ (z : List Put × ℕ). z.1) s);
      })

untaken_is : (g : Geometry) (o : Option Place) (u : Unit {0}) → untaken g o ≡ Ok u → o ≡ None
unfolding untaken
untaken_is g None u e = refl
untaken_is g (Some q) u e = clash_ok e

pub create_means : CreateMeans
unfolding create named
create_means d f n c shown p e =
    let a = bind_ok _ _ p e in
    let b = bind_ok _ _ p a.2 in
    let g = b.0 in
    let k = bind_ok _ _ p b.2 in
    let r = k.0 in
    let t = bind_ok _ _ p k.2 in
    let s = bind_ok _ _ p t.2 in
    let i = bind_ok _ _ p s.2 in
    let w = bind_ok _ _ p i.2 in
    let m = changing_ok g (seen g shown) Folder f r k.1 in
    let z = ok_same w.2 in
    let o = slot_given g (seen g shown) c.next_slot s.0 (demand_ok _ _ s.0 s.1) in (
      g,
      b.1,
      λ rooted. subst (Creates g (seen g shown) c d f n) z (record {
        name = check_ok _ _ _ a.1;
        slot = r;
        standing = standing g (seen g shown) Folder f r rooted m;
        untaken = λ x y h. (found_is_found g (seen g shown) f r n m.fits).1 (untaken_is g (found g (seen g shown) f r n) t.0 t.1) x y h;
        fresh = refl;
        narrow = ltb-true c.highest last_identity (check_ok _ _ _ i.1);
        child = o.1;
        free = o.0;
        first = demand_ok _ _ s.0 s.1;
        rest = w.0.0;
        blocks = refl;
        next = w.0.1;
        placed = place_it g (seen g shown) f r m.fits m.kind c (cell n (handle s.0 (suc c.highest))) (open_place g (seen g shown) f r) refl w.0 w.1;
        after = refl;
      }),
    )

-- ---- remove

-- no sound entry is found in what the child holds
is_hollow : (g : Geometry) (v : View) (h : Handle) → has_entries g v h ≡ false → (k q : ℕ) → SoundAt g v h k q → ⊥
is_hollow g v h e k q (n, c, s) = go (first (sound g v h) (places v h s.slot)) refl
  where
    opened : has_entries g v h ≡ some_is (first (sound g v h) (places v h s.slot)) (λ q. true)
    opened = ap (λ (o : Option Slot). some_is o (λ r. some_is (first (sound g v h) (places v h r)) (λ q. true))) (fits_at g v h s.slot s.fits)

    go : (o : Option Place) → first (sound g v h) (places v h s.slot) ≡ o → ⊥
    go None is = none_sound g v h s.slot s.fits (λ x. true) is k q n c s refl
    go (Some a) is = clash (sym e ∙ opened ∙ ap (λ (o : Option Place). some_is o (λ q. true)) is)

-- the body with another cell, in the words of what was found
pub found_cell : (g : Geometry) (v : View) (f : Handle) (r : Slot) (n : Name) (c : Handle) (q : Place) (e : Cell) → Fits g v f r → (s : Finds g v f n c) → q.leaf ≡ s.leaf → q.place ≡ s.place →
    with_cell v f r q e ≡ store (number s.sound.slot s.leaf) (folder_body (back f s.leaf) (set s.sound.cells s.place e))
found_cell g v f r n c q e fit s leaf place =
    ap (λ (z : Slot). with_cell v f z q e) (same_slot g v f r s.sound.slot fit s.sound.fits)
    ∙ ap (λ (z : ℕ). with_cell v f s.sound.slot (at z q.place q.cell) e) leaf
    ∙ ap (λ (z : ℕ). with_cell v f s.sound.slot (at s.leaf z q.cell) e) place
    ∙ ap (λ (z : Content). store (number s.sound.slot s.leaf) (folder_body (back f s.leaf) (set (cells_in z) s.place e))) s.sound.body

pub remove_means : RemoveMeans
unfolding remove named
remove_means f n c shown p e =
    let a = bind_ok _ _ p e in
    let b = bind_ok _ _ p a.2 in
    let g = b.0 in
    let k = bind_ok _ _ p b.2 in
    let r = k.0 in
    let t = bind_ok _ _ p k.2 in
    let q = t.0 in
    let u = bind_ok _ _ p t.2 in
    let m = changing_ok g (seen g shown) Folder f r k.1 in
    let z = ok_same u.2 in
    let w = (found_is_found g (seen g shown) f r n m.fits).0 q (demand_ok _ _ q t.1) in
    let child = w.0 in
    let is : child_of (entry_of g q.cell) ≡ child = ap child_of w.1 in (
      g,
      b.1,
      λ rooted. (
        child,
        record {
          name = check_ok _ _ _ a.1;
          slot = r;
          standing = standing g (seen g shown) Folder f r rooted m;
          found = w.2;
          hollow = is_hollow g (seen g shown) child (sym (ap (has_entries g (seen g shown)) is) ∙ not-true _ (check_ok _ _ _ u.1));
          blocks = sym (ap (λ (x : Plan (Unit {0})). x.puts) z)
              ∙ ap (λ (x : Put). x ∷ store (suc (child_of (entry_of g q.cell)).slot.0) blank ∷ []) (found_cell g (seen g shown) f r n child q blank_cell m.fits w.2 w.3 w.4)
              ∙ ap (λ (x : Handle). store (number w.2.sound.slot w.2.leaf) (folder_body (back f w.2.leaf) (set w.2.sound.cells w.2.place blank_cell)) ∷ store (suc x.slot.0) blank ∷ []) is;
          after = sym (ap (λ (x : Plan (Unit {0})). x.card) z);
        },
      ),
    )
