-- One block changes: a free body or slot is taken, a body is written again.
use Rattle.std.proofs.Common.{◌≡◌, ℕ, suc, ◌<◌, ◌≤◌, ◌⊎◌, List, [], get_or, set, sym, refl, ap, ◌∙◌, subst, inl, inr, arith}
use Rattle.std.proofs.lemmas.Bool.{cases_eq}
use Rattle.base.specs.declared.owner.Kind.{Kind}
use Rattle.base.specs.declared.owner.Handle.{Handle}
use Rattle.base.specs.declared.owner.Back.{Back}
use Rattle.layout.specs.Format.{Name, Cell, Geometry, back, Slot, Content, slotted, file_body, folder_body, entry, entry_of}
use Rattle.layout.specs.Identities.{told}
use Rattle.rule.specs.Agree.{View, count, number}
use Rattle.rule.specs.Meaning.{Fits, Body, Good, Sound, Reached, under, Held, FreeSlot}
use Rattle.rule.specs.Calls.{SoundAt}
use Rattle.history.proofs.Parsed.{apart, slotted_same, folder_back, folder_cells, file_back}
use Rattle.history.proofs.Stands.{told_entry, set_cases}
use Rattle.moves.proofs.Views.{upd, upd_here, upd_else, Framed, sound_good, Likewise, fits_else, sound_else, good_else, Moves, Nothing}

-- a body written again names the same
file_again : (d : Kind) (a b : Back) (x y : List ℕ) (c : Content) → c ≡ file_body b x → Body d a c → Body d a (file_body b y)
file_again d a b x y c e (inl (z, k, q)) = inl (y, k, ap (λ (o : Back). file_body o y) (file_back (sym e ∙ q)))
file_again d a b x y c e (inr (z, k, q)) = apart e q (λ w. omega arith)

folder_again : (d : Kind) (a b : Back) (x y : List Cell) (c : Content) → c ≡ folder_body b x → Body d a c → Body d a (folder_body b y)
folder_again d a b x y c e (inl (z, k, q)) = apart e q (λ w. omega arith)
folder_again d a b x y c e (inr (z, k, q)) = inr (y, k, ap (λ (o : Back). folder_body o y) (folder_back (sym e ∙ q)))

-- ---- a body

module _ (g : Geometry) (v : View) (b : ℕ) (y : Content) (up : g.slots < b) (frame : Framed g v) where
  abbrev after : View
  after = upd v b y

  on : (i : ℕ) → (i ≡ b → ⊥) → after i ≡ v i
  on = upd_else v b y

  off : (i : ℕ) → (i ≡ b → ⊥) → v i ≡ after i
  off i ne = sym (on i ne)

  -- no slot lies here
  no_slot : (v : View) (h : Handle) (r : Slot) → Fits g v h r → suc h.slot.0 ≡ b → ⊥
  no_slot v h r f e = let l = f.inside in omega arith

  pub body_fits : (h : Handle) (r : Slot) → Fits g v h r → Fits g after h r
  body_fits h r f = fits_else g v after b on h r f (no_slot v h r f)

  pub body_fits_back : (h : Handle) (r : Slot) → Fits g after h r → Fits g v h r
  body_fits_back h r f = fits_else g after v b off h r f (no_slot after h r f)

  pub body_framed : Framed g after
  body_framed h r k f l = frame h r k (body_fits_back h r f) l

  sound_on : (f c : Handle) (k p : ℕ) (n : Name) (s : Sound g v f k p n c) → (number s.slot k ≡ b → ⊥) → Sound g after f k p n c
  sound_on f c k p n s ne = sound_else g v after b on f c k p n s (no_slot v f s.slot s.fits) ne (no_slot v c s.child s.child_fits)

  sound_off : (f c : Handle) (k p : ℕ) (n : Name) (s : Sound g after f k p n c) → (number s.slot k ≡ b → ⊥) → Sound g v f k p n c
  sound_off f c k p n s ne = sound_else g after v b off f c k p n s (no_slot after f s.slot s.fits) ne (no_slot after c s.child s.child_fits)

  -- b was free, and what it holds now is a leaf of nothing
  pub body_written : (Held g v b → ⊥) → ((h : Handle) (r : Slot) (k : ℕ) → Fits g v h r → k < count r → Body r.kind (back h k) y → ⊥) → Moves g v after Nothing
  body_written free none = record {
    sounds = λ f c k p n r s. sound_on f c k p n s (λ e. old f k r (sound_good s) e);
    no_more = λ f c k p n r s. inl (sound_off f c k p n s (λ e. new f k (sound_good s) e));
    goods = λ h k r a. good_else g v after b on h k a (no_slot v h a.slot a.fits) (old h k r a);
    no_other = λ h k r a. good_else g after v b off h k a (no_slot after h a.slot a.fits) (new h k a);
    hollow = λ h k j a. j;
  }
    where
      old : (h : Handle) (k : ℕ) → Reached g v h → (a : Good g v h k) → number a.slot k ≡ b → ⊥
      old h k r a e = free (record { owner = h; leaf = k; reached = r; good = a; here = e })

      new : (h : Handle) (k : ℕ) (a : Good g after h k) → number a.slot k ≡ b → ⊥
      new h k a e = none h a.slot k (body_fits_back h a.slot a.fits) a.below (subst (Body a.slot.kind (back h k)) (ap after e ∙ upd_here v b y) a.body)

  -- b holds a body that names the same as before
  module _ (same : (d : Kind) (o : Back) → Body d o (v b) → Body d o y) (same_back : (d : Kind) (o : Back) → Body d o y → Body d o (v b)) where
    again_on : (h : Handle) (k : ℕ) (a : Good g v h k) → Likewise g v after h k a
    again_on h k a = elim (cases_eq (number a.slot k) b) [
      | inr ne ↦ good_else g v after b on h k a (no_slot v h a.slot a.fits) ne
      | inl e ↦ (
        record {
          slot = a.slot;
          fits = body_fits h a.slot a.fits;
          below = a.below;
          body = subst (Body a.slot.kind (back h k)) (sym (ap after e ∙ upd_here v b y)) (same a.slot.kind (back h k) (subst (λ (i : ℕ). Body a.slot.kind (back h k) (v i)) e a.body));
        },
        refl,
      )
    ]

    again_off : (h : Handle) (k : ℕ) (a : Good g after h k) → Likewise g after v h k a
    again_off h k a = elim (cases_eq (number a.slot k) b) [
      | inr ne ↦ good_else g after v b off h k a (no_slot after h a.slot a.fits) ne
      | inl e ↦ (
        record {
          slot = a.slot;
          fits = body_fits_back h a.slot a.fits;
          below = a.below;
          body = subst (λ (i : ℕ). Body a.slot.kind (back h k) (v i)) (sym e) (same_back a.slot.kind (back h k) (subst (Body a.slot.kind (back h k)) (ap after e ∙ upd_here v b y) a.body));
        },
        refl,
      )
    ]

-- a file body is written again
module _ (g : Geometry) (v : View) (b : ℕ) (o : Back) (x z : List ℕ) (up : g.slots < b) (frame : Framed g v) (stood : v b ≡ file_body o x) where
  pub file_written : Moves g v (upd v b (file_body o z)) Nothing
  file_written = record {
    sounds = λ f c k p n r s. sound_on g v b (file_body o z) up frame f c k p n s (λ e. apart s.body (ap v e ∙ stood) (λ w. omega arith));
    no_more = λ f c k p n r s. inl (sound_off g v b (file_body o z) up frame f c k p n s (λ e. apart s.body (ap (upd v b (file_body o z)) e ∙ upd_here v b (file_body o z)) (λ w. omega arith)));
    goods = λ h k r a. again_on g v b (file_body o z) up frame same same_back h k a;
    no_other = λ h k r a. again_off g v b (file_body o z) up frame same same_back h k a;
    hollow = λ h k j a. j;
  }
    where
      same : (d : Kind) (a : Back) → Body d a (v b) → Body d a (file_body o z)
      same d a = file_again d a o x z (v b) stood

      same_back : (d : Kind) (a : Back) → Body d a (file_body o z) → Body d a (v b)
      same_back d a w = subst (Body d a) (sym stood) (file_again d a o z x (file_body o z) refl w)

-- one cell of a folder body is written over, where the entry was not sound
module _ (g : Geometry) (v : View) (b : ℕ) (f : Handle) (k : ℕ) (es : List Cell) (p : ℕ) (e : Cell) (up : g.slots < b) (frame : Framed g v) (stood : v b ≡ folder_body (back f k) es) (unsound : SoundAt g v f k p → ⊥) where
  abbrev cell_set : View
  cell_set = upd v b (folder_body (back f k) (set es p e))

  now_here : cell_set b ≡ folder_body (back f k) (set es p e)
  now_here = upd_here v b (folder_body (back f k) (set es p e))

  cell_on : (a c : Handle) (j q : ℕ) (n : Name) → Sound g v a j q n c → Sound g cell_set a j q n c
  cell_on a c j q n s = elim (cases_eq (number s.slot j) b) [ inr ne ↦ sound_on g v b _ up frame a c j q n s ne | inl i ↦ here i ]
    where
      here : number s.slot j ≡ b → Sound g cell_set a j q n c
      here i =
          let both : folder_body (back a j) s.cells ≡ folder_body (back f k) es = sym s.body ∙ ap v i ∙ stood in
          let names : back a j ≡ back f k = folder_back both in
          let cells : s.cells ≡ es = folder_cells both in
          elim (set_cases es p q e) [
            | inl w ↦ absurd (unsound (n, c, subst (λ (x : ℕ). Sound g v f k x n c) (sym w.0) (subst (λ (o : Back). Sound g v o.owner o.leaf.0 q n c) names s)))
            | inr w ↦ record {
              slot = s.slot;
              fits = body_fits g v b _ up frame a s.slot s.fits;
              kind = s.kind;
              below = s.below;
              cells = set es p e;
              body = ap cell_set i ∙ now_here ∙ ap (λ (o : Back). folder_body o (set es p e)) (sym names);
              here = ap (entry_of g) (w ∙ ap (λ (l : List Cell). get_or l q []) (sym cells)) ∙ s.here;
              child = s.child;
              child_fits = body_fits g v b _ up frame c s.child s.child_fits;
              parent = s.parent;
            }
          ]

  cell_off : (a c : Handle) (j q : ℕ) (n : Name) → Sound g cell_set a j q n c → Sound g v a j q n c ⊎ (entry_of g e ≡ entry n c)
  cell_off a c j q n s = elim (cases_eq (number s.slot j) b) [ inr ne ↦ inl (sound_off g v b _ up frame a c j q n s ne) | inl i ↦ here i ]
    where
      here : number s.slot j ≡ b → Sound g v a j q n c ⊎ (entry_of g e ≡ entry n c)
      here i =
          let both : folder_body (back a j) s.cells ≡ folder_body (back f k) (set es p e) = sym s.body ∙ ap cell_set i ∙ now_here in
          let names : back a j ≡ back f k = folder_back both in
          let cells : s.cells ≡ set es p e = folder_cells both in
          elim (set_cases es p q e) [
            | inl w ↦ inr (ap (entry_of g) (sym w.1 ∙ ap (λ (l : List Cell). get_or l q []) (sym cells)) ∙ s.here)
            | inr w ↦ inl (record {
              slot = s.slot;
              fits = body_fits_back g v b _ up frame a s.slot s.fits;
              kind = s.kind;
              below = s.below;
              cells = es;
              body = ap v i ∙ stood ∙ ap (λ (o : Back). folder_body o es) (sym names);
              here = ap (entry_of g) (sym w ∙ ap (λ (l : List Cell). get_or l q []) (sym cells)) ∙ s.here;
              child = s.child;
              child_fits = body_fits_back g v b _ up frame c s.child s.child_fits;
              parent = s.parent;
            })
          ]

  pub cell_written : (Joins : Handle → Type 0) → ((n : Name) (c : Handle) → entry_of g e ≡ entry n c → Joins c) → ((h : Handle) (j : ℕ) → Joins h → Good g cell_set h j → ⊥) → Moves g v cell_set Joins
  cell_written Joins joins hollow = record {
    sounds = λ a c j q n r s. cell_on a c j q n s;
    no_more = λ a c j q n r s. elim (cell_off a c j q n s) [ inl z ↦ inl z | inr z ↦ inr (joins n c z) ];
    goods = λ h j r a. again_on g v b _ up frame same same_back h j a;
    no_other = λ h j r a. again_off g v b _ up frame same same_back h j a;
    hollow = hollow;
  }
    where
      same : (d : Kind) (a : Back) → Body d a (v b) → Body d a (folder_body (back f k) (set es p e))
      same d a = folder_again d a (back f k) es (set es p e) (v b) stood

      same_back : (d : Kind) (a : Back) → Body d a (folder_body (back f k) (set es p e)) → Body d a (v b)
      same_back d a w = subst (Body d a) (sym stood) (folder_again d a (back f k) (set es p e) es (folder_body (back f k) (set es p e)) refl w)

-- ---- a slot

-- a free slot is taken, with an identity above all that is told
module _ (g : Geometry) (v : View) (s high : ℕ) (t : Slot) (frame : Framed g v) (counted : (b : ℕ) → told g (v b) ≤ high) (free : FreeSlot g v s) (fresh : t.identity ≡ suc high) where
  abbrev slot_set : View
  slot_set = upd v (suc s) (slotted t)

  slot_on : (i : ℕ) → (i ≡ suc s → ⊥) → slot_set i ≡ v i
  slot_on = upd_else v (suc s) (slotted t)

  slot_off : (i : ℕ) → (i ≡ suc s → ⊥) → v i ≡ slot_set i
  slot_off i ne = sym (slot_on i ne)

  -- what is reached lies elsewhere
  elsewhere : (h : Handle) → Reached g v h → suc h.slot.0 ≡ suc s → ⊥
  elsewhere h r e = free.unreached h (omega arith) r

  leaf_on : (h : Handle) (r : Slot) (k : ℕ) → Fits g v h r → k < count r → number r k ≡ suc s → ⊥
  leaf_on h r k f l e = let a = frame h r k f l in let b = free.inside in omega arith

  -- and nothing that is told leads here
  not_told : (f c : Handle) (k p : ℕ) (n : Name) → Reached g v f → (x : Sound g slot_set f k p n c) → suc c.slot.0 ≡ suc s → ⊥
  not_told f c k p n r x e =
      let fit : Fits g v f x.slot = fits_else g slot_set v (suc s) slot_off f x.slot x.fits (elsewhere f r) in
      let body : v (number x.slot k) ≡ folder_body (back f k) x.cells = slot_off (number x.slot k) (leaf_on f x.slot k fit x.below) ∙ x.body in
      let low = told_entry g (back f k) x.cells p n c x.here in
      let most : told g (folder_body (back f k) x.cells) ≤ high = subst (λ (y : Content). told g y ≤ high) body (counted (number x.slot k)) in
      let same : x.child ≡ t = slotted_same (sym x.child_fits.holds ∙ ap slot_set e ∙ upd_here v (suc s) (slotted t)) in
      let own : t.identity ≡ c.identity.0 = ap (λ (y : Slot). y.identity) (sym same) ∙ x.child_fits.same in
      omega (arith, low, most, own, fresh)

  pub slot_taken : Moves g v slot_set Nothing
  slot_taken = record {
    sounds = λ f c k p n r x. sound_else g v slot_set (suc s) slot_on f c k p n x (elsewhere f r) (leaf_on f x.slot k x.fits x.below) (elsewhere c (under r x));
    no_more = λ f c k p n r x. inl (sound_else g slot_set v (suc s) slot_off f c k p n x (elsewhere f r) (leaf_on f x.slot k (fits_else g slot_set v (suc s) slot_off f x.slot x.fits (elsewhere f r)) x.below) (not_told f c k p n r x));
    goods = λ h k r a. good_else g v slot_set (suc s) slot_on h k a (elsewhere h r) (leaf_on h a.slot k a.fits a.below);
    no_other = λ h k r a. good_else g slot_set v (suc s) slot_off h k a (elsewhere h r) (leaf_on h a.slot k (fits_else g slot_set v (suc s) slot_off h a.slot a.fits (elsewhere h r)) a.below);
    hollow = λ h k j a. j;
  }
