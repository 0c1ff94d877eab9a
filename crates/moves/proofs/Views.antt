-- What moves when a view changes: from what its sound entries and good leaves do.
use Rattle.std.proofs.Common.{◌≡◌, ℕ, suc, ◌<◌, cond, eqb, ◌⊎◌, sym, refl, ◌∙◌, subst, inl, inr}
use Rattle.std.proofs.lemmas.Bool.{eq-eqb, ne_eqb, cond-true, cond-false}
use Rattle.base.specs.declared.owner.Handle.{Handle}
use Rattle.layout.specs.Format.{Name, Geometry, back, Slot, Content}
use Rattle.rule.specs.Agree.{View, count, number}
use Rattle.rule.specs.Meaning.{Fits, Body, Good, Sound, Reached, the_root, under, Held}

-- the view after block b came to hold x
abbrev pub upd : View → ℕ → Content → View
upd v b x i = cond (eqb i b) x (v i)

pub upd_here : (v : View) (b : ℕ) (x : Content) → upd v b x b ≡ x
upd_here v b x = cond-true (eqb b b) x (v b) (eq-eqb b b refl)

pub upd_else : (v : View) (b : ℕ) (x : Content) (i : ℕ) → (i ≡ b → ⊥) → upd v b x i ≡ v i
upd_else v b x i ne = cond-false (eqb i b) x (v i) (ne_eqb i b ne)

-- leaves lie behind the slots
abbrev pub Framed : Geometry → View → Type 0
Framed g v = (h : Handle) (r : Slot) (k : ℕ) → Fits g v h r → k < count r → g.slots < number r k

abbrev pub sound_good : {g : Geometry} {v : View} {f c : Handle} {k p : ℕ} {n : Name} → Sound g v f k p n c → Good g v f k
sound_good s = record { slot = s.slot; fits = s.fits; below = s.below; body = inr (s.cells, s.kind, s.body) }

-- a good leaf of w in the same block as that of v
abbrev pub Likewise : (g : Geometry) (v w : View) (h : Handle) (k : ℕ) → Good g v h k → Type 0
Likewise g v w h k a = (b : Good g w h k) × (number b.slot k ≡ number a.slot k)

-- what two views that agree outside block b have in common
module _ (g : Geometry) (v w : View) (b : ℕ) (others : (i : ℕ) → (i ≡ b → ⊥) → w i ≡ v i) where
  pub fits_else : (h : Handle) (r : Slot) → Fits g v h r → (suc h.slot.0 ≡ b → ⊥) → Fits g w h r
  fits_else h r f ne = record { inside = f.inside; holds = others (suc h.slot.0) ne ∙ f.holds; same = f.same }

  pub sound_else : (f c : Handle) (k p : ℕ) (n : Name) (s : Sound g v f k p n c) → (suc f.slot.0 ≡ b → ⊥) → (number s.slot k ≡ b → ⊥) → (suc c.slot.0 ≡ b → ⊥) → Sound g w f k p n c
  sound_else f c k p n s nf nb nc = record {
    slot = s.slot;
    fits = fits_else f s.slot s.fits nf;
    kind = s.kind;
    below = s.below;
    cells = s.cells;
    body = others (number s.slot k) nb ∙ s.body;
    here = s.here;
    child = s.child;
    child_fits = fits_else c s.child s.child_fits nc;
    parent = s.parent;
  }

  pub good_else : (h : Handle) (k : ℕ) (a : Good g v h k) → (suc h.slot.0 ≡ b → ⊥) → (number a.slot k ≡ b → ⊥) → Likewise g v w h k a
  good_else h k a nh nb = (
    record { slot = a.slot; fits = fits_else h a.slot a.fits nh; below = a.below; body = subst (Body a.slot.kind (back h k)) (sym (others (number a.slot k) nb)) a.body },
    refl,
  )

-- the sound entries and good leaves of what is reached stay, and nothing joins them but entries that lead to what `Joins`, which has no good leaf
pub record Moves (g : Geometry) (v w : View) (Joins : Handle → Type 0) : Type 0 where
  pub sounds : (f c : Handle) (k p : ℕ) (n : Name) → Reached g v f → Sound g v f k p n c → Sound g w f k p n c
  pub no_more : (f c : Handle) (k p : ℕ) (n : Name) → Reached g v f → Sound g w f k p n c → Sound g v f k p n c ⊎ Joins c
  pub goods : (h : Handle) (k : ℕ) → Reached g v h → (a : Good g v h k) → Likewise g v w h k a
  pub no_other : (h : Handle) (k : ℕ) → Reached g v h → (a : Good g w h k) → Likewise g w v h k a
  pub hollow : (h : Handle) (k : ℕ) → Joins h → Good g w h k → ⊥

module _ (g : Geometry) (v w : View) (Joins : Handle → Type 0) (m : Moves g v w Joins) where
  pub reached_on : (h : Handle) → Reached g v h → Reached g w h
  reached_on h the_root = the_root
  reached_on h (under {f} {c} {k} {p} {n} r s) = under (reached_on f r) (m.sounds f c k p n r s)

  pub reached_back : (h : Handle) → Reached g w h → Reached g v h ⊎ Joins h
  reached_back h the_root = inl the_root
  reached_back h (under {f} {c} {k} {p} {n} r s) = elim (reached_back f r) [
    | inl a ↦ elim (m.no_more f c k p n a s) [ inl z ↦ inl (under a z) | inr z ↦ inr z ]
    | inr j ↦ absurd (m.hollow f k j (sound_good s))
  ]

  pub held_on : (x : ℕ) → Held g v x → Held g w x
  held_on x h =
      let a = m.goods h.owner h.leaf h.reached h.good in
      record { owner = h.owner; leaf = h.leaf; reached = reached_on h.owner h.reached; good = a.0; here = a.1 ∙ h.here }

  pub held_back : (x : ℕ) → Held g w x → Held g v x
  held_back x h = elim (reached_back h.owner h.reached) [
    | inl r ↦ (let a = m.no_other h.owner h.leaf r h.good in record { owner = h.owner; leaf = h.leaf; reached = r; good = a.0; here = a.1 ∙ h.here })
    | inr j ↦ absurd (m.hollow h.owner h.leaf j h.good)
  ]

abbrev pub Nothing : Handle → Type 0
Nothing h = ⊥
