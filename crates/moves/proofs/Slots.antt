-- One slot changes: it gains or loses leaves, or is blanked.
use Rattle.std.proofs.Common.{◌≡◌, ℕ, suc, ◌<◌, ◌≤◌, ◌⊎◌, List, [], get_or, sym, refl, ap, ◌∙◌, subst, subst₂, inl, inr, arith}
use Rattle.std.proofs.lemmas.Bool.{cases_eq, cases_lt}
use Rattle.base.specs.declared.owner.Kind.{Kind}
use Rattle.base.specs.declared.owner.Kind.TheVariants.{Folder}
use Rattle.base.specs.declared.owner.Handle.{Handle}
use Rattle.layout.specs.Format.{Name, Cell, Geometry, handle, back, Slot, Content, blank, slotted, folder_body, entry, entry_of}
use Rattle.rule.specs.Agree.{View, count, number}
use Rattle.rule.specs.Meaning.{Fits, Body, Good, Sound, Reached, the_root, under, Held}
use Rattle.rule.specs.Calls.{SoundAt}
use Rattle.history.proofs.Parsed.{apart, slotted_same}
use Rattle.moves.proofs.Views.{upd, upd_here, upd_else, Framed, fits_else, sound_else, good_else}

pub suc_same : {a b : ℕ} → suc a ≡ suc b → a ≡ b
suc_same e = omega arith

pub handle_is : (h : Handle) (s i : ℕ) → h.slot.0 ≡ s → i ≡ h.identity.0 → h ≡ handle s i
handle_is h s i a b = λ j. handle (a j) (sym b j)

-- ---- a slot of two views, which in `large` has more leaves than in `small`, and no entries in these

-- the second slot is the first with as many leaves, or more
pub record Longer (t u : Slot) : Type 0 where
  pub own : u.identity ≡ t.identity
  pub parent : u.parent ≡ t.parent
  pub kind : u.kind ≡ t.kind
  pub fewer : count t ≤ count u
  pub numbers : (k : ℕ) → k < count t → number u k ≡ number t k

longer_self : (t : Slot) → Longer t t
longer_self t = record { own = refl; parent = refl; kind = refl; fewer = omega arith; numbers = λ k l. refl }

module _ (g : Geometry) (small large : View) (h : Handle) (r u : Slot) (others : (i : ℕ) → (i ≡ suc h.slot.0 → ⊥) → large i ≡ small i)
    (stood : Fits g small h r) (stands : large (suc h.slot.0) ≡ slotted u) (longer : Longer r u) (frame : Framed g small) (frame_large : Framed g large)
    (bare : (k p : ℕ) (es : List Cell) (n : Name) (c : Handle) → count r ≤ k → k < count u → r.kind ≡ Folder → small (number u k) ≡ folder_body (back h k) es → entry_of g (get_or es p []) ≡ entry n c → ⊥) where
  abbrev s : ℕ
  s = h.slot.0

  less : (i : ℕ) → (i ≡ suc s → ⊥) → small i ≡ large i
  less i ne = sym (others i ne)

  behind : (x : ℕ) → g.slots < x → x ≡ suc s → ⊥
  behind x l e = let a = stood.inside in omega arith

  at_leaf : (a : Handle) (t : Slot) (k : ℕ) → Fits g small a t → k < count t → large (number t k) ≡ small (number t k)
  at_leaf a t k f l = others (number t k) (behind (number t k) (frame a t k f l))

  record Up (a : Handle) (t : Slot) : Type 0 where
    pub slot : Slot
    pub fits : Fits g large a slot
    pub more : Longer t slot

  up : (a : Handle) (t : Slot) → Fits g small a t → Up a t
  up a t f = elim (cases_eq a.slot.0 s) [
    | inr ne ↦ record { slot = t; fits = fits_else g small large (suc s) others a t f (λ e. ne (suc_same e)); more = longer_self t }
    | inl e ↦
        (let same : r ≡ t = slotted_same (sym stood.holds ∙ ap (λ (x : ℕ). small (suc x)) (sym e) ∙ f.holds) in
        record {
          slot = u;
          fits = record { inside = f.inside; holds = ap (λ (x : ℕ). large (suc x)) e ∙ stands; same = longer.own ∙ ap (λ (x : Slot). x.identity) same ∙ f.same };
          more = subst (λ (x : Slot). Longer x u) same longer;
        })
  ]

  -- leaf k of the longer slot is one of the shorter, or is new
  record Down (a : Handle) (t : Slot) : Type 0 where
    pub slot : Slot
    pub fits : Fits g small a slot
    pub more : Longer slot t
    pub leaf : (k : ℕ) → k < count t → (k < count slot) ⊎ ((a ≡ h) × (count r ≤ k) × (k < count u) × (t ≡ u))

  down : (a : Handle) (t : Slot) → Fits g large a t → Down a t
  down a t f = elim (cases_eq a.slot.0 s) [
    | inr ne ↦ record { slot = t; fits = fits_else g large small (suc s) less a t f (λ e. ne (suc_same e)); more = longer_self t; leaf = λ k l. inl l }
    | inl e ↦ here e
  ]
    where
      here : a.slot.0 ≡ s → Down a t
      here e =
          let same : u ≡ t = slotted_same (sym stands ∙ ap (λ (x : ℕ). large (suc x)) (sym e) ∙ f.holds) in
          let own : r.identity ≡ a.identity.0 = sym longer.own ∙ ap (λ (x : Slot). x.identity) same ∙ f.same in
          record {
            slot = r;
            fits = record { inside = f.inside; holds = ap (λ (x : ℕ). small (suc x)) e ∙ stood.holds; same = own };
            more = subst (λ (x : Slot). Longer r x) same longer;
            leaf = λ k l. elim (cases_lt k (count r)) [
              | inl low ↦ inl low
              | inr high ↦ inr (handle_is a s h.identity.0 e (sym stood.same ∙ own), high, subst (λ (x : Slot). k < count x) (sym same) l, sym same)
            ];
          }

  sound_up : (f c : Handle) (k p : ℕ) (n : Name) → Sound g small f k p n c → Sound g large f k p n c
  sound_up f c k p n x =
      let a = up f x.slot x.fits in
      let b = up c x.child x.child_fits in
      record {
        slot = a.slot;
        fits = a.fits;
        kind = a.more.kind ∙ x.kind;
        below = (let l = x.below in let m = a.more.fewer in omega arith);
        cells = x.cells;
        body = ap large (a.more.numbers k x.below) ∙ at_leaf f x.slot k x.fits x.below ∙ x.body;
        here = x.here;
        child = b.slot;
        child_fits = b.fits;
        parent = b.more.parent ∙ x.parent;
      }

  sound_down : (f c : Handle) (k p : ℕ) (n : Name) → Sound g large f k p n c → Sound g small f k p n c
  sound_down f c k p n x = elim (a.leaf k x.below) [
    | inl l ↦ record {
      slot = a.slot;
      fits = a.fits;
      kind = sym a.more.kind ∙ x.kind;
      below = l;
      cells = x.cells;
      body = sym (at_leaf f a.slot k a.fits l) ∙ ap large (sym (a.more.numbers k l)) ∙ x.body;
      here = x.here;
      child = b.slot;
      child_fits = b.fits;
      parent = sym b.more.parent ∙ x.parent;
    }
    | inr w ↦ absurd (bare k p x.cells n c w.1 w.2
        (sym longer.kind ∙ ap (λ (y : Slot). y.kind) (sym w.3) ∙ x.kind)
        (less (number u k) (behind (number u k) (subst (λ (y : Slot). g.slots < number y k) w.3 (frame_large f x.slot k x.fits x.below)))
        ∙ ap (λ (y : Slot). large (number y k)) (sym w.3) ∙ x.body ∙ ap (λ (y : Handle). folder_body (back y k) x.cells) w.0)
        x.here)
  ]
    where
      a : Down f x.slot
      a = down f x.slot x.fits

      b : Down c x.child
      b = down c x.child x.child_fits

  pub reached_up : (a : Handle) → Reached g small a → Reached g large a
  reached_up a the_root = the_root
  reached_up a (under {f} {c} {k} {p} {n} w x) = under (reached_up f w) (sound_up f c k p n x)

  pub reached_down : (a : Handle) → Reached g large a → Reached g small a
  reached_down a the_root = the_root
  reached_down a (under {f} {c} {k} {p} {n} w x) = under (reached_down f w) (sound_down f c k p n x)

  pub held_up : (x : ℕ) → Held g small x → Held g large x
  held_up x w =
      let a = up w.owner w.good.slot w.good.fits in
      let l = w.good.below in
      let t = w.good.slot in
      let num = a.more.numbers w.leaf l in
      record {
        owner = w.owner;
        leaf = w.leaf;
        reached = reached_up w.owner w.reached;
        good = record {
          slot = a.slot;
          fits = a.fits;
          below = (let m = a.more.fewer in omega arith);
          body = subst₂ (λ (d : Kind) (y : Content). Body d (back w.owner w.leaf) y) (sym a.more.kind) (sym (ap large num ∙ at_leaf w.owner t w.leaf w.good.fits l)) w.good.body;
        };
        here = num ∙ w.here;
      }

  -- a leaf that only the longer slot has
  pub record Extra (x : ℕ) : Type 0 where
    pub leaf : ℕ
    pub from : count r ≤ leaf
    pub below : leaf < count u
    pub here : number u leaf ≡ x
    pub body : Body r.kind (back h leaf) (small x)

  pub held_down : (x : ℕ) → Held g large x → Held g small x ⊎ Extra x
  held_down x w = elim (a.leaf w.leaf w.good.below) [
    | inl l ↦ inl (record {
      owner = w.owner;
      leaf = w.leaf;
      reached = reached_down w.owner w.reached;
      good = record {
        slot = a.slot;
        fits = a.fits;
        below = l;
        body = subst₂ (λ (d : Kind) (y : Content). Body d (back w.owner w.leaf) y) a.more.kind (ap large (a.more.numbers w.leaf l) ∙ at_leaf w.owner a.slot w.leaf a.fits l) w.good.body;
      };
      here = sym (a.more.numbers w.leaf l) ∙ w.here;
    })
    | inr q ↦ inr (record {
      leaf = w.leaf;
      from = q.1;
      below = q.2;
      here = ap (λ (y : Slot). number y w.leaf) (sym q.3) ∙ w.here;
      body = subst (λ (o : Handle). Body r.kind (back o w.leaf) (small x)) q.0
          (subst₂ (λ (d : Kind) (y : Content). Body d (back w.owner w.leaf) y) (ap (λ (y : Slot). y.kind) q.3 ∙ longer.kind)
          (ap large w.here ∙ others x (behind x (subst (λ (i : ℕ). g.slots < i) w.here (frame_large w.owner w.good.slot w.leaf w.good.fits w.good.below)))) w.good.body);
    })
  ]
    where
      a : Down w.owner w.good.slot
      a = down w.owner w.good.slot w.good.fits

  -- such a leaf is held, if the slot is reached
  pub extra_held : (x : ℕ) → Reached g small h → Extra x → Held g large x
  extra_held x w e = record {
    owner = h;
    leaf = e.leaf;
    reached = reached_up h w;
    good = record {
      slot = u;
      fits = fit;
      below = e.below;
      body = subst₂ (λ (d : Kind) (y : Content). Body d (back h e.leaf) y) (sym longer.kind) (sym (ap large e.here ∙ others x (behind x (subst (λ (i : ℕ). g.slots < i) e.here (frame_large h u e.leaf fit e.below))))) e.body;
    };
    here = e.here;
  }
    where
      fit : Fits g large h u
      fit = record { inside = stood.inside; holds = stands; same = longer.own ∙ stood.same }

-- ---- a slot is blanked, of which no sound entry leads on

module _ (g : Geometry) (v : View) (h : Handle) (t : Slot) (fit : Fits g v h t) (above : 0 < h.slot.0) (hollow : (k p : ℕ) → SoundAt g v h k p → ⊥) (frame : Framed g v) where
  abbrev blanked : View
  blanked = upd v (suc h.slot.0) blank

  b_on : (i : ℕ) → (i ≡ suc h.slot.0 → ⊥) → blanked i ≡ v i
  b_on = upd_else v (suc h.slot.0) blank

  b_off : (i : ℕ) → (i ≡ suc h.slot.0 → ⊥) → v i ≡ blanked i
  b_off i ne = sym (b_on i ne)

  -- nothing fits there any more
  pub no_fit : (a : Handle) (r : Slot) → Fits g blanked a r → suc a.slot.0 ≡ suc h.slot.0 → ⊥
  no_fit a r f e = apart f.holds (ap blanked e ∙ upd_here v (suc h.slot.0) blank) (λ w. omega arith)

  -- what fitted there was h
  was : (a : Handle) (r : Slot) → Fits g v a r → suc a.slot.0 ≡ suc h.slot.0 → a ≡ h
  was a r f e =
      let same : t ≡ r = slotted_same (sym fit.holds ∙ ap v (sym e) ∙ f.holds) in
      handle_is a h.slot.0 h.identity.0 (suc_same e) (sym fit.same ∙ ap (λ (x : Slot). x.identity) same ∙ f.same)

  leaf_apart : (a : Handle) (r : Slot) (k : ℕ) → Fits g v a r → k < count r → number r k ≡ suc h.slot.0 → ⊥
  leaf_apart a r k f l e = let x = frame a r k f l in let y = fit.inside in omega arith

  pub blank_fits : (a : Handle) (r : Slot) → Fits g blanked a r → Fits g v a r
  blank_fits a r f = fits_else g blanked v (suc h.slot.0) b_off a r f (no_fit a r f)

  pub blank_framed : Framed g blanked
  blank_framed a r k f l = frame a r k (blank_fits a r f) l

  pub sound_blank : (f c : Handle) (k p : ℕ) (n : Name) → Sound g v f k p n c → (c ≡ h → ⊥) → Sound g blanked f k p n c
  sound_blank f c k p n x ne = sound_else g v blanked (suc h.slot.0) b_on f c k p n x
      (λ e. hollow k p (subst (λ (a : Handle). SoundAt g v a k p) (was f x.slot x.fits e) (n, c, x)))
      (leaf_apart f x.slot k x.fits x.below)
      (λ e. ne (was c x.child x.child_fits e))

  pub sound_unblank : (f c : Handle) (k p : ℕ) (n : Name) → Sound g blanked f k p n c → Sound g v f k p n c
  sound_unblank f c k p n x = sound_else g blanked v (suc h.slot.0) b_off f c k p n x
      (no_fit f x.slot x.fits) (leaf_apart f x.slot k (blank_fits f x.slot x.fits) x.below) (no_fit c x.child x.child_fits)

  same_or : (a : Handle) (r : Slot) → Fits g v a r → (a ≡ h) ⊎ (a ≡ h → ⊥)
  same_or a r f = elim (cases_eq a.slot.0 h.slot.0) [ inl e ↦ inl (was a r f (ap suc e)) | inr ne ↦ inr (λ e. ne (ap (λ (x : Handle). x.slot.0) e)) ]

  pub reached_blank : (a : Handle) → Reached g v a → Reached g blanked a ⊎ (a ≡ h)
  reached_blank a the_root = inl the_root
  reached_blank a (under {f} {c} {k} {p} {n} w x) = elim (same_or c x.child x.child_fits) [
    | inl e ↦ inr e
    | inr ne ↦ elim (reached_blank f w) [
      | inl y ↦ inl (under y (sound_blank f c k p n x ne))
      | inr e ↦ absurd (hollow k p (subst (λ (a : Handle). SoundAt g v a k p) e (n, c, x)))
    ]
  ]

  pub reached_unblank : (a : Handle) → Reached g blanked a → Reached g v a × (a.slot.0 ≡ h.slot.0 → ⊥)
  reached_unblank a the_root = (the_root, λ e. omega (arith, e, above))
  reached_unblank a (under {f} {c} {k} {p} {n} w x) = (under (reached_unblank f w).0 (sound_unblank f c k p n x), λ e. no_fit c x.child x.child_fits (ap suc e))

  -- a good leaf of h in block x
  abbrev pub Own : ℕ → Type 0
  Own x = (k : ℕ) × (w : Good g v h k) × (number w.slot k ≡ x)

  pub held_blank : (x : ℕ) → Held g v x → Held g blanked x ⊎ Own x
  held_blank x w = elim (same_or w.owner w.good.slot w.good.fits) [
    | inl e ↦ (let z = subst (λ (a : Handle). (y : Good g v a w.leaf) × (number y.slot w.leaf ≡ x)) e (w.good, w.here) in inr (w.leaf, z.0, z.1))
    | inr ne ↦ elim (reached_blank w.owner w.reached) [
      | inr e ↦ absurd (ne e)
      | inl y ↦
          (let a = good_else g v blanked (suc h.slot.0) b_on w.owner w.leaf w.good (λ e. ne (was w.owner w.good.slot w.good.fits e)) (leaf_apart w.owner w.good.slot w.leaf w.good.fits w.good.below) in
          inl (record { owner = w.owner; leaf = w.leaf; reached = y; good = a.0; here = a.1 ∙ w.here }))
    ]
  ]

  pub held_unblank : (x : ℕ) → Held g blanked x → (w : Held g v x) × (w.owner.slot.0 ≡ h.slot.0 → ⊥)
  held_unblank x w =
      let r = reached_unblank w.owner w.reached in
      let a = good_else g blanked v (suc h.slot.0) b_off w.owner w.leaf w.good (no_fit w.owner w.good.slot w.good.fits) (leaf_apart w.owner w.good.slot w.leaf (blank_fits w.owner w.good.slot w.good.fits) w.good.below) in
      (record { owner = w.owner; leaf = w.leaf; reached = r.0; good = a.0; here = a.1 ∙ w.here }, r.1)
