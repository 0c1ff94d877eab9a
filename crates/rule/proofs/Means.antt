-- What computes is the relation.
use Rattle.std.proofs.Common.{◌≡◌, ℕ, zero, suc, ◌+◌, ◌<◌, ◌≤◌, Bool, true, false, cond, ◌&&◌, eqb, ltb, ◌⊎◌, List, [], length, get_or, Some, None, Option, sym, refl, ap, ◌∙◌, subst, inl, inr, arith}
use lib.ListN.{get_or-eq_default}
use Rattle.std.proofs.lemmas.Bool.{cases_lt, and_parts, and_from, eqb-true, eq-eqb, ltb-true, lt-ltb, cond-true}
use Rattle.base.specs.declared.owner.Kind.{Kind}
use Rattle.base.specs.declared.owner.Kind.TheVariants.{Folder}
use Rattle.base.specs.declared.owner.Handle.{Handle}
use Rattle.base.specs.declared.owner.Back.{Back}
use Rattle.layout.specs.Format.{Name, Cell, Geometry, handle, back, Slot, Content, blank, cover, slotted, file_body, folder_body, ill_formed, Entry, entry, no_entry, entry_of}
use Rattle.rule.specs.Agree.{View, slot_at, slot_in, count, number, back_in, good, names, Place, places, cells_in, agrees, sound, has_name, leads_to, lists, first, some_is, given, same_handle, root, parent_of, reached, climbs, held}
use Rattle.rule.specs.Meaning.{Fits, Body, Good, Sound, Reached, the_root, under, Before, Finds, Held, FreeSlot, FreeBody, Rooted, FoundIsFound, GoodIsGood, ReachedIsReached, HeldIsHeld}
use Rattle.rule.proofs.Steps.{clash, clash_none, given_some, some_is_true, cond_some, handle_true, handle_same, bytes_true, bytes_refl, names_true, names_from}
use Rattle.rule.proofs.Places.{at, cells_at, FirstCell, cell_first, cell_none, FirstLeaf, leaf_first, leaf_none}
use Rattle.rule.proofs.Walks.{climbs_root, climbs_up, climbs_parts, climbs_within}

pub slot_in_some : (c : Content) (r : Slot) → slot_in c ≡ Some r → c ≡ slotted r
slot_in_some (slotted q) r e = let z : q ≡ r = cc in ap {B = Content} slotted z
slot_in_some blank r e = clash_none e
slot_in_some (cover g) r e = clash_none e
slot_in_some (file_body b x) r e = clash_none e
slot_in_some (folder_body b es) r e = clash_none e
slot_in_some ill_formed r e = clash_none e

-- a slot that is there lies inside and is well formed
pub slot_some : (g : Geometry) (v : View) (s : ℕ) (r : Slot) → slot_at g v s ≡ Some r → (s < g.slots) × (v (suc s) ≡ slotted r)
slot_some g v s r e = go (ltb s g.slots) refl e
  where
    go : (b : Bool) → ltb s g.slots ≡ b → cond b (slot_in (v (suc s))) None ≡ Some r → (s < g.slots) × (v (suc s) ≡ slotted r)
    go true h e = (ltb-true s g.slots h, slot_in_some (v (suc s)) r e)
    go false h e = clash_none e

pub fits_at : (g : Geometry) (v : View) (h : Handle) (r : Slot) → Fits g v h r → slot_at g v h.slot.0 ≡ Some r
fits_at g v h r f = cond-true (ltb h.slot.0 g.slots) _ None (lt-ltb h.slot.0 g.slots f.inside) ∙ ap slot_in f.holds

pub fits_from : (g : Geometry) (v : View) (h : Handle) (r : Slot) → slot_at g v h.slot.0 ≡ Some r → r.identity ≡ h.identity.0 → Fits g v h r
fits_from g v h r e same = let w = slot_some g v h.slot.0 r e in record { inside = w.0; holds = w.1; same = same }

-- what an entry and its child say together
pub record Agreed (g : Geometry) (v : View) (f : Handle) (e : Entry) : Type 0 where
  pub name : Name
  pub leads : Handle
  pub is : e ≡ entry name leads
  pub child : Slot
  pub holds : Fits g v leads child
  pub parent : child.parent ≡ f

pub agrees_true : (g : Geometry) (v : View) (f : Handle) (e : Entry) → agrees g v f e ≡ true → Agreed g v f e
agrees_true g v f (entry n c) h =
    let w = some_is_true (slot_at g v c.slot.0) (λ r. eqb r.identity c.identity.0 && same_handle r.parent f) h in
    let b = and_parts (eqb w.0.identity c.identity.0) (same_handle w.0.parent f) w.2 in
    record { name = n; leads = c; is = refl; child = w.0; holds = fits_from g v c w.0 w.1 (eqb-true w.0.identity c.identity.0 b.0); parent = handle_true w.0.parent f b.1 }
agrees_true g v f no_entry h = clash h

pub agrees_from : (g : Geometry) (v : View) (f : Handle) (e : Entry) (n : Name) (c : Handle) (r : Slot) → e ≡ entry n c → Fits g v c r → r.parent ≡ f → agrees g v f e ≡ true
agrees_from g v f e n c r is h p =
    ap (agrees g v f) is
    ∙ ap (λ (o : Option Slot). some_is o (λ r. eqb r.identity c.identity.0 && same_handle r.parent f)) (fits_at g v c r h)
    ∙ and_from _ _ (eq-eqb r.identity c.identity.0 h.same) (handle_same r.parent f p)

pub name_true : (n : Name) (e : Entry) (m : Name) (c : Handle) → e ≡ entry m c → has_name n e ≡ true → n ≡ m
name_true n e m c is h = bytes_true n m (sym (ap (has_name n) is) ∙ h)

pub leads_true : (a : Handle) (e : Entry) (m : Name) (c : Handle) → e ≡ entry m c → leads_to a e ≡ true → a ≡ c
leads_true a e m c is h = handle_true a c (sym (ap (leads_to a) is) ∙ h)

-- a good leaf of a folder, by its place in the list
pub record AtLeaf (v : View) (f : Handle) (r : Slot) (k j : ℕ) (e : Cell) : Type 0 where
  pub below : k < count r
  pub kind : r.kind ≡ Folder
  pub cells : List Cell
  pub body : v (number r k) ≡ folder_body (back f k) cells
  pub here : e ≡ get_or cells j []

-- a good leaf that has a cell is a folder's
pub leaf_is : (v : View) (f : Handle) (r : Slot) (k j : ℕ) → good v f r k ≡ true → j < length (cells_at v r k) → AtLeaf v f r k j (get_or (cells_at v r k) j [])
leaf_is v f r k j h l =
    let w = and_parts (ltb k (count r)) (names r.kind (back f k) (v (number r k))) h in
    go (names_true r.kind (back f k) (v (number r k)) w.1) (ltb-true k (count r) w.0)
  where
    go : Body r.kind (back f k) (v (number r k)) → k < count r → AtLeaf v f r k j (get_or (cells_at v r k) j [])
    go (inl (x, d, e)) b = absurd (omega (arith, ap (λ (c : Content). length (cells_in c)) e))
    go (inr (es, d, e)) b = record { below = b; kind = d; cells = es; body = e; here = ap (λ (c : Content). get_or (cells_in c) j []) e }

pub good_from : (v : View) (f : Handle) (r : Slot) (k : ℕ) → k < count r → Body r.kind (back f k) (v (number r k)) → good v f r k ≡ true
good_from v f r k b n = and_from _ _ (lt-ltb k (count r) b) (names_from r.kind (back f k) (v (number r k)) n)

clash_entry : {A : Type 0} {n : Name} {c : Handle} → no_entry ≡ entry n c → A
clash_entry e = let z : ◌≡◌ {A = ℕ} 0 1 = cc in absurd (omega arith)

pub same_slot : (g : Geometry) (v : View) (h : Handle) (r s : Slot) → Fits g v h r → Fits g v h s → r ≡ s
same_slot g v h r s a b = let x = a.holds in let y = b.holds in cc

-- a sound entry, over the list of places
pub record Listed (g : Geometry) (v : View) (f : Handle) (r : Slot) (k p : ℕ) (n : Name) (c : Handle) : Type 0 where
  pub below : k < count r
  pub fine : good v f r k ≡ true
  pub inside : p < length (cells_at v r k)
  pub here : entry_of g (get_or (cells_at v r k) p []) ≡ entry n c
  pub agreed : agrees g v f (entry_of g (get_or (cells_at v r k) p [])) ≡ true

pub sound_listed : (g : Geometry) (v : View) (f : Handle) (r : Slot) (k p : ℕ) (n : Name) (c : Handle) → Fits g v f r → Sound g v f k p n c → Listed g v f r k p n c
unfolding entry_of
sound_listed g v f r k p n c fit s = subst (λ (z : Slot). Listed g v f z k p n c) (same_slot g v f s.slot r s.fits fit) own
  where
    e : entry_of g (get_or (cells_at v s.slot k) p []) ≡ entry n c
    e = ap (λ (z : Content). entry_of g (get_or (cells_in z) p [])) s.body ∙ s.here

    outside : length (cells_at v s.slot k) ≤ p → ⊥
    outside l = clash_entry (sym (ap (entry_of g) (get_or-eq_default (cells_at v s.slot k) [] l)) ∙ e)

    own : Listed g v f s.slot k p n c
    own = record {
      below = s.below;
      fine = good_from v f s.slot k s.below (inr (s.cells, s.kind, s.body));
      inside = elim (cases_lt p (length (cells_at v s.slot k))) [ inl l ↦ l | inr l ↦ absurd (outside l) ];
      here = e;
      agreed = agrees_from g v f (entry_of g (get_or (cells_at v s.slot k) p [])) n c s.child e s.child_fits s.parent;
    }

-- the first sound entry with a property
module _ (g : Geometry) (v : View) (f : Handle) (r : Slot) (fit : Fits g v f r) (x : Entry → Bool) where
  abbrev wanted : Place → Bool
  wanted q = x (entry_of g q.cell) && sound g v f q

  pub record FirstSound (q : Place) : Type 0 where
    pub name : Name
    pub leads : Handle
    pub is : entry_of g q.cell ≡ entry name leads
    pub sound : Sound g v f q.leaf q.place name leads
    pub right : x (entry_of g q.cell) ≡ true
    pub before : (j p : ℕ) (n : Name) (c : Handle) → Before j p q.leaf q.place → Sound g v f j p n c → x (entry n c) ≡ true → ⊥

  -- a place that is not wanted has no sound entry of that sort
  unwanted : (k p : ℕ) (n : Name) (c : Handle) (l : Listed g v f r k p n c) → x (entry n c) ≡ true → wanted (at k (0 + p) (get_or (cells_at v r k) p [])) ≡ false → ⊥
  unwanted k p n c l y e = clash (sym e ∙ and_from _ _ (ap x l.here ∙ y) l.agreed)

  pub none_sound : first wanted (places v f r) ≡ None → (k p : ℕ) (n : Name) (c : Handle) → Sound g v f k p n c → x (entry n c) ≡ true → ⊥
  none_sound e k p n c s y =
      let l = sound_listed g v f r k p n c fit s in
      unwanted k p n c l y (cell_none wanted k 0 (cells_at v r k) (leaf_none wanted v f r 0 (count r) e k (omega arith) (omega (arith, l.below)) l.fine) p l.inside)

  pub first_sound : (q : Place) → first wanted (places v f r) ≡ Some q → FirstSound q
  first_sound q e = go (leaf_first wanted v f r 0 (count r) q e)
    where
      go : FirstLeaf wanted v f r 0 (count r) q → FirstSound q
      go l = more (cell_first wanted l.k 0 (cells_at v r l.k) q l.here)
        where
          more : FirstCell wanted l.k 0 (cells_at v r l.k) q → FirstSound q
          more c = record {
            name = a.name;
            leads = a.leads;
            is = a.is;
            sound = record {
              slot = r;
              fits = fit;
              kind = d.kind;
              below = omega (arith, ap (λ (z : Place). z.leaf) c.is, d.below);
              cells = d.cells;
              body = subst (λ (z : ℕ). v (number r z) ≡ folder_body (back f z) d.cells) (sym leaf) d.body;
              here = subst (λ (z : ℕ). entry_of g (get_or d.cells z []) ≡ entry a.name a.leads) (sym spot) (ap (entry_of g) (sym (ap (λ (z : Place). z.cell) c.is ∙ d.here)) ∙ a.is);
              child = a.child;
              child_fits = a.holds;
              parent = a.parent;
            };
            right = b.0;
            before = earlier;
          }
            where
              leaf : q.leaf ≡ l.k
              leaf = ap (λ (z : Place). z.leaf) c.is

              spot : q.place ≡ c.j
              spot = ap (λ (z : Place). z.place) c.is ∙ omega arith

              b : (x (entry_of g q.cell) ≡ true) × (sound g v f q ≡ true)
              b = and_parts (x (entry_of g q.cell)) (sound g v f q) c.passes

              a : Agreed g v f (entry_of g q.cell)
              a = agrees_true g v f (entry_of g q.cell) b.1

              d : AtLeaf v f r l.k c.j (get_or (cells_at v r l.k) c.j [])
              d = leaf_is v f r l.k c.j l.fine c.inside

              earlier : (j p : ℕ) (n : Name) (t : Handle) → Before j p q.leaf q.place → Sound g v f j p n t → x (entry n t) ≡ true → ⊥
              earlier j p n t (inl w) s y =
                  let m = sound_listed g v f r j p n t fit s in
                  unwanted j p n t m y (cell_none wanted j 0 (cells_at v r j) (l.before j (omega arith) (omega (arith, leaf, w)) m.fine) p m.inside)
              earlier j p n t (inr w) s y =
                  let m : Listed g v f r l.k p n t = subst (λ (z : ℕ). Listed g v f r z p n t) (w.0 ∙ leaf) (sound_listed g v f r j p n t fit s) in
                  unwanted l.k p n t m y (c.before p (omega (arith, spot, w.1)))

pub found_is_found : FoundIsFound
found_is_found g v f r n fit = (λ q e. yes q (first_sound g v f r fit (has_name n) q e), λ e k p c s. none_sound g v f r fit (has_name n) e k p n c s (bytes_refl n))
  where
    yes : (q : Place) → FirstSound g v f r fit (has_name n) q → (c : Handle) × (entry_of g q.cell ≡ entry n c) × (s : Finds g v f n c) × (q.leaf ≡ s.leaf) × (q.place ≡ s.place)
    yes q w = (w.leads, w.is ∙ ap (λ (m : Name). entry m w.leads) (sym same), record { leaf = q.leaf; place = q.place; sound = subst (λ (m : Name). Sound g v f q.leaf q.place m w.leads) (sym same) w.sound; first = λ j p d o s. w.before j p n d o s (bytes_refl n) }, refl, refl)
      where
        same : n ≡ w.name
        same = name_true n (entry_of g q.cell) w.name w.leads w.is w.right

module _ (g : Geometry) (v : View) where
  -- what parent_of says
  pub record Parent (s t : ℕ) : Type 0 where
    pub slot : Slot
    pub stands : slot_at g v s ≡ Some slot
    pub parent : Slot
    pub fits : Fits g v slot.parent parent
    pub is : slot.parent.slot.0 ≡ t
    pub leaf : ℕ
    pub place : ℕ
    pub name : Name
    pub sound : Sound g v slot.parent leaf place name (handle s slot.identity)

  pub parent_parts : (s t : ℕ) → parent_of g v s ≡ Some t → Parent s t
  parent_parts s t e = outer (given_some (slot_at g v s) (λ r. given (slot_at g v r.parent.slot.0) (λ f. cond (eqb f.identity r.parent.identity.0 && lists g v r.parent f (handle s r.identity)) (Some r.parent.slot.0) None)) t e)
    where
      outer : (r : Slot) × (slot_at g v s ≡ Some r) × (given (slot_at g v r.parent.slot.0) (λ f. cond (eqb f.identity r.parent.identity.0 && lists g v r.parent f (handle s r.identity)) (Some r.parent.slot.0) None) ≡ Some t) → Parent s t
      outer (r, er, e) = inner (given_some (slot_at g v r.parent.slot.0) (λ f. cond (eqb f.identity r.parent.identity.0 && lists g v r.parent f (handle s r.identity)) (Some r.parent.slot.0) None) t e)
        where
          inner : (f : Slot) × (slot_at g v r.parent.slot.0 ≡ Some f) × (cond (eqb f.identity r.parent.identity.0 && lists g v r.parent f (handle s r.identity)) (Some r.parent.slot.0) None ≡ Some t) → Parent s t
          inner (f, ef, e) = found_it (some_is_true (first (λ q. leads_to (handle s r.identity) (entry_of g q.cell) && sound g v r.parent q) (places v r.parent f)) (λ q. true) b.1)
            where
              w : ((eqb f.identity r.parent.identity.0 && lists g v r.parent f (handle s r.identity)) ≡ true) × (r.parent.slot.0 ≡ t)
              w = cond_some (eqb f.identity r.parent.identity.0 && lists g v r.parent f (handle s r.identity)) r.parent.slot.0 t e

              b : (eqb f.identity r.parent.identity.0 ≡ true) × (lists g v r.parent f (handle s r.identity) ≡ true)
              b = and_parts (eqb f.identity r.parent.identity.0) (lists g v r.parent f (handle s r.identity)) w.0

              fit : Fits g v r.parent f
              fit = fits_from g v r.parent f ef (eqb-true f.identity r.parent.identity.0 b.0)

              found_it : (q : Place) × (first (λ q. leads_to (handle s r.identity) (entry_of g q.cell) && sound g v r.parent q) (places v r.parent f) ≡ Some q) × (true ≡ true) → Parent s t
              found_it (q, e, u) =
                  let z = first_sound g v r.parent f fit (leads_to (handle s r.identity)) q e in
                  record {
                    slot = r;
                    stands = er;
                    parent = f;
                    fits = fit;
                    is = w.1;
                    leaf = q.leaf;
                    place = q.place;
                    name = z.name;
                    sound = subst (λ (c : Handle). Sound g v r.parent q.leaf q.place z.name c) (sym (leads_true (handle s r.identity) (entry_of g q.cell) z.name z.leads z.is z.right)) z.sound;
                  }

  -- a sound entry that leads to h makes its folder list h
  listed_by : (f : Handle) (r : Slot) (k p : ℕ) (n : Name) (c : Handle) → Fits g v f r → Sound g v f k p n c → lists g v f r c ≡ true
  listed_by f r k p n c fit s = go (first (λ q. leads_to c (entry_of g q.cell) && sound g v f q) (places v f r)) refl
    where
      go : (o : Option Place) → first (λ q. leads_to c (entry_of g q.cell) && sound g v f q) (places v f r) ≡ o → some_is o (λ q. true) ≡ true
      go None e = absurd (none_sound g v f r fit (leads_to c) e k p n c s (handle_same c c refl))
      go (Some q) e = refl

  pub parent_from : (f c : Handle) (k p : ℕ) (n : Name) → Sound g v f k p n c → parent_of g v c.slot.0 ≡ Some f.slot.0
  parent_from f c k p n s =
      ap (λ (o : Option Slot). given o (λ r. given (slot_at g v r.parent.slot.0) (λ x. cond (eqb x.identity r.parent.identity.0 && lists g v r.parent x (handle c.slot.0 r.identity)) (Some r.parent.slot.0) None))) (fits_at g v c s.child s.child_fits)
      ∙ ap (λ (h : Handle). given (slot_at g v h.slot.0) (λ x. cond (eqb x.identity h.identity.0 && lists g v h x (handle c.slot.0 s.child.identity)) (Some h.slot.0) None)) s.parent
      ∙ ap (λ (o : Option Slot). given o (λ x. cond (eqb x.identity f.identity.0 && lists g v f x (handle c.slot.0 s.child.identity)) (Some f.slot.0) None)) (fits_at g v f s.slot s.fits)
      ∙ ap (λ (b : Bool). cond b (Some f.slot.0) None) (and_from (eqb s.slot.identity f.identity.0) (lists g v f s.slot (handle c.slot.0 s.child.identity)) (eq-eqb s.slot.identity f.identity.0 s.fits.same)
      (ap (λ (i : ℕ). lists g v f s.slot (handle c.slot.0 i)) s.child_fits.same ∙ listed_by f s.slot k p n c s.fits s))

  pub up_below : (s t : ℕ) → parent_of g v s ≡ Some t → t < g.slots
  up_below s t e = let w = parent_parts s t e in subst (λ (x : ℕ). x < g.slots) w.is w.fits.inside

  reached_climbs : (h : Handle) → Reached g v h → (m : ℕ) × (climbs (parent_of g v) m h.slot.0 ≡ true)
  reached_climbs h the_root = (0, refl)
  reached_climbs h (under {f} {c} {k} {p} {n} r s) =
      let w = reached_climbs f r in
      (suc w.0, climbs_up (parent_of g v) w.0 c.slot.0 f.slot.0 (parent_from f c k p n s) w.1)

  pub reached_from : (h : Handle) → Reached g v h → reached g v h.slot.0 ≡ true
  reached_from h the_root = climbs_root (parent_of g v) g.slots 0 refl
  reached_from h (under {f} {c} {k} {p} {n} r s) =
      let w = reached_climbs f r in
      climbs_within (parent_of g v) g.slots up_below (suc w.0) c.slot.0 s.child_fits.inside (climbs_up (parent_of g v) w.0 c.slot.0 f.slot.0 (parent_from f c k p n s) w.1)

  module _ (top : Slot) (rooted : Fits g v root top) where
    reached_id : (h : Handle) (r : Slot) → Reached g v h → slot_at g v h.slot.0 ≡ Some r → r.identity ≡ h.identity.0
    reached_id h r the_root e = let x = fits_at g v root top rooted in let y = rooted.same in let z : r ≡ top = cc in ap (λ (s : Slot). s.identity) z ∙ y
    reached_id h r (under {f} {c} w s) e = let x = fits_at g v c s.child s.child_fits in let z : r ≡ s.child = cc in ap (λ (t : Slot). t.identity) z ∙ s.child_fits.same

    climbs_reached : (m s : ℕ) → climbs (parent_of g v) m s ≡ true → (i : ℕ) × Reached g v (handle s i)
    climbs_reached zero s h = (1, subst (λ (x : ℕ). Reached g v (handle x 1)) (sym (eqb-true s 0 h)) the_root)
    climbs_reached (suc m) s h = go (climbs_parts (parent_of g v) m s h) (climbs_reached m)
      where
        go : (s ≡ 0) ⊎ ((t : ℕ) × (parent_of g v s ≡ Some t) × (climbs (parent_of g v) m t ≡ true)) → ((t : ℕ) → climbs (parent_of g v) m t ≡ true → (i : ℕ) × Reached g v (handle t i)) → (i : ℕ) × Reached g v (handle s i)
        go (inl e) rest = (1, subst (λ (x : ℕ). Reached g v (handle x 1)) (sym e) the_root)
        go (inr (t, e, c)) rest =
            let w = parent_parts s t e in
            let u = rest t c in
            let at_parent : Reached g v (handle w.slot.parent.slot.0 u.0) = subst (λ (x : ℕ). Reached g v (handle x u.0)) (sym w.is) u.1 in
            let same : u.0 ≡ w.slot.parent.identity.0 = sym (reached_id (handle w.slot.parent.slot.0 u.0) w.parent at_parent (fits_at g v w.slot.parent w.parent w.fits)) ∙ w.fits.same in
            (w.slot.identity, under (subst (λ (x : ℕ). Reached g v (handle w.slot.parent.slot.0 x)) same at_parent) w.sound)

pub reached_is_reached : ReachedIsReached
reached_is_reached g v rooted s = (climbs_reached g v rooted.0 rooted.1 g.slots s, λ w. reached_from g v (handle s w.0) w.1)

body_back : (d : Kind) (b : Back) (c : Content) → Body d b c → back_in c ≡ Some b
body_back d b c (inl (x, k, e)) = ap back_in e
body_back d b c (inr (x, k, e)) = ap back_in e

abbrev holds_it : Geometry → View → ℕ → Back → Slot → Bool
holds_it g v b c r = eqb r.identity c.owner.identity.0 && (eqb (number r c.leaf.0) b && (good v c.owner r c.leaf.0 && reached g v c.owner.slot.0))

held_from : (g : Geometry) (v : View) (b : ℕ) → Held g v b → held g v b ≡ true
held_from g v b h =
    let r = h.good.slot in
    let k = back h.owner h.leaf in
    ap (λ (o : Option Back). some_is o (λ c. some_is (slot_at g v c.owner.slot.0) (holds_it g v b c))) (ap (λ (x : ℕ). back_in (v x)) (sym h.here) ∙ body_back r.kind k (v (number r h.leaf)) h.good.body)
    ∙ ap (λ (o : Option Slot). some_is o (holds_it g v b k)) (fits_at g v h.owner r h.good.fits)
    ∙ and_from _ _ (eq-eqb r.identity h.owner.identity.0 h.good.fits.same) (and_from _ _ (eq-eqb (number r h.leaf) b h.here) (and_from _ _ (good_from v h.owner r h.leaf h.good.below h.good.body) (reached_from g v h.owner h.reached)))

held_parts : (g : Geometry) (v : View) (top : Slot) → Fits g v root top → (b : ℕ) → held g v b ≡ true → Held g v b
held_parts g v top rooted b e = outer (some_is_true (back_in (v b)) (λ c. some_is (slot_at g v c.owner.slot.0) (holds_it g v b c)) e)
  where
    outer : (c : Back) × (back_in (v b) ≡ Some c) × (some_is (slot_at g v c.owner.slot.0) (holds_it g v b c) ≡ true) → Held g v b
    outer (c, u, e) = inner (some_is_true (slot_at g v c.owner.slot.0) (holds_it g v b c) e)
      where
        inner : (r : Slot) × (slot_at g v c.owner.slot.0 ≡ Some r) × (holds_it g v b c r ≡ true) → Held g v b
        inner (r, er, e) =
            let a = and_parts (eqb r.identity c.owner.identity.0) (eqb (number r c.leaf.0) b && (good v c.owner r c.leaf.0 && reached g v c.owner.slot.0)) e in
            let d = and_parts (eqb (number r c.leaf.0) b) (good v c.owner r c.leaf.0 && reached g v c.owner.slot.0) a.1 in
            let f = and_parts (good v c.owner r c.leaf.0) (reached g v c.owner.slot.0) d.1 in
            let n = and_parts (ltb c.leaf.0 (count r)) (names r.kind (back c.owner c.leaf.0) (v (number r c.leaf.0))) f.0 in
            let w = (reached_is_reached g v (top, rooted) c.owner.slot.0).0 f.1 in
            let same : r.identity ≡ c.owner.identity.0 = eqb-true r.identity c.owner.identity.0 a.0 in
            let i : w.0 ≡ c.owner.identity.0 = sym (reached_id g v top rooted (handle c.owner.slot.0 w.0) r w.1 er) ∙ same in
            record {
              owner = c.owner;
              leaf = c.leaf.0;
              reached = subst (λ (x : ℕ). Reached g v (handle c.owner.slot.0 x)) i w.1;
              good = record { slot = r; fits = fits_from g v c.owner r er same; below = ltb-true c.leaf.0 (count r) n.0; body = names_true r.kind (back c.owner c.leaf.0) (v (number r c.leaf.0)) n.1 };
              here = eqb-true (number r c.leaf.0) b d.0;
            }

pub held_is_held : HeldIsHeld
held_is_held g v rooted b = (held_parts g v rooted.0 rooted.1 b, held_from g v b)

pub good_parts : (g : Geometry) (v : View) (h : Handle) (r : Slot) (k : ℕ) → Fits g v h r → good v h r k ≡ true → Good g v h k
good_parts g v h r k fit e =
    let w = and_parts (ltb k (count r)) (names r.kind (back h k) (v (number r k))) e in
    record { slot = r; fits = fit; below = ltb-true k (count r) w.0; body = names_true r.kind (back h k) (v (number r k)) w.1 }

pub good_is_good : GoodIsGood
good_is_good g v h r k fit = (good_parts g v h r k fit, λ w. subst (λ (z : Slot). good v h z k ≡ true) (same_slot g v h w.slot r w.fits fit) (good_from v h w.slot k w.below w.body))

-- a handle that fits a reached slot is reached
pub reached_fits : (g : Geometry) (v : View) (h : Handle) (r : Slot) → Rooted g v → Fits g v h r → reached g v h.slot.0 ≡ true → Reached g v h
reached_fits g v h r rooted fit e =
    let w = (reached_is_reached g v rooted h.slot.0).0 e in
    let same : w.0 ≡ h.identity.0 = sym (reached_id g v rooted.0 rooted.1 (handle h.slot.0 w.0) r w.1 (fits_at g v h r fit)) ∙ fit.same in
    subst (λ (i : ℕ). Reached g v (handle h.slot.0 i)) same w.1

-- ---- free

pub unreached : (g : Geometry) (v : View) (s : ℕ) → s < g.slots → reached g v s ≡ false → FreeSlot g v s
unreached g v s l e = record { inside = l; unreached = λ h is w. clash (sym e ∙ ap (reached g v) (sym is) ∙ reached_from g v h w) }

pub unheld : (g : Geometry) (v : View) (b : ℕ) → g.slots < b → b < g.blocks → held g v b ≡ false → FreeBody g v b
unheld g v b a l e = record { above = a; inside = l; unheld = λ w. clash (sym e ∙ held_from g v b w) }
