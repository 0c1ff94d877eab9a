-- A file on its path, said of every content that may stand: what holds at a settled sync, and what it gives of the shown blocks.
use Rattle.std.proofs.Common.{◌≡◌, ℕ, suc, ◌<◌, ◌≤◌, Bool, true, false, cond, List, [], ◌∷◌, get_or, Some, None, Option, sym, refl, ap, ◌∙◌, subst, inl, inr, arith}
use Rattle.base.specs.declared.owner.Kind.TheVariants.{File, Folder}
use Rattle.base.specs.declared.owner.Handle.{Handle}
use Rattle.base.specs.declared.owner.Back.{Back}
use Rattle.device.specs.Model.{Model, OnlyShown}
use Rattle.layout.specs.Format.{Name, Cell, Geometry, back, Slot, Content, blank, cover, slotted, file_body, folder_body, ill_formed, entry, entry_of}
use Rattle.rule.specs.Agree.{View, count, number, same_back}
use Rattle.rule.specs.Meaning.{Fits, Sound, Reached, under, Before, Finds, Held}
use Rattle.rule.specs.Readings.{Leads}
use Rattle.rule.proofs.Steps.{back_true}
use Rattle.rule.proofs.Formed.{slot_formed, body_at}
use Rattle.history.proofs.Parsed.{slotted_same}
use Rattle.history.proofs.Stands.{May, view, may_shown, only_may}

-- the bytes that a content holds for a leaf, if it names it
abbrev pub leaf_in : Back → Content → Option (List ℕ)
leaf_in b (file_body c x) = cond (same_back b c) (Some x) None
leaf_in b (folder_body c es) = None
leaf_in b (slotted r) = None
leaf_in b blank = None
leaf_in b (cover g) = None
leaf_in b ill_formed = None

clash_some : {A B : Type 0} {a : A} → None ≡ Some a → B
clash_some e = let z : ◌≡◌ {A = ℕ} 0 1 = cc in absurd (omega arith)

pub leaf_some : (b : Back) (y : Content) (x : List ℕ) → leaf_in b y ≡ Some x → y ≡ file_body b x
leaf_some b (file_body c z) x e = go (same_back b c) refl e
  where
    go : (t : Bool) → same_back b c ≡ t → cond t (Some z) None ≡ Some x → file_body c z ≡ file_body b x
    go true h e = let q : z ≡ x = cc in ap (λ (k : Back). file_body k z) (sym (back_true b c h)) ∙ ap (file_body b) q
    go false h e = clash_some e
leaf_some b (folder_body c es) x e = clash_some e
leaf_some b (slotted r) x e = clash_some e
leaf_some b blank x e = clash_some e
leaf_some b (cover g) x e = clash_some e
leaf_some b ill_formed x e = clash_some e

-- the slot of a folder on the path
pub record FolderSlot (f : Handle) (leaf : ℕ) (body : ℕ → ℕ) (r : Slot) : Type 0 where
  pub kind : r.kind ≡ Folder
  pub same : r.identity ≡ f.identity.0
  pub below : leaf < count r
  pub numbers : (j : ℕ) → j ≤ leaf → number r j ≡ body j

pub record ChildSlot (f c : Handle) (r : Slot) : Type 0 where
  pub same : r.identity ≡ c.identity.0
  pub parent : r.parent ≡ f

-- the step of a path from f by the name n to c
pub record Link (g : Geometry) (m : Model) (f : Handle) (n : Name) (c : Handle) : Type 0 where
  pub leaf : ℕ
  pub place : ℕ
  pub body : ℕ → ℕ
  pub inside : f.slot.0 < g.slots
  pub region : (j : ℕ) → j ≤ leaf → g.slots < body j
  pub slots : (y : Content) → May g m (suc f.slot.0) y → (r : Slot) × (y ≡ slotted r) × FolderSlot f leaf body r
  pub bodies : (y : Content) → May g m (body leaf) y → (es : List Cell) × (y ≡ folder_body (back f leaf) es) × (entry_of g (get_or es place []) ≡ entry n c)
  pub earlier : (j q : ℕ) (es : List Cell) (d : Handle) → Before j q leaf place → May g m (body j) (folder_body (back f j) es) → entry_of g (get_or es q []) ≡ entry n d →
      d.slot.0 < g.slots → (r : Slot) → May g m (suc d.slot.0) (slotted r) → r.identity ≡ d.identity.0 → r.parent ≡ f → ⊥
  pub child_inside : c.slot.0 < g.slots
  pub childs : (y : Content) → May g m (suc c.slot.0) y → (r : Slot) × (y ≡ slotted r) × ChildSlot f c r

pub record FileKept (g : Geometry) (m : Model) (h : Handle) (r : Slot) : Type 0 where
  pub inside : h.slot.0 < g.slots
  pub slots : (y : Content) → May g m (suc h.slot.0) y → y ≡ slotted r
  pub same : r.identity ≡ h.identity.0
  pub kind : r.kind ≡ File
  pub region : (k : ℕ) → k < count r → g.slots < number r k

-- every content that may stand at the block of leaf k holds for it what `a` says
abbrev pub LeafKept : Geometry → Model → Handle → Slot → ℕ → Option (List ℕ) → Type 0
LeafKept g m h r k a = (y : Content) → May g m (number r k) y → leaf_in (back h k) y ≡ a

abbrev pub Trail : Geometry → Model → Handle → List Name → Handle → Slot → Type 0
Trail g m f [] h r = (f ≡ h) × FileKept g m h r
Trail g m f (n ∷ ns) h r = (c : Handle) × Link g m f n c × Trail g m c ns h r

module _ (g : Geometry) (m : Model) where
  abbrev v : View
  v = view g m

  -- what is known of the slot of a folder on the path, at a slot that is given
  pub folder_slot : (f : Handle) (n : Name) (c : Handle) (l : Link g m f n c) (r : Slot) → May g m (suc f.slot.0) (slotted r) → FolderSlot f l.leaf l.body r
  folder_slot f n c l r i =
      let s = l.slots (slotted r) i in
      subst (λ (q : Slot). FolderSlot f l.leaf l.body q) (sym (slotted_same s.1)) s.2

  pub link_sound : (f : Handle) (n : Name) (c : Handle) (l : Link g m f n c) → Sound g v f l.leaf l.place n c
  link_sound f n c l =
      let s = l.slots (v (suc f.slot.0)) (may_shown g m (suc f.slot.0) _ refl) in
      let b = l.bodies (v (l.body l.leaf)) (may_shown g m (l.body l.leaf) _ refl) in
      let k = l.childs (v (suc c.slot.0)) (may_shown g m (suc c.slot.0) _ refl) in
      let ok = s.2 in
      record {
        slot = s.0;
        fits = record { inside = l.inside; holds = s.1; same = ok.same };
        kind = ok.kind;
        below = ok.below;
        cells = b.0;
        body = ap v (ok.numbers l.leaf (omega arith)) ∙ b.1;
        here = b.2;
        child = k.0;
        child_fits = record { inside = l.child_inside; holds = k.1; same = k.2.same };
        parent = k.2.parent;
      }

  pub link_finds : (f : Handle) (n : Name) (c : Handle) (l : Link g m f n c) → Finds g v f n c
  link_finds f n c l = record {
    leaf = l.leaf;
    place = l.place;
    sound = link_sound f n c l;
    first = λ j q d before o.
        let r = o.slot in
        let ok = folder_slot f n c l r (may_shown g m (suc f.slot.0) (slotted r) o.fits.holds) in
        let low : j ≤ l.leaf = elim before [ inl a ↦ (omega arith) | inr a ↦ (omega arith) ] in
        let body : v (l.body j) ≡ folder_body (back f j) o.cells = ap v (sym (ok.numbers j low)) ∙ o.body in
        l.earlier j q o.cells d before (may_shown g m (l.body j) (folder_body (back f j) o.cells) body) o.here o.child_fits.inside
        o.child (may_shown g m (suc d.slot.0) (slotted o.child) o.child_fits.holds) o.child_fits.same o.parent;
  }

  pub link_held : (f : Handle) (n : Name) (c : Handle) (l : Link g m f n c) → Reached g v f → Held g v (l.body l.leaf)
  link_held f n c l rc =
      let o = link_sound f n c l in
      record {
        owner = f;
        leaf = l.leaf;
        reached = rc;
        good = record { slot = o.slot; fits = o.fits; below = o.below; body = inr (o.cells, o.kind, o.body) };
        here = (folder_slot f n c l o.slot (may_shown g m (suc f.slot.0) (slotted o.slot) o.fits.holds)).numbers l.leaf (omega arith);
      }

  pub file_fits : (h : Handle) (r : Slot) → FileKept g m h r → Fits g v h r
  file_fits h r k = record { inside = k.inside; holds = k.slots (v (suc h.slot.0)) (may_shown g m (suc h.slot.0) _ refl); same = k.same }

  pub trail_way : (f : Handle) (ns : List Name) (h : Handle) (r : Slot) → Trail g m f ns h r → Leads g v f ns h
  trail_way f [] h r t = t.0
  trail_way f (n ∷ ns) h r t = (t.0, link_finds f n t.0 t.1, trail_way t.0 ns h r t.2)

  pub trail_file : (f : Handle) (ns : List Name) (h : Handle) (r : Slot) → Trail g m f ns h r → FileKept g m h r
  trail_file f [] h r t = t.1
  trail_file f (n ∷ ns) h r t = trail_file t.0 ns h r t.2

  pub trail_reached : (f : Handle) (ns : List Name) (h : Handle) (r : Slot) → Reached g v f → Trail g m f ns h r → Reached g v h
  trail_reached f [] h r rc t = subst (λ (x : Handle). Reached g v x) t.0 rc
  trail_reached f (n ∷ ns) h r rc t = trail_reached t.0 ns h r (under rc (link_sound f n t.0 t.1)) t.2

  -- the numbers of a slot that is shown
  above : (h : Handle) (r : Slot) → Fits g v h r → (k : ℕ) → k < count r → g.slots < number r k
  above h r f k l = (body_at g r.numbers k (slot_formed g (suc h.slot.0) (m.shown (suc h.slot.0)) r f.holds).numbers l).0

  -- at a settled sync the shown blocks alone stand
  module _ (only : OnlyShown m) where
    settled_link : (f : Handle) (n : Name) (c : Handle) → Finds g v f n c → Link g m f n c
    settled_link f n c d = record {
      leaf = d.leaf;
      place = d.place;
      body = number r;
      inside = o.fits.inside;
      region = λ j l. above f r o.fits j (let z = o.below in omega arith);
      slots = λ y i. (r, only_may g m only (suc f.slot.0) y i ∙ o.fits.holds, record { kind = o.kind; same = o.fits.same; below = o.below; numbers = λ j l. refl });
      bodies = λ y i. (o.cells, only_may g m only (number r d.leaf) y i ∙ o.body, o.here);
      earlier = λ j q es k before ib here inside t it same parent.
          d.first j q k before (record {
            slot = r;
            fits = o.fits;
            kind = o.kind;
            below = low j q before;
            cells = es;
            body = sym (only_may g m only (number r j) (folder_body (back f j) es) ib);
            here = here;
            child = t;
            child_fits = record { inside = inside; holds = sym (only_may g m only (suc k.slot.0) (slotted t) it); same = same };
            parent = parent;
          });
      child_inside = o.child_fits.inside;
      childs = λ y i. (o.child, only_may g m only (suc c.slot.0) y i ∙ o.child_fits.holds, record { same = o.child_fits.same; parent = o.parent });
    }
      where
        o : Sound g v f d.leaf d.place n c
        o = d.sound

        r : Slot
        r = o.slot

        low : (j q : ℕ) → Before j q d.leaf d.place → j < count r
        low j q before = let z = o.below in elim before [ inl a ↦ (omega arith) | inr a ↦ (omega arith) ]

    pub settled_trail : (f : Handle) (ns : List Name) (h : Handle) (r : Slot) → Leads g v f ns h → Fits g v h r → r.kind ≡ File → Trail g m f ns h r
    settled_trail f [] h r p fits kind = (p, record { inside = fits.inside; slots = λ y i. only_may g m only (suc h.slot.0) y i ∙ fits.holds; same = fits.same; kind = kind; region = above h r fits })
    settled_trail f (n ∷ ns) h r p fits kind = (p.0, settled_link f n p.0 p.1, settled_trail p.0 ns h r p.2 fits kind)

    pub settled_leaf : (h : Handle) (r : Slot) (k : ℕ) → LeafKept g m h r k (leaf_in (back h k) (v (number r k)))
    settled_leaf h r k y i = ap (leaf_in (back h k)) (only_may g m only (number r k) y i)
