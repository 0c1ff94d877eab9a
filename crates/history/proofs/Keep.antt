-- A call that does not touch the file keeps it on its path.
use Rattle.std.proofs.Common.{◌≡◌, ℕ, suc, ◌<◌, ◌≤◌, ◌⊎◌, List, [], ◌∷◌, get_or, set, Some, None, Option, sym, refl, ap, ◌∙◌, subst, inl, inr, arith}
use Rattle.std.proofs.lemmas.Bool.{cases_eq}
use Rattle.base.specs.declared.owner.Kind.{Kind}
use Rattle.base.specs.declared.owner.Kind.TheVariants.{File, Folder}
use Rattle.base.specs.declared.owner.Handle.{Handle}
use Rattle.base.specs.declared.owner.Back.{Back}
use Rattle.device.specs.Model.{Model}
use Rattle.layout.specs.Format.{Name, Cell, Geometry, handle, back, Slot, Content, slotted, file_body, folder_body, entry, entry_of}
use Rattle.layout.specs.Identities.{told}
use Rattle.rule.specs.Agree.{View, count, number, same_kind}
use Rattle.rule.specs.Meaning.{Sound, Reached, under, Before, Finds}
use Rattle.rule.proofs.Steps.{clash}
use Rattle.history.specs.History.{Deed}
use Rattle.history.specs.Laws.{Touches}
use Rattle.history.proofs.Parsed.{apart, slotted_same, folder_back, folder_cells, file_back, entry_child, entry_name, no_such_entry}
use Rattle.history.proofs.Stands.{May, view, may_shown, told_entry, set_cases}
use Rattle.history.proofs.Sorts.{Hollow, FreshSlot, SlotAgain, SlotBlanked, Allowed, fresh_slot, slot_again, slot_blanked, fresh_body, file_again, folder_again}
use Rattle.history.proofs.Trail.{leaf_in, leaf_some, FolderSlot, ChildSlot, Link, FileKept, LeafKept, Trail, folder_slot, link_sound, link_finds, link_held, file_fits}

kinds_apart : {X : Type 0} {k : Kind} → k ≡ Folder → k ≡ File → X
kinds_apart p q = clash (ap (same_kind Folder) (sym q ∙ p))

handle_same : (a b : Handle) → a.slot.0 ≡ b.slot.0 → a.identity.0 ≡ b.identity.0 → a ≡ b
handle_same a b p q = λ i. handle (p i) (q i)

module _ (g : Geometry) (m : Model) (high : ℕ) (counted : (b : ℕ) (y : Content) → May g m b y → told g y ≤ high)
    (e : Deed) (n : Model) (join : (b : ℕ) (y : Content) → May g n b y → May g m b y ⊎ Allowed g (view g m) high e b y) where
  abbrev v : View
  v = view g m

  stood : (b : ℕ) (y : Content) → v b ≡ y → May g m b y
  stood b y q = may_shown g m b y q

  again_stood : (h : Handle) (y : Content) (p : SlotAgain g v e (suc h.slot.0) y) → May g m (suc h.slot.0) (slotted p.old)
  again_stood h y p =
      let same : p.handle.slot.0 ≡ h.slot.0 = (let q = p.block in omega arith) in
      stood (suc h.slot.0) (slotted p.old) (subst (λ (i : ℕ). v (suc i) ≡ slotted p.old) same p.fits.holds)

  blanked_stood : (h : Handle) (y : Content) (p : SlotBlanked g v e (suc h.slot.0) y) → May g m (suc h.slot.0) (slotted p.old)
  blanked_stood h y p =
      let same : p.handle.slot.0 ≡ h.slot.0 = (let q = p.block in omega arith) in
      stood (suc h.slot.0) (slotted p.old) (subst (λ (i : ℕ). v (suc i) ≡ slotted p.old) same p.fits.holds)

  blanked_handle : (h : Handle) (y : Content) (p : SlotBlanked g v e (suc h.slot.0) y) → p.old.identity ≡ h.identity.0 → p.handle ≡ h
  blanked_handle h y p q = handle_same p.handle h (let z = p.block in omega arith) (sym p.fits.same ∙ q)

  -- slots and bodies lie apart
  again_low : (b : ℕ) (y : Content) → SlotAgain g v e b y → b ≤ g.slots
  again_low b y p = let q = p.block in let i = p.fits.inside in omega arith

  blanked_low : (b : ℕ) (y : Content) → SlotBlanked g v e b y → b ≤ g.slots
  blanked_low b y p = let q = p.block in let i = p.fits.inside in omega arith

  fresh_low : (b : ℕ) (y : Content) → FreshSlot g v high b y → b ≤ g.slots
  fresh_low b y p = let q = p.block in let i = p.free.inside in omega arith

  module _ (f : Handle) (a : Name) (c : Handle) (l : Link g m f a c) (rc : Reached g v f) (stay : Hollow g v c → Touches e c → ⊥) where
    slot_kept : (y : Content) → Allowed g v high e (suc f.slot.0) y → (r : Slot) × (y ≡ slotted r) × FolderSlot f l.leaf l.body r
    slot_kept y (fresh_slot p) = absurd (p.free.unreached f (let z = p.block in omega arith) rc)
    slot_kept y (slot_again p) =
        let ok = folder_slot g m f a c l p.old (again_stood f y p) in
        elim p.sort [
          | inl q ↦ (
            p.slot,
            p.content,
            record {
              kind = q.1;
              same = p.own ∙ ok.same;
              below = (let z = q.2 in let w = ok.below in omega arith);
              numbers = λ j low. q.3 j (let w = ok.below in omega arith) ∙ ok.numbers j low;
            },
          )
          | inr q ↦ kinds_apart ok.kind q.0
        ]
    slot_kept y (slot_blanked p) =
        let ok = folder_slot g m f a c l p.old (blanked_stood f y p) in
        absurd (subst (λ (h : Handle). Hollow g v h) (blanked_handle f y p ok.same) p.hollow l.leaf l.place (a, c, link_sound g m f a c l))
    slot_kept y (fresh_body p) = absurd (let z = p.free.above in let w = l.inside in omega arith)
    slot_kept y (file_again p) = absurd (let z = p.above in let w = l.inside in omega arith)
    slot_kept y (folder_again p) = absurd (let z = p.above in let w = l.inside in omega arith)

    child_reached : Reached g v c
    child_reached = under rc (link_sound g m f a c l)

    child_kept : (y : Content) → Allowed g v high e (suc c.slot.0) y → (r : Slot) × (y ≡ slotted r) × ChildSlot f c r
    child_kept y (fresh_slot p) = absurd (p.free.unreached c (let z = p.block in omega arith) child_reached)
    child_kept y (slot_again p) =
        let s = l.childs (slotted p.old) (again_stood c y p) in
        let old : p.old ≡ s.0 = slotted_same s.1 in
        (p.slot, p.content, record { same = p.own ∙ ap (λ (k : Slot). k.identity) old ∙ s.2.same; parent = p.parent ∙ ap (λ (k : Slot). k.parent) old ∙ s.2.parent })
    child_kept y (slot_blanked p) =
        let s = l.childs (slotted p.old) (blanked_stood c y p) in
        let same = blanked_handle c y p (ap (λ (k : Slot). k.identity) (slotted_same s.1) ∙ s.2.same) in
        absurd (stay (subst (λ (h : Handle). Hollow g v h) same p.hollow) (subst (λ (h : Handle). Touches e h) same p.touched))
    child_kept y (fresh_body p) = absurd (let z = p.free.above in let w = l.child_inside in omega arith)
    child_kept y (file_again p) = absurd (let z = p.above in let w = l.child_inside in omega arith)
    child_kept y (folder_again p) = absurd (let z = p.above in let w = l.child_inside in omega arith)

    found : Finds g v f a c
    found = link_finds g m f a c l

    body_kept : (y : Content) → Allowed g v high e (l.body l.leaf) y → (es : List Cell) × (y ≡ folder_body (back f l.leaf) es) × (entry_of g (get_or es l.place []) ≡ entry a c)
    body_kept y (fresh_slot p) = absurd (let z = l.region l.leaf (omega arith) in let w = fresh_low _ y p in omega arith)
    body_kept y (slot_again p) = absurd (let z = l.region l.leaf (omega arith) in let w = again_low _ y p in omega arith)
    body_kept y (slot_blanked p) = absurd (let z = l.region l.leaf (omega arith) in let w = blanked_low _ y p in omega arith)
    body_kept y (fresh_body p) = absurd (p.free.unheld (link_held g m f a c l rc))
    body_kept y (file_again p) =
        let b = l.bodies (v (l.body l.leaf)) (stood (l.body l.leaf) _ refl) in
        apart b.1 p.stood (λ q. omega arith)
    body_kept y (folder_again p) = elim (cases_eq p.place l.place) [ inr ne ↦ other ne | inl same ↦ absurd (here same) ]
      where
        b : (es : List Cell) × (v (l.body l.leaf) ≡ folder_body (back f l.leaf) es) × (entry_of g (get_or es l.place []) ≡ entry a c)
        b = l.bodies (v (l.body l.leaf)) (stood (l.body l.leaf) _ refl)

        owner : back p.handle p.leaf ≡ back f l.leaf
        owner = folder_back (sym p.stood ∙ b.1)

        handles : p.handle ≡ f
        handles = ap (λ (k : Back). k.owner) owner

        leaves : p.leaf ≡ l.leaf
        leaves = ap (λ (k : Back). k.leaf.0) owner

        known : entry_of g (get_or p.cells l.place []) ≡ entry a c
        known = ap (λ (es : List Cell). entry_of g (get_or es l.place [])) (folder_cells (sym p.stood ∙ b.1)) ∙ b.2

        other : (p.place ≡ l.place → ⊥) → (es : List Cell) × (y ≡ folder_body (back f l.leaf) es) × (entry_of g (get_or es l.place []) ≡ entry a c)
        other ne = (
          set p.cells p.place p.new,
          p.content ∙ ap (λ (k : Back). folder_body k (set p.cells p.place p.new)) owner,
          elim (set_cases p.cells p.place l.place p.new) [ inl w ↦ absurd (ne w.0) | inr w ↦ ap (entry_of g) w ∙ known ],
        )

        sound_there : p.place ≡ l.place → Sound g v p.handle p.leaf p.place a c
        sound_there same =
            subst (λ (k : ℕ). Sound g v p.handle p.leaf k a c) (sym same)
            (subst (λ (k : ℕ). Sound g v p.handle k l.place a c) (sym leaves)
            (subst (λ (h : Handle). Sound g v h l.leaf l.place a c) (sym handles) (link_sound g m f a c l)))

        here : p.place ≡ l.place → ⊥
        here same = elim p.sort [
          | inl q ↦ q.4 (a, c, sound_there same)
          | inr q ↦
              (let child : q.1 ≡ c = entry_child (sym q.3 ∙ ap (λ (k : ℕ). entry_of g (get_or p.cells k [])) same ∙ known) in
              stay (subst (λ (h : Handle). Hollow g v h) child q.4) (subst (λ (h : Handle). Touches e h) child q.5))
        ]

    -- an earlier entry of the name: it stood before
    earlier_stood : (j q : ℕ) (es : List Cell) (d : Handle) → j ≤ l.leaf → Allowed g v high e (l.body j) (folder_body (back f j) es) → entry_of g (get_or es q []) ≡ entry a d →
        (fs : List Cell) × May g m (l.body j) (folder_body (back f j) fs) × (entry_of g (get_or fs q []) ≡ entry a d)
    earlier_stood j q es d low (fresh_slot p) here = apart refl p.content (λ z. omega arith)
    earlier_stood j q es d low (slot_again p) here = apart refl p.content (λ z. omega arith)
    earlier_stood j q es d low (slot_blanked p) here = apart refl p.content (λ z. omega arith)
    earlier_stood j q es d low (file_again p) here = apart refl p.content (λ z. omega arith)
    earlier_stood j q es d low (fresh_body p) here = elim p.sort [
      | inl w ↦ apart refl w.3 (λ z. omega arith)
      | inr w ↦ absurd
          (let owner : back f j ≡ back w.0 (count w.1) = folder_back w.4 in
          let same : w.0 ≡ f = sym (ap (λ (k : Back). k.owner) owner) in
          let leaf : j ≡ count w.1 = ap (λ (k : Back). k.leaf.0) owner in
          let holds : v (suc f.slot.0) ≡ slotted w.1 = subst (λ (h : Handle). v (suc h.slot.0) ≡ slotted w.1) same w.3.holds in
          let ok = folder_slot g m f a c l w.1 (stood (suc f.slot.0) (slotted w.1) holds) in
          let z = ok.below in omega arith)
    ]
    earlier_stood j q es d low (folder_again p) here = elim (set_cases p.cells p.place q p.new) [
      | inr w ↦ (p.cells, old, ap (entry_of g) (sym w) ∙ there)
      | inl w ↦ absurd (overwritten (ap (entry_of g) (sym w.1) ∙ there))
    ]
      where
        owner : back f j ≡ back p.handle p.leaf
        owner = folder_back p.content

        there : entry_of g (get_or (set p.cells p.place p.new) q []) ≡ entry a d
        there = ap (λ (fs : List Cell). entry_of g (get_or fs q [])) (sym (folder_cells p.content)) ∙ here

        old : May g m (l.body j) (folder_body (back f j) p.cells)
        old = stood (l.body j) (folder_body (back f j) p.cells) (p.stood ∙ ap (λ (k : Back). folder_body k p.cells) (sym owner))

        overwritten : entry_of g p.new ≡ entry a d → ⊥
        overwritten w = elim p.sort [
          | inl u ↦
              (let own : Sound g v p.handle l.leaf l.place a c = subst (λ (h : Handle). Sound g v h l.leaf l.place a c) (ap (λ (k : Back). k.owner) owner) (link_sound g m f a c l) in
              u.3 l.leaf l.place c (subst (λ (k : Name). Sound g v p.handle l.leaf l.place k c) (sym (entry_name (sym u.2 ∙ w))) own))
          | inr u ↦ no_such_entry u.2 w
        ]

    -- and its child's slot stood before, or is of another identity
    earlier_kept : (j q : ℕ) (es : List Cell) (d : Handle) → Before j q l.leaf l.place → May g m (l.body j) (folder_body (back f j) es) → entry_of g (get_or es q []) ≡ entry a d →
        d.slot.0 < g.slots → (r : Slot) → Allowed g v high e (suc d.slot.0) (slotted r) → r.identity ≡ d.identity.0 → r.parent ≡ f → ⊥
    earlier_kept j q es d before i here inside r (fresh_slot p) same parent =
        let all = counted (l.body j) (folder_body (back f j) es) i in
        let low = told_entry g (back f j) es q a d here in
        let own : r.identity ≡ suc high = ap (λ (k : Slot). k.identity) (slotted_same p.content) ∙ p.own in
        omega arith
    earlier_kept j q es d before i here inside r (slot_again p) same parent =
        let slots : p.slot ≡ r = sym (slotted_same p.content) in
        l.earlier j q es d before i here inside p.old (again_stood d (slotted r) p)
        (sym p.own ∙ ap (λ (k : Slot). k.identity) slots ∙ same) (sym p.parent ∙ ap (λ (k : Slot). k.parent) slots ∙ parent)
    earlier_kept j q es d before i here inside r (slot_blanked p) same parent = apart refl p.content (λ z. omega arith)
    earlier_kept j q es d before i here inside r (fresh_body p) same parent = elim p.sort [
      | inl w ↦ apart refl w.3 (λ z. omega arith)
      | inr w ↦ apart refl w.4 (λ z. omega arith)
    ]
    earlier_kept j q es d before i here inside r (file_again p) same parent = apart refl p.content (λ z. omega arith)
    earlier_kept j q es d before i here inside r (folder_again p) same parent = apart refl p.content (λ z. omega arith)

    link_kept : Link g n f a c
    link_kept = record {
      leaf = l.leaf;
      place = l.place;
      body = l.body;
      inside = l.inside;
      region = l.region;
      slots = λ y i. elim (join (suc f.slot.0) y i) [ inl old ↦ l.slots y old | inr new ↦ slot_kept y new ];
      bodies = λ y i. elim (join (l.body l.leaf) y i) [ inl old ↦ l.bodies y old | inr new ↦ body_kept y new ];
      earlier = λ j q es d before i here inside r ir same parent.
          let low : j ≤ l.leaf = elim before [ inl w ↦ (omega arith) | inr w ↦ (omega arith) ] in
          let o : (fs : List Cell) × May g m (l.body j) (folder_body (back f j) fs) × (entry_of g (get_or fs q []) ≡ entry a d) =
          elim (join (l.body j) (folder_body (back f j) es) i) [ inl old ↦ (es, old, here) | inr new ↦ earlier_stood j q es d low new here ] in
          elim (join (suc d.slot.0) (slotted r) ir) [
            | inl old ↦ l.earlier j q o.0 d before o.1 o.2 inside r old same parent
            | inr new ↦ earlier_kept j q o.0 d before o.1 o.2 inside r new same parent
          ];
      child_inside = l.child_inside;
      childs = λ y i. elim (join (suc c.slot.0) y i) [ inl old ↦ l.childs y old | inr new ↦ child_kept y new ];
    }

  module _ (h : Handle) (r : Slot) (fk : FileKept g m h r) (rc : Reached g v h) (quiet : Touches e h → ⊥) where
    file_slot_kept : (y : Content) → Allowed g v high e (suc h.slot.0) y → y ≡ slotted r
    file_slot_kept y (fresh_slot p) = absurd (p.free.unreached h (let z = p.block in omega arith) rc)
    file_slot_kept y (slot_again p) =
        let old : p.old ≡ r = slotted_same (fk.slots (slotted p.old) (again_stood h y p)) in
        let same : p.handle ≡ h = handle_same p.handle h (let z = p.block in omega arith) (sym p.fits.same ∙ ap (λ (k : Slot). k.identity) old ∙ fk.same) in
        elim p.sort [
          | inl q ↦ kinds_apart q.0 (ap (λ (k : Slot). k.kind) old ∙ fk.kind)
          | inr q ↦ absurd (quiet (subst (λ (k : Handle). Touches e k) same q.1))
        ]
    file_slot_kept y (slot_blanked p) =
        let old : p.old ≡ r = slotted_same (fk.slots (slotted p.old) (blanked_stood h y p)) in
        absurd (quiet (subst (λ (k : Handle). Touches e k) (blanked_handle h y p (ap (λ (k : Slot). k.identity) old ∙ fk.same)) p.touched))
    file_slot_kept y (fresh_body p) = absurd (let z = p.free.above in let w = fk.inside in omega arith)
    file_slot_kept y (file_again p) = absurd (let z = p.above in let w = fk.inside in omega arith)
    file_slot_kept y (folder_again p) = absurd (let z = p.above in let w = fk.inside in omega arith)

    file_kept : FileKept g n h r
    file_kept = record {
      inside = fk.inside;
      slots = λ y i. elim (join (suc h.slot.0) y i) [ inl old ↦ fk.slots y old | inr new ↦ file_slot_kept y new ];
      same = fk.same;
      kind = fk.kind;
      region = fk.region;
    }

    -- a body that names the file's leaf is put only by a write of it
    no_leaf : (k b : ℕ) (y : Content) → Allowed g v high e b y → (x : List ℕ) → y ≡ file_body (back h k) x → ⊥
    no_leaf k b y (fresh_slot p) x w = apart w p.content (λ z. omega arith)
    no_leaf k b y (slot_again p) x w = apart w p.content (λ z. omega arith)
    no_leaf k b y (slot_blanked p) x w = apart w p.content (λ z. omega arith)
    no_leaf k b y (fresh_body p) x w = elim p.sort [
      | inl u ↦ quiet (subst (λ (d : Handle). Touches e d) (ap (λ (b : Back). b.owner) (file_back (sym u.3 ∙ w))) u.4)
      | inr u ↦ apart w u.4 (λ z. omega arith)
    ]
    no_leaf k b y (file_again p) x w = quiet (subst (λ (d : Handle). Touches e d) (ap (λ (b : Back). b.owner) (file_back (sym p.content ∙ w))) p.touched)
    no_leaf k b y (folder_again p) x w = apart w p.content (λ z. omega arith)

    -- the block of a good leaf is not put
    good_kept : (k : ℕ) (x : List ℕ) → k < count r → v (number r k) ≡ file_body (back h k) x → (y : Content) → Allowed g v high e (number r k) y → ⊥
    good_kept k x low here y (fresh_slot p) = let z = fk.region k low in let w = fresh_low _ y p in omega arith
    good_kept k x low here y (slot_again p) = let z = fk.region k low in let w = again_low _ y p in omega arith
    good_kept k x low here y (slot_blanked p) = let z = fk.region k low in let w = blanked_low _ y p in omega arith
    good_kept k x low here y (fresh_body p) = p.free.unheld (record {
      owner = h;
      leaf = k;
      reached = rc;
      good = record { slot = r; fits = file_fits g m h r fk; below = low; body = inl (x, fk.kind, here) };
      here = refl;
    })
    good_kept k x low here y (file_again p) = quiet (subst (λ (d : Handle). Touches e d) (ap (λ (b : Back). b.owner) (file_back (sym p.stood ∙ here))) p.touched)
    good_kept k x low here y (folder_again p) = apart p.stood here (λ z. omega arith)

    pub leaf_kept : (k : ℕ) (a : Option (List ℕ)) → k < count r → LeafKept g m h r k a → LeafKept g n h r k a
    leaf_kept k a low lk y i = elim (join (number r k) y i) [ inl old ↦ lk y old | inr new ↦ go a (lk (v (number r k)) (stood (number r k) _ refl)) (leaf_in (back h k) y) refl new ]
      where
        go : (a : Option (List ℕ)) → leaf_in (back h k) (v (number r k)) ≡ a → (b : Option (List ℕ)) → leaf_in (back h k) y ≡ b → Allowed g v high e (number r k) y → leaf_in (back h k) y ≡ a
        go (Some x) q b p new = absurd (good_kept k x low (leaf_some (back h k) (v (number r k)) x q) y new)
        go None q None p new = p
        go None q (Some x) p new = absurd (no_leaf k (number r k) y new x (leaf_some (back h k) y x p))

  module _ (h : Handle) (r : Slot) (quiet : Touches e h → ⊥) where
    stays_child : (c : Handle) (ns : List Name) → Trail g m c ns h r → Hollow g v c → Touches e c → ⊥
    stays_child c [] t hollow touched = quiet (subst (λ (k : Handle). Touches e k) t.0 touched)
    stays_child c (a ∷ ns) t hollow touched = hollow t.1.leaf t.1.place (a, t.0, link_sound g m c a t.0 t.1)

    pub trail_kept : (f : Handle) (ns : List Name) → Reached g v f → Trail g m f ns h r → Trail g n f ns h r
    trail_kept f [] rc t = (t.0, file_kept h r t.1 (subst (λ (k : Handle). Reached g v k) t.0 rc) quiet)
    trail_kept f (a ∷ ns) rc t = (
      t.0,
      link_kept f a t.0 t.1 rc (stays_child t.0 ns t.2),
      trail_kept t.0 ns (under rc (link_sound g m f a t.0 t.1)) t.2,
    )
