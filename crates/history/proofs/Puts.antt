-- Every block that an accepted or broken-off call puts is of one of the sorts.
use Rattle.std.proofs.Common.{◌≡◌, ℕ, zero, suc, ◌<◌, ◌≤◌, true, false, ◌&&◌, leb, ◌⊎◌, List, [], ◌∷◌, ◌++◌, length, get_or, take, set, replicate, sym, refl, ap, ◌∙◌, subst, subst₂, inl, inr, arith, length-append, length-set, length-take}
use Rattle.std.proofs.lemmas.Bool.{and_from, and_parts, eq-eqb, lt-ltb, leb-true}
use Rattle.std.proofs.lemmas.List.{get_or_append_left}
use Rattle.base.specs.declared.owner.Kind.{Kind}
use Rattle.base.specs.declared.owner.Kind.TheVariants.{File, Folder}
use Rattle.base.specs.declared.owner.Handle.{Handle}
use Rattle.device.specs.Model.{Block}
use Rattle.device.specs.Effect.{PutAt}
use Rattle.device.specs.declared.put.Put.{Put}
use Rattle.layout.specs.Format.{Name, Cell, Geometry, back, Slot, Content, blank, slotted, file_body, folder_body, entry, body_number, all_bodies, plain_bytes, in_limits, cell, blank_cell, parse, encode, entry_of}
use Rattle.layout.specs.Identities.{entry_told, told}
use Rattle.rule.specs.Agree.{View, count, number}
use Rattle.rule.specs.Card.{Card, Plan}
use Rattle.rule.specs.Changing.{with_numbers, grown, cut_to, new_slot, last_identity}
use Rattle.rule.specs.Meaning.{Fits, Finds, FreeBody}
use Rattle.rule.specs.Calls.{Replaces, Appends, Writes, Shortens, InPlace, OnNewLeaf, Creates, Removes}
use Rattle.history.specs.Events.{State}
use Rattle.history.specs.History.{Moment, Deed, created, wrote, shortened, removed, gives}
use Rattle.history.specs.Laws.{Touches}
use Rattle.layout.specs.Laws.{SlotFits, BackFits, whole_cells}
use Rattle.layout.proofs.Back.{read_as, read_as_entry, set_whole}
use Rattle.rule.proofs.Formed.{SlotFormed, slot_formed, body_at}
use Rattle.history.proofs.Written.{slot_lies, body_lies, cell_length, blank_cells, slot_whole, file_whole, folder_whole, blank_whole}
use Rattle.history.proofs.Parsed.{folder_parsed, blank_entry, child_parsed, no_such_entry, entry_child, entry_name}
use Rattle.history.proofs.Log.{did, MadeIn, same_apart}
use Rattle.history.proofs.Stands.{May, view, may_shown, told_own, told_parent, told_entry, entry_tells, highest_set, highest_new, set_cases, blank_at, Logged, Inv}
use Rattle.history.proofs.Sorts.{Allowed, fresh_slot, slot_again, slot_blanked, fresh_body, file_again, folder_again, Fair}

pub bodies_push : (g : Geometry) (xs : List ℕ) (b : ℕ) → all_bodies g xs ≡ true → g.slots < b → b < g.blocks → all_bodies g (xs ++ (b ∷ [])) ≡ true
bodies_push g [] b e up low = and_from _ _ (and_from _ _ (lt-ltb g.slots b up) (lt-ltb b g.blocks low)) refl
bodies_push g (x ∷ xs) b e up low = let p = and_parts (body_number g x) (all_bodies g xs) e in and_from _ _ p.0 (bodies_push g xs b p.1 up low)

pub bodies_take : (g : Geometry) (n : ℕ) (xs : List ℕ) → all_bodies g xs ≡ true → all_bodies g (take n xs) ≡ true
bodies_take g zero xs e = refl
bodies_take g (suc n) [] e = refl
bodies_take g (suc n) (x ∷ xs) e = let p = and_parts (body_number g x) (all_bodies g xs) e in and_from _ _ p.0 (bodies_take g n xs p.1)

pub grown_below : (r : Slot) (b j : ℕ) → j < count r → number (grown r b) j ≡ number r j
grown_below r b j l = get_or_append_left r.numbers (b ∷ []) 0 j l

pub grown_count : (r : Slot) (b : ℕ) → count (grown r b) ≡ suc (count r)
grown_count r b = length-append r.numbers (b ∷ []) ∙ omega arith

module _ (g : Geometry) (s : State) (ms : List Moment) (u : State) (iv : Inv g s ms u) (high : ℕ) (counted : (b : ℕ) (y : Content) → May g u.device b y → told g y ≤ high) (under_last : high ≤ last_identity) where
  abbrev v : View
  v = view g u.device

  lim : in_limits g.blocks g.slots ≡ true
  lim = iv.limits.within

  formed : (h : Handle) (r : Slot) → Fits g v h r → SlotFormed g (suc h.slot.0) r
  formed h r f = slot_formed g (suc h.slot.0) (u.device.shown (suc h.slot.0)) r f.holds

  slot_low : (h : Handle) (r : Slot) → Fits g v h r → told g (slotted r) ≤ high
  slot_low h r f = counted (suc h.slot.0) (slotted r) (may_shown g u.device (suc h.slot.0) (slotted r) f.holds)

  pub handle_low : (h : Handle) (r : Slot) → Fits g v h r → h.identity.0 ≤ high
  handle_low h r f = let a = slot_low h r f in let b = told_own g r in let c = f.same in omega arith

  handle_own : (h : Handle) (r : Slot) → Fits g v h r → 1 ≤ h.identity.0
  handle_own h r f = let a = (formed h r f).identity in let c = f.same in omega arith

  leaf_block : (h : Handle) (r : Slot) (k : ℕ) → Fits g v h r → k < count r → (g.slots < number r k) × (number r k < g.blocks)
  leaf_block h r k f l = body_at g r.numbers k (formed h r f).numbers l

  backed : (h : Handle) (r : Slot) (k : ℕ) → Fits g v h r → k < 64 → BackFits g (back h k)
  backed h r k f l = record { slot = f.inside; own = (handle_own h r f, (let a = handle_low h r f in omega arith)); leaf = l }

  -- a slot with other numbers
  renumbered : (h : Handle) (r : Slot) (ns : List ℕ) → Fits g v h r → length ns ≤ 64 → all_bodies g ns ≡ true → SlotFits g (with_numbers r ns)
  renumbered h r ns f few bodies =
      let o = formed h r f in
      let a = slot_low h r f in
      record {
        few = few;
        own = (o.identity, (let c = told_own g r in omega arith));
        parent = (o.parent_identity, (let c = told_parent g r in omega arith));
        parent_slot = o.parent;
        bodies = bodies;
      }

  -- a put, by what it is to hold
  fair_at : (t : State) (ns : List Moment) (d : Deed) (top b i : ℕ) (z : Block) (y : Content) → b ≡ i → z ≡ encode y → parse g i (encode y) ≡ y →
      Allowed g v high d i y → told g y ≤ top → Logged g t ns y → length (encode y) ≡ 512 → Fair g v t ns d high top b z
  fair_at t ns d top b i z y eb ez trip al low lo wh =
      subst₂ (λ (j : ℕ) (w : Block). Fair g v t ns d high top j w) (sym eb) (sym ez)
      (record { content = y; parses = trip; allowed = al; counted = low; logged = lo; whole = wh })

  -- ---- slots written again

  grown_fair : (ns : List Moment) (d : Deed) (top b i : ℕ) (z : Block) (h : Handle) (r : Slot) → high ≤ top → Fits g v h r → count r < 64 → FreeBody g v i →
      ((r.kind ≡ Folder) ⊎ ((r.kind ≡ File) × Touches d h)) → b ≡ suc h.slot.0 → z ≡ encode (slotted (grown r i)) → Fair g v s ns d high top b z
  grown_fair ns d top b i z h r up f room free sort eb ez =
      fair_at s ns d top b (suc h.slot.0) z (slotted (grown r i)) eb ez
      (read_as (slotted (grown r i)) g (suc h.slot.0) lim (slot_lies g (suc h.slot.0) (omega arith) f.inside, fits))
      (slot_again (record {
        handle = h;
        old = r;
        fits = f;
        block = refl;
        slot = grown r i;
        content = refl;
        own = refl;
        parent = refl;
        sort = elim sort [ inl k ↦ inl (k, k, (let c = grown_count r i in omega arith), grown_below r i) | inr k ↦ inr k ];
      }))
      (let a = slot_low h r f in omega arith) tt (slot_whole (grown r i) fits.few)
    where
      fits : SlotFits g (grown r i)
      fits = renumbered h r (r.numbers ++ (i ∷ [])) f (let c = grown_count r i in omega arith) (bodies_push g r.numbers i (formed h r f).numbers free.above free.inside)

  cut_fair : (ns : List Moment) (d : Deed) (b n : ℕ) (z : Block) (h : Handle) (r : Slot) → Fits g v h r → r.kind ≡ File → Touches d h →
      b ≡ suc h.slot.0 → z ≡ encode (slotted (cut_to r n)) → Fair g v s ns d high high b z
  cut_fair ns d b n z h r f k touched eb ez =
      fair_at s ns d high b (suc h.slot.0) z (slotted (cut_to r n)) eb ez
      (read_as (slotted (cut_to r n)) g (suc h.slot.0) lim (slot_lies g (suc h.slot.0) (omega arith) f.inside, fits))
      (slot_again (record { handle = h; old = r; fits = f; block = refl; slot = cut_to r n; content = refl; own = refl; parent = refl; sort = inr (k, touched) }))
      (slot_low h r f) tt (slot_whole (cut_to r n) fits.few)
    where
      fits : SlotFits g (cut_to r n)
      fits = let o = formed h r f in renumbered h r (take n r.numbers) f (let c = length-take n r.numbers in let w = o.count in omega arith) (bodies_take g n r.numbers o.numbers)

  -- ---- write

  module _ (m : Moment) (h : Handle) (k : ℕ) (x : List ℕ) (is : did s m ms ≡ wrote h k x) where
    body_fair : (b i : ℕ) (z : Block) (r : Slot) → Fits g v h r → k < 64 → length x ≤ 496 → g.slots < i → i < g.blocks →
        Allowed g v high (wrote h k x) i (file_body (back h k) x) → b ≡ i → z ≡ encode (file_body (back h k) x) → Fair g v s (m ∷ ms) (wrote h k x) high high b z
    body_fair b i z r f l size up low al eb ez =
        fair_at s (m ∷ ms) (wrote h k x) high b i z (file_body (back h k) x) eb ez
        (read_as (file_body (back h k) x) g i lim (body_lies g i up low, backed h r k f l, size)) al (handle_low h r f) (inl is) (file_whole (back h k) x size)

    pub write_fair : (c : Card) (p : Plan (Unit {0})) → Writes g v c h k x p → (b : ℕ) (z : Block) → PutAt b z p.puts → Fair g v s (m ∷ ms) (wrote h k x) high high b z
    write_fair c p w b z put = elim w.blocks [ inl q ↦ replaced q | inr q ↦ appended q ]
      where
        r : Slot
        r = w.slot

        f : Fits g v h r
        f = w.standing.fits

        replaced : Replaces v c h r k x p → Fair g v s (m ∷ ms) (wrote h k x) high high b z
        replaced q = elim (subst (λ (l : List Put). PutAt b z l) q.blocks put) [
          | inl e ↦ (let at = leaf_block h r k f q.below in
              body_fair b (number r k) z r f w.leaf w.size at.0 at.1
              (file_again (record { handle = h; leaf = k; old = q.old; above = at.0; stood = q.body; new = x; content = refl; touched = refl })) e.0 e.1)
          | inr e ↦ absurd e
        ]

        appended : Appends g v c h r k x p → Fair g v s (m ∷ ms) (wrote h k x) high high b z
        appended q = elim (subst (λ (l : List Put). PutAt b z l) q.blocks put) [
          | inl e ↦ body_fair b q.block z r f w.leaf w.size q.free.above q.free.inside (fresh_body (record { free = q.free; sort = inl (h, k, x, refl, refl) })) e.0 e.1
          | inr (inl e) ↦ grown_fair (m ∷ ms) (wrote h k x) high b q.block z h r (omega arith) f (let l = w.leaf in let a = q.last in omega arith) q.free (inr (w.standing.kind, refl)) e.0 e.1
          | inr (inr e) ↦ absurd e
        ]

  -- ---- shorten

  pub shorten_fair : (m : Moment) (h : Handle) (n : ℕ) (c : Card) (p : Plan (Unit {0})) → Shortens g v c h n p → (b : ℕ) (z : Block) → PutAt b z p.puts → Fair g v s (m ∷ ms) (shortened h) high high b z
  shorten_fair m h n c p w b z put = elim w.blocks [
    | inl q ↦ absurd (subst (λ (l : List Put). PutAt b z l) q.1 put)
    | inr q ↦ elim (subst (λ (l : List Put). PutAt b z l) q.1 put) [
      | inl e ↦ cut_fair (m ∷ ms) (shortened h) b n z h w.slot w.standing.fits w.standing.kind refl e.0 e.1
      | inr e ↦ absurd e
    ]
  ]

  -- ---- folder bodies

  folder_low : (f : Handle) (b k : ℕ) (es : List Cell) → v b ≡ folder_body (back f k) es → told g (folder_body (back f k) es) ≤ high
  folder_low f b k es e = counted b (folder_body (back f k) es) (may_shown g u.device b (folder_body (back f k) es) e)

  folder_made : (f : Handle) (b k : ℕ) (es : List Cell) → v b ≡ folder_body (back f k) es → (q : ℕ) (n : Name) (c : Handle) → entry_of g (get_or es q []) ≡ entry n c → MadeIn s ms c f n
  folder_made f b k es e = iv.logged b (folder_body (back f k) es) (may_shown g u.device b (folder_body (back f k) es) e)

  folder_cells_of : (f : Handle) (b k : ℕ) (es : List Cell) → g.slots < b → b < g.blocks → v b ≡ folder_body (back f k) es → (length es ≡ 15) × (whole_cells es ≡ true)
  folder_cells_of f b k es up low e = folder_parsed g b (u.device.shown b) (back f k) es up low (iv.whole b (u.device.shown b) low (u.device.among b)) e

  again_fair : (ns : List Moment) (d : Deed) (top b : ℕ) (z : Block) (f : Handle) (r : Slot) (k p : ℕ) (es : List Cell) (e : Cell) →
      high ≤ top → Fits g v f r → (l : k < count r) (there : v (number r k) ≡ folder_body (back f k) es) → length e ≡ 32 → entry_told (entry_of g e) ≤ top →
      Allowed g v high d (number r k) (folder_body (back f k) (set es p e)) →
      Logged g s ns (folder_body (back f k) (set es p e)) →
      b ≡ number r k → z ≡ encode (folder_body (back f k) (set es p e)) → Fair g v s ns d high top b z
  again_fair ns d top b z f r k p es e up fit l there le low al lo eb ez =
      let at = leaf_block f r k fit l in
      let cs = folder_cells_of f (number r k) k es at.0 at.1 there in
      let few = (formed f r fit).count in
      let old = folder_low f (number r k) k es there in
      fair_at s ns d top b (number r k) z (folder_body (back f k) (set es p e)) eb ez
      (read_as (folder_body (back f k) (set es p e)) g (number r k) lim (body_lies g (number r k) at.0 at.1, backed f r k fit (omega arith), length-set es p e ∙ cs.0, set_whole es p e le cs.1))
      al
      (let w = highest_set g es p e top low (omega arith) in let a = handle_low f r fit in omega arith)
      lo (folder_whole (back f k) (set es p e) (length-set es p e ∙ cs.0) (set_whole es p e le cs.1))

  -- ---- create

  module _ (m : Moment) (d : Kind) (f : Handle) (n : Name) (c : Card) (p : Plan Handle) (cr : Creates g v c d f n p) (now_high : c.highest ≡ high) (is : did s m ms ≡ created d f n p.answer) where
    abbrev a : Handle
    a = p.answer

    fit : Fits g v f cr.slot
    fit = cr.standing.fits

    below : f.identity.0 ≤ high
    below = handle_low f cr.slot fit

    own : a.identity.0 ≡ suc high
    own = cr.fresh ∙ ap suc now_high

    pub fresh : (h : Handle) → h.identity.0 ≤ high → gives (did s m ms) h ≡ false
    fresh h l = ap (λ (e : Deed). gives e h) is ∙ same_apart a h (λ q. let o = own in omega arith)

    new_fair : (b : ℕ) (z : Block) → b ≡ suc a.slot.0 → z ≡ encode (slotted (new_slot d f a.identity.0)) → Fair g v s (m ∷ ms) (created d f n a) high (suc high) b z
    new_fair b z eb ez =
        fair_at s (m ∷ ms) (created d f n a) (suc high) b (suc a.slot.0) z (slotted (new_slot d f a.identity.0)) eb ez
        (read_as (slotted (new_slot d f a.identity.0)) g (suc a.slot.0) lim (slot_lies g (suc a.slot.0) (omega arith) cr.free.inside, fits))
        (fresh_slot (record { place = a.slot.0; free = cr.free; block = refl; slot = new_slot d f a.identity.0; content = refl; own = own }))
        (let o = own in let b = below in omega arith) tt (slot_whole (new_slot d f a.identity.0) (omega arith))
      where
        fits : SlotFits g (new_slot d f a.identity.0)
        fits = record {
          few = omega arith;
          own = ((let o = own in omega arith), (let o = own in let w = cr.narrow in omega arith));
          parent = (handle_own f cr.slot fit, (let b = below in omega arith));
          parent_slot = fit.inside;
          bodies = refl;
        }

    entry_new : entry_of g (cell n a) ≡ entry n a
    entry_new = read_as_entry n a cr.name g lim (record { from_one = cr.child; slot = cr.free.inside; own = ((let o = own in omega arith), (let o = own in let w = cr.narrow in omega arith)) })

    name_short : length n ≤ 24
    name_short =
        let x = and_parts (leb 1 (length n)) (leb (length n) 24 && plain_bytes n) cr.name in
        leb-true (length n) 24 (and_parts (leb (length n) 24) (plain_bytes n) x.1).0

    entry_low : entry_told (entry_of g (cell n a)) ≤ suc high
    entry_low = let w = entry_tells (entry_of g (cell n a)) n a entry_new in let o = own in omega arith

    made_new : (e : Cell) (nm : Name) (h : Handle) → e ≡ cell n a → entry_of g e ≡ entry nm h → MadeIn s (m ∷ ms) h f nm
    made_new e nm h ee q =
        let w : entry nm h ≡ entry n a = sym q ∙ ap (entry_of g) ee ∙ entry_new in
        subst₂ (λ (x : Name) (y : Handle). MadeIn s (m ∷ ms) y f x) (sym (entry_name w)) (sym (entry_child w)) (inl (d, is, fresh f below))

    in_place : (rest : List Put) (next : ℕ) → InPlace g v c f cr.slot (cell n a) rest next → (b : ℕ) (z : Block) → PutAt b z rest → Fair g v s (m ∷ ms) (created d f n a) high (suc high) b z
    in_place rest next q b z put = elim (subst (λ (l : List Put). PutAt b z l) q.blocks put) [
      | inr e ↦ absurd e
      | inl e ↦ again_fair (m ∷ ms) (created d f n a) (suc high) b z f cr.slot q.leaf q.place q.here.cells (cell n a)
          (omega arith) fit q.here.below q.here.body (cell_length n a name_short) entry_low
          (folder_again (record {
            handle = f;
            leaf = q.leaf;
            place = q.place;
            cells = q.here.cells;
            above = (leaf_block f cr.slot q.leaf fit q.here.below).0;
            stood = q.here.body;
            new = cell n a;
            content = refl;
            sort = inl (n, a, entry_new, cr.untaken, q.unsound);
          }))
          logged e.0 e.1
    ]
      where
        logged : (i : ℕ) (nm : Name) (h : Handle) → entry_of g (get_or (set q.here.cells q.place (cell n a)) i []) ≡ entry nm h → MadeIn s (m ∷ ms) h f nm
        logged i nm h e = elim (set_cases q.here.cells q.place i (cell n a)) [
          | inl w ↦ made_new _ nm h w.1 e
          | inr w ↦
              (let old : entry_of g (get_or q.here.cells i []) ≡ entry nm h = ap (entry_of g) (sym w) ∙ e in
              let low = told_entry g (back f q.leaf) q.here.cells i nm h old in
              let all = folder_low f (number cr.slot q.leaf) q.leaf q.here.cells q.here.body in
              inr (fresh h (omega arith), fresh f below, folder_made f (number cr.slot q.leaf) q.leaf q.here.cells q.here.body i nm h old))
        ]

    on_new : (rest : List Put) (next : ℕ) → OnNewLeaf g v c f cr.slot (cell n a) rest next → (b : ℕ) (z : Block) → PutAt b z rest → Fair g v s (m ∷ ms) (created d f n a) high (suc high) b z
    on_new rest next q b z put = elim (subst (λ (l : List Put). PutAt b z l) q.blocks put) [
      | inl e ↦ fair_at s (m ∷ ms) (created d f n a) (suc high) b q.block z new_body e.0 e.1
          (read_as new_body g q.block lim (body_lies g q.block q.free.above q.free.inside, backed f cr.slot (count cr.slot) fit q.room, refl, new_cells))
          (fresh_body (record { free = q.free; sort = inr (f, cr.slot, cell n a ∷ replicate 14 blank_cell, fit, refl) }))
          (let w = highest_new g (cell n a) 14 (suc high) entry_low in let b = below in omega arith)
          logged (folder_whole (back f (count cr.slot)) (cell n a ∷ replicate 14 blank_cell) refl new_cells)
      | inr (inl e) ↦ grown_fair (m ∷ ms) (created d f n a) (suc high) b q.block z f cr.slot (omega arith) fit q.room q.free (inl cr.standing.kind) e.0 e.1
      | inr (inr e) ↦ absurd e
    ]
      where
        new_cells : whole_cells (cell n a ∷ replicate 14 blank_cell) ≡ true
        new_cells = and_from _ _ (eq-eqb (length (cell n a)) 32 (cell_length n a name_short)) (blank_cells 14)

        new_body : Content
        new_body = folder_body (back f (count cr.slot)) (cell n a ∷ replicate 14 blank_cell)

        logged : (i : ℕ) (nm : Name) (h : Handle) → entry_of g (get_or (cell n a ∷ replicate 14 blank_cell) i []) ≡ entry nm h → MadeIn s (m ∷ ms) h f nm
        logged zero nm h e = made_new (cell n a) nm h refl e
        logged (suc i) nm h e = no_such_entry (blank_at g 14 i) e

    pub create_fair : (b : ℕ) (z : Block) → PutAt b z p.puts → Fair g v s (m ∷ ms) (created d f n a) high (suc high) b z
    create_fair b z put = elim (subst (λ (l : List Put). PutAt b z l) cr.blocks put) [
      | inl e ↦ new_fair b z e.0 e.1
      | inr e ↦ elim cr.placed [ inl q ↦ in_place cr.rest cr.next q b z e | inr q ↦ on_new cr.rest cr.next q b z e ]
    ]

  -- ---- remove

  module _ (m : Moment) (f : Handle) (n : Name) (h : Handle) (c : Card) (p : Plan (Unit {0})) (rm : Removes g v c f n h p) (is : did s m ms ≡ removed h) where
    abbrev fd : Finds g v f n h
    fd = rm.found

    cell_logged : (i : ℕ) (nm : Name) (a : Handle) → entry_of g (get_or (set fd.sound.cells fd.place blank_cell) i []) ≡ entry nm a → MadeIn s (m ∷ ms) a f nm
    cell_logged i nm a e = elim (set_cases fd.sound.cells fd.place i blank_cell) [
      | inl w ↦ no_such_entry (ap (entry_of g) w.1 ∙ blank_entry g) e
      | inr w ↦
          inr (
            ap (λ (x : Deed). gives x a) is,
            ap (λ (x : Deed). gives x f) is,
            folder_made f (number fd.sound.slot fd.leaf) fd.leaf fd.sound.cells fd.sound.body i nm a (ap (entry_of g) (sym w) ∙ e),
          )
    ]

    pub remove_fair : (b : ℕ) (z : Block) → PutAt b z p.puts → Fair g v s (m ∷ ms) (removed h) high high b z
    remove_fair b z put = elim (subst (λ (l : List Put). PutAt b z l) rm.blocks put) [
      | inl e ↦ again_fair (m ∷ ms) (removed h) high b z f fd.sound.slot fd.leaf fd.place fd.sound.cells blank_cell
          (omega arith) fd.sound.fits fd.sound.below fd.sound.body refl (let w = ap entry_told (blank_entry g) in omega arith)
          (folder_again (record {
            handle = f;
            leaf = fd.leaf;
            place = fd.place;
            cells = fd.sound.cells;
            above = (leaf_block f fd.sound.slot fd.leaf fd.sound.fits fd.sound.below).0;
            stood = fd.sound.body;
            new = blank_cell;
            content = refl;
            sort = inr (n, h, blank_entry g, fd.sound.here, rm.hollow, refl);
          }))
          cell_logged e.0 e.1
      | inr (inl e) ↦ fair_at s (m ∷ ms) (removed h) high b (suc h.slot.0) z blank e.0 e.1
          (read_as blank g (suc h.slot.0) lim (inl (slot_lies g (suc h.slot.0) (omega arith) fd.sound.child_fits.inside)))
          (slot_blanked (record {
            handle = h;
            old = fd.sound.child;
            fits = fd.sound.child_fits;
            above = child_parsed g (get_or fd.sound.cells fd.place []) n h fd.sound.here;
            block = refl;
            content = refl;
            hollow = rm.hollow;
            touched = refl;
          }))
          (omega arith) tt blank_whole
      | inr (inr e) ↦ absurd e
    ]
