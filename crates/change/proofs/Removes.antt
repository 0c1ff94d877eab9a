-- A remove, check by check.
use Rattle.std.proofs.Common.{◌≡◌, ℕ, suc, ◌<◌, true, false, not, List, [], ◌∷◌, get_or, take, set, Some, None, Ok, Err, Option, sym, refl, ap, ◌∙◌, subst, arith}
use Rattle.std.specs.Option.{option_map, IsSome}
use Rattle.base.specs.declared.owner.Kind.TheVariants.{Folder}
use Rattle.base.specs.declared.owner.Handle.{Handle}
use Rattle.base.specs.declared.refusal.Refusal.{Refusal}
use Rattle.base.specs.declared.refusal.Refusal.TheVariants.{NoSuchName, FolderNotEmpty}
use Rattle.device.specs.Model.{Model}
use Rattle.device.specs.declared.put.Put.{Put}
use Rattle.layout.specs.Format.{Name, Cell, Slot, back, blank, folder_body, blank_cell, entry_of}
use Rattle.layout.specs.Head.{cells}
use Rattle.layout.specs.Sizes.{sizes}
use Rattle.layout.specs.declared.geometry.Geometry.{Geometry as CardGeometry}
use Rattle.marks.specs.declared.mark.Marks.{Marks}
use Rattle.rule.specs.Agree.{View, slot_at, number, cells_in, Place, places, first, sound, found, some_is}
use Rattle.rule.specs.Card.{Plan}
use Rattle.rule.specs.Check.{Answer, ◌>>=◌, check, demand}
use Rattle.rule.specs.Changing.{changing, remove, has_entries, with_cell, store}
use Rattle.rule.specs.Meaning.{Fits}
use Rattle.rule.specs.Reading.{named, child_of}
use Rattle.rule.proofs.Means.{fits_at}
use Rattle.rule.proofs.Plans.{changing_ok}
use Rattle.rule.proofs.Steps.{clash_none}
use Rattle.walk.specs.Copies.{copied, SlotIs}
use Rattle.walk.specs.Still.{shows}
use Rattle.walk.specs.declared.slot.SlotCopy.{SlotCopy}
use Rattle.walk.proofs.Stepping.{bind_ok, bind_err, check_ok, check_err, demand_ok, demand_err}
use Rattle.change.specs.Plans.{card_view, Planned, Removing, RemovePlanned}
use Rattle.change.specs.Scanning.{first_sought, SpotAt, SpotOr, Scanned}
use Rattle.change.specs.declared.plan.Memory.{Memory}
use Rattle.change.specs.declared.plan.Plan.{Plan as CodePlan}
use Rattle.change.specs.declared.scan.Scan.{Scan}
use Rattle.change.specs.declared.scan.Spot.{Spot}
use Rattle.change.specs.declared.scan.Sought.TheVariants.{Entry as AnyEntry}
use Rattle.change.proofs.Checks.{its_slot, few_slots, plan_same}
use Rattle.change.proofs.Sounding.{Child, found_child, entry_is}

-- where the code found a place, the rule has one
there_is : (v : View) (r : Slot) (s : Option Place) (o : Option Spot) → IsSome o → SpotOr v r s None o → some_is s (λ q. true) ≡ true
there_is v r s None e h = cc
there_is v r s (Some y) e h = ap (λ (o : Option Place). some_is o (λ q. true)) h.1

-- the code's block with another cell is the rule's
pub cell_changed : (v : View) (f : Handle) (r : Slot) (q : Place) (x : Spot) (e : Cell) (z : Put) → SpotAt v r q x →
    z ≡ store (number r x.leaf.0) (folder_body (back f x.leaf.0) (set (cells (take 480 x.copy.bytes)) x.place e)) → z ≡ with_cell v f r q e
cell_changed v f r q x e z w is =
    is ∙ ap (λ (cs : List Cell). store (number r x.leaf.0) (folder_body (back f x.leaf.0) (set cs x.place e))) w.cells
    ∙ ap (λ (k : ℕ). store (number r k) (folder_body (back f k) (set (cells_in (v (number r q.leaf))) x.place e))) w.leaf
    ∙ ap (λ (p : ℕ). store (number r q.leaf) (folder_body (back f q.leaf) (set (cells_in (v (number r q.leaf))) p e))) w.place

-- the code's child is the rule's
pub spot_child : (g : CardGeometry) (v : View) (r : Slot) (q : Place) (x : Spot) (c : Handle) → SpotAt v r q x →
    c ≡ child_of (entry_of (sizes g) (get_or (cells (take 480 x.copy.bytes)) x.place [])) → c ≡ child_of (entry_of (sizes g) q.cell)
spot_child g v r q x c w is =
    is ∙ ap (λ (cs : List Cell). child_of (entry_of (sizes g) (get_or cs x.place []))) w.cells
    ∙ ap (λ (p : ℕ). child_of (entry_of (sizes g) (get_or (cells_in (v (number r q.leaf))) p []))) w.place
    ∙ ap (λ (e : Cell). child_of (entry_of (sizes g) e)) (sym w.cell)

module _ (g : CardGeometry) (m : Model) (mem : Memory) (f : Handle) (n : Name) where
  pub bad_name : (e : Refusal) → named n ≡ Err e → remove f n (card_view g mem) m.shown ≡ Err e
  unfolding remove
  bad_name e q = bind_err _ _ e q

  module _ (fine : named n ≡ Ok tt) where
    pub no_folder : (e : Refusal) → changing (sizes g) (shows g m) Folder f ≡ Err e → remove f n (card_view g mem) m.shown ≡ Err e
    unfolding remove
    no_folder e q = bind_ok _ _ tt fine ∙ bind_ok _ _ (sizes g) refl ∙ bind_err _ _ e q

    module _ (s : SlotCopy) (slot : changing (sizes g) (shows g m) Folder f ≡ Ok (copied s)) where
      -- past the entry: h is its child
      abbrev ending : Place → Handle → Answer (Plan (Unit {0}))
      ending q h = check (not (has_entries (sizes g) (shows g m) h)) (FolderNotEmpty h.slot) >>= λ u.
          Ok (record { answer = tt; puts = with_cell (shows g m) f (copied s) q blank_cell ∷ store (suc h.slot.0) blank ∷ []; card = card_view g mem })

      to_entry : remove f n (card_view g mem) m.shown ≡ (demand (found (sizes g) (shows g m) f (copied s) n) (NoSuchName f.slot) >>= λ q. ending q (child_of (entry_of (sizes g) q.cell)))
      unfolding remove
      to_entry = bind_ok _ _ tt fine ∙ bind_ok _ _ (sizes g) refl ∙ bind_ok _ _ (copied s) slot

      pub no_name : found (sizes g) (shows g m) f (copied s) n ≡ None → remove f n (card_view g mem) m.shown ≡ Err (NoSuchName f.slot)
      no_name e = to_entry ∙ bind_err _ _ _ (demand_err (found (sizes g) (shows g m) f (copied s) n) _ e)

      to_child : (q : Place) (h : Handle) → found (sizes g) (shows g m) f (copied s) n ≡ Some q → h ≡ child_of (entry_of (sizes g) q.cell) → remove f n (card_view g mem) m.shown ≡ ending q h
      to_child q h e is = to_entry ∙ bind_ok _ _ q (demand_ok (found (sizes g) (shows g m) f (copied s) n) _ q e) ∙ ap (ending q) (sym is)

  module _ (ms : Marks) (s : SlotCopy) (x : Spot) (w : Removing g m ms f s n x) (h : Handle) (is : h ≡ child_of (entry_of (sizes g) w.place.cell)) where
    child : Child (sizes g) (shows g m) h
    child =
        let c = changing_ok (sizes g) (shows g m) Folder f (copied s) w.slot in
        subst (Child (sizes g) (shows g m)) (sym is) (found_child (sizes g) (shows g m) f (copied s) n w.place w.rooted c.fits c.reached w.is)

    -- the child has its slot
    pub no_slot : {A : Type 0} (o : Option SlotCopy) → SlotIs (sizes g) (shows g m) h.slot.0 o → o ≡ None → A
    no_slot o at e = clash_none (sym (ap (option_map copied) e) ∙ at ∙ fits_at (sizes g) (shows g m) h child.slot child.fits)

    module _ (o : Option SlotCopy) (t : SlotCopy) (there : SlotIs (sizes g) (shows g m) h.slot.0 o) (e : o ≡ Some t) where
      at : slot_at (sizes g) (shows g m) h.slot.0 ≡ Some (copied t)
      at = sym there ∙ ap (option_map copied) e

      fits : Fits (sizes g) (shows g m) h (copied t)
      fits =
          let a = at in
          let b = fits_at (sizes g) (shows g m) h child.slot child.fits in
          let same : child.slot ≡ copied t = cc in
          subst (Fits (sizes g) (shows g m) h) same child.fits

      full : has_entries (sizes g) (shows g m) h ≡ some_is (first_sought (sizes g) ms h AnyEntry (places (shows g m) h (copied t))) (λ q. true)
      full =
          ap (λ (o : Option Slot). some_is o (λ r. some_is (first (sound (sizes g) (shows g m) h) (places (shows g m) h r)) (λ q. true))) at
          ∙ ap (λ (o : Option Place). some_is o (λ q. true)) (sym (entry_is (sizes g) (shows g m) ms h (copied t) w.tells fits child.near))

      module _ (y : Scan) (scanned : Scanned (sizes g) (shows g m) ms h (copied t) AnyEntry y) where
        pub not_empty : IsSome y.found → remove f n (card_view g mem) m.shown ≡ Err (FolderNotEmpty h.slot)
        not_empty some =
            let yes : has_entries (sizes g) (shows g m) h ≡ true = full ∙ there_is _ _ _ y.found some scanned.found in
            to_child w.name s w.slot w.place h w.is is ∙ bind_err _ _ _ (check_err (not (has_entries (sizes g) (shows g m) h)) _ (ap not yes))

        pub low_child : h.slot.0 < 65535
        low_child = omega (arith, child.fits.inside, few_slots g)

        pub removed : y.found ≡ None → (a b : Put) → a ≡ with_cell (shows g m) f (copied s) w.place blank_cell → b ≡ store (suc h.slot.0) blank →
            (p : CodePlan) → Planned (a ∷ b ∷ []) mem p → RemovePlanned g m mem f n (record { plan = p; change = record { handle = h; slot = t } })
        removed none a b ea eb p d = record {
          rule = to_child w.name s w.slot w.place h w.is is ∙ bind_ok _ _ tt (check_ok (not (has_entries (sizes g) (shows g m) h)) _ (ap not no))
              ∙ ap Ok (plan_same g tt (a ∷ b ∷ []) mem p d (card_view g mem) refl _ (ap (λ (z : Put). z ∷ store (suc h.slot.0) blank ∷ []) (sym ea) ∙ ap (λ (z : Put). a ∷ z ∷ []) (sym eb)));
          folder = copied s;
          at = its_slot g m Folder f (copied s) w.slot;
          place = w.place;
          is = w.is;
          child = sym is;
          slot = at;
        }
          where
            no : has_entries (sizes g) (shows g m) h ≡ false
            no = full ∙ ap (λ (o : Option Place). some_is o (λ q. true)) (subst (SpotOr (shows g m) (copied t) (first_sought (sizes g) ms h AnyEntry (places (shows g m) h (copied t))) None) none scanned.found)
