-- A create, check by check.
use Rattle.std.proofs.Common.{◌≡◌, ℕ, suc, ◌<◌, ◌≤◌, Bool, true, false, ltb, List, [], ◌∷◌, replicate, Some, None, Ok, Err, Option, sym, refl, ap, ◌∙◌, arith}
use Rattle.std.specs.Option.{option_map}
use Rattle.std.proofs.lemmas.Bool.{lt-ltb, le-ltb}
use Rattle.base.specs.declared.number.BlockNo.{BlockNo}
use Rattle.base.specs.declared.number.LeafNo.{LeafNo}
use Rattle.base.specs.declared.owner.Kind.{Kind}
use Rattle.base.specs.declared.owner.Kind.TheVariants.{Folder}
use Rattle.base.specs.declared.owner.Handle.{Handle}
use Rattle.base.specs.declared.refusal.Refusal.{Refusal}
use Rattle.base.specs.declared.refusal.Refusal.TheVariants.{NameTaken, NoFreeSlot, NoFreeBody, IdentitiesSpent, FolderFull}
use Rattle.device.specs.Model.{Model}
use Rattle.device.specs.declared.put.Put.{Put}
use Rattle.layout.specs.Format.{Name, Cell, Slot, handle, back, folder_body, cell, blank_cell, entry_of, leaf_limit, good_name}
use Rattle.layout.specs.Sizes.{sizes}
use Rattle.layout.specs.declared.geometry.Geometry.{Geometry as CardGeometry}
use Rattle.marks.specs.Marks.{next_free_slot, next_free_body}
use Rattle.marks.specs.declared.mark.Marks.{Marks}
use Rattle.moves.specs.Moves.{body_taken}
use Rattle.rule.specs.Agree.{count, Place, found, free_slot, free_body}
use Rattle.rule.specs.Card.{Plan}
use Rattle.rule.specs.Check.{Answer, ◌>>=◌, check, demand}
use Rattle.rule.specs.Changing.{changing, create, untaken, placed, open_place, last_identity, keeps, with_cell, grown, new_slot, store, store_slot}
use Rattle.rule.specs.Reading.{named, child_of}
use Rattle.rule.proofs.Free.{slot_given, body_given}
use Rattle.rule.proofs.Plans as back_from
use Rattle.rule.proofs.Steps.{clash_none}
use Rattle.walk.specs.Copies.{copied}
use Rattle.walk.specs.Still.{shows}
use Rattle.walk.specs.declared.slot.SlotCopy.{SlotCopy}
use Rattle.walk.proofs.Stepping.{bind_ok, bind_err, check_ok, check_err, demand_ok, demand_err}
use Rattle.change.specs.Plans.{card_view, plan_view, fresh, Planned, Entering, Creating, CreatePlanned}
use Rattle.change.specs.declared.plan.Memory.{Memory}
use Rattle.change.specs.declared.plan.Plan.{Plan as CodePlan}
use Rattle.change.proofs.Checks.{its_slot, few_slots, few_blocks, plan_same}

-- a name that may stand
pub good_named : (n : Name) → named n ≡ Ok tt → good_name n ≡ true
unfolding named
good_named n e = back_from.check_ok (good_name n) _ tt e

-- the two checks of a new handle, and what follows them
fresh_then : {B : Type 0} (o : Option ℕ) (t : Bool) (i : ℕ) (a b : Refusal) (j : Handle → Answer B) →
    ((demand o a >>= λ s. check t b >>= λ u. Ok (handle s i)) >>= j) ≡ (demand o a >>= λ s. check t b >>= λ u. j (handle s i))
unfolding ◌>>=◌ check demand
fresh_then None t i a b j = refl
fresh_then (Some s) true i a b j = refl
fresh_then (Some s) false i a b j = refl

-- what the card keeps
abbrev pub kept_for : Handle → ℕ → Memory
kept_for h b = record { highest = h.identity; next_slot = suc h.slot.0; next_body = b }

pub kept_slot : (h : Handle) (i b : ℕ) → i ≡ suc h.slot.0 → ◌≡◌ {A = Memory} (record { highest = h.identity; next_slot = i; next_body = b }) (kept_for h b)
kept_slot h i b e = ap (λ (j : ℕ). record { highest = h.identity; next_slot = j; next_body = b }) e

pub kept_both : (h : Handle) (i b c : ℕ) → i ≡ suc h.slot.0 → b ≡ suc c → ◌≡◌ {A = Memory} (record { highest = h.identity; next_slot = i; next_body = b }) (kept_for h (suc c))
kept_both h i b c e q = kept_slot h i b e ∙ ap (kept_for h) q

module _ (g : CardGeometry) (m : Model) (mem : Memory) (d : Kind) (f : Handle) (n : Name) where
  pub bad_name : (e : Refusal) → named n ≡ Err e → create d f n (card_view g mem) m.shown ≡ Err e
  unfolding create
  bad_name e q = bind_err _ _ e q

  -- the child h of f, whose slot is r, is made
  abbrev made : Slot → Handle → Answer (Plan Handle)
  made r h = placed (sizes g) (shows g m) (card_view g mem) f r (cell n h) (open_place (sizes g) (shows g m) f r) >>= λ w.
      Ok (record { answer = h; puts = store_slot h.slot.0 (new_slot d f h.identity.0) ∷ w.0; card = keeps (card_view g mem) h.identity.0 (suc h.slot.0) w.1 })

  module _ (fine : named n ≡ Ok tt) where
    pub no_folder : (e : Refusal) → changing (sizes g) (shows g m) Folder f ≡ Err e → create d f n (card_view g mem) m.shown ≡ Err e
    unfolding create
    no_folder e q = bind_ok _ _ tt fine ∙ bind_ok _ _ (sizes g) refl ∙ bind_err _ _ e q

    module _ (s : SlotCopy) (slot : changing (sizes g) (shows g m) Folder f ≡ Ok (copied s)) where
      to_name : create d f n (card_view g mem) m.shown ≡ (untaken (sizes g) (found (sizes g) (shows g m) f (copied s) n) >>= λ u.
          demand (free_slot (sizes g) (shows g m) mem.next_slot) (NoFreeSlot g.slots) >>= λ t. check (ltb mem.highest.0 last_identity) IdentitiesSpent >>= λ u. made (copied s) (handle t (suc mem.highest.0)))
      unfolding create
      to_name = bind_ok _ _ tt fine ∙ bind_ok _ _ (sizes g) refl ∙ bind_ok _ _ (copied s) slot

      pub taken : (q : Place) (h : Handle) → found (sizes g) (shows g m) f (copied s) n ≡ Some q → h ≡ child_of (entry_of (sizes g) q.cell) → create d f n (card_view g mem) m.shown ≡ Err (NameTaken h.slot)
      unfolding untaken
      taken q h e is = to_name ∙ bind_err _ _ (NameTaken (child_of (entry_of (sizes g) q.cell)).slot) (ap (untaken (sizes g)) e) ∙ ap (λ (x : Handle). Err (NameTaken x.slot)) (sym is)

  module _ (ms : Marks) (s : SlotCopy) (w : Entering g m ms f s n) where
    to_child : create d f n (card_view g mem) m.shown ≡ (fresh g ms mem >>= made (copied s))
    unfolding untaken
    to_child =
        to_name w.name s w.slot ∙ bind_ok _ _ tt (ap (untaken (sizes g)) w.none)
        ∙ ap (λ (o : Option ℕ). demand o (NoFreeSlot g.slots) >>= λ t. check (ltb mem.highest.0 last_identity) IdentitiesSpent >>= λ u. made (copied s) (handle t (suc mem.highest.0))) (w.tells.slot_next mem.next_slot)
        ∙ sym (fresh_then (next_free_slot (sizes g) ms mem.next_slot) (ltb mem.highest.0 last_identity) (suc mem.highest.0) (NoFreeSlot g.slots) IdentitiesSpent (made (copied s)))

    pub no_child : (e : Refusal) → fresh g ms mem ≡ Err e → create d f n (card_view g mem) m.shown ≡ Err e
    no_child e q = to_child ∙ bind_err _ _ e q

  module _ (ms : Marks) (s : SlotCopy) (h : Handle) (e : Cell) (w : Creating g m ms mem f s n h e) where
    it_is_made : create d f n (card_view g mem) m.shown ≡ made (copied s) h
    it_is_made = to_child ms s w.entering ∙ bind_ok _ _ h w.child

    pub low_slot : h.slot.0 < 65535
    low_slot =
        let a = back_from.bind_ok _ _ h w.child in
        let b = back_from.bind_ok _ _ h a.2 in
        let same = ap (λ (x : Handle). x.slot.0) (back_from.ok_same b.2) in
        let free = w.entering.tells.slot_next mem.next_slot ∙ back_from.demand_ok _ _ a.0 a.1 in
        omega (arith, same, (slot_given (sizes g) (shows g m) mem.next_slot a.0 free).0.inside, few_slots g)

    -- on the blocks ws, with the body cursor b after
    finish : (ws : List Put) (b : ℕ) → placed (sizes g) (shows g m) (card_view g mem) f (copied s) (cell n h) (open_place (sizes g) (shows g m) f (copied s)) ≡ Ok (ws, b) →
        (own : Put) → own ≡ store_slot h.slot.0 (new_slot d f h.identity.0) → (zs : List Put) → ws ≡ zs → (kept : Memory) → kept ≡ kept_for h b → (p : CodePlan) → Planned (own ∷ zs) kept p →
        create d f n (card_view g mem) m.shown ≡ Ok (plan_view h g p)
    finish ws b q own eo zs ez kept ek p y =
        it_is_made ∙ bind_ok _ _ (ws, b) q
        ∙ ap Ok (plan_same g h (own ∷ zs) kept p y _ (ap (card_view g) (sym ek)) _ (ap (λ (t : List Put). store_slot h.slot.0 (new_slot d f h.identity.0) ∷ t) ez ∙ ap (λ (t : Put). t ∷ zs) (sym eo)))

    pub in_place : (q : Place) → open_place (sizes g) (shows g m) f (copied s) ≡ Some q → (own entry : Put) → own ≡ store_slot h.slot.0 (new_slot d f h.identity.0) → entry ≡ with_cell (shows g m) f (copied s) q e →
        (kept : Memory) → kept ≡ kept_for h mem.next_body → (p : CodePlan) → Planned (own ∷ entry ∷ []) kept p → CreatePlanned g m mem d f n (record { plan = p; change = record { child = h; gained = None } })
    unfolding placed
    in_place q o own entry eo ee kept ek p y = record {
      rule = finish (with_cell (shows g m) f (copied s) q (cell n h) ∷ []) mem.next_body (ap (placed (sizes g) (shows g m) (card_view g mem) f (copied s) (cell n h)) o)
          own eo (entry ∷ []) (ap (λ (x : Cell). with_cell (shows g m) f (copied s) q x ∷ []) (sym w.cell) ∙ ap (λ (t : Put). t ∷ []) (sym ee)) kept ek p y;
      folder = copied s;
      at = its_slot g m Folder f (copied s) w.entering.slot;
      body = sym (ap (body_taken (sizes g) (shows g m) (card_view g mem)) o);
      leaf = λ u none. clash_none none;
    }

    module _ (o : open_place (sizes g) (shows g m) f (copied s) ≡ None) where
      -- the checks of a new leaf
      on_leaf : placed (sizes g) (shows g m) (card_view g mem) f (copied s) (cell n h) (open_place (sizes g) (shows g m) f (copied s)) ≡ (check (ltb (count (copied s)) leaf_limit) (FolderFull f.slot) >>= λ u.
          demand (free_body (sizes g) (shows g m) mem.next_body) (NoFreeBody f.slot) >>= λ b.
          Ok (store b (folder_body (back f (count (copied s))) (cell n h ∷ replicate 14 blank_cell)) ∷ store_slot f.slot.0 (grown (copied s) b) ∷ [], suc b))
      unfolding placed
      on_leaf = ap (placed (sizes g) (shows g m) (card_view g mem) f (copied s) (cell n h)) o

      pub full : 64 ≤ count (copied s) → create d f n (card_view g mem) m.shown ≡ Err (FolderFull f.slot)
      full l = it_is_made ∙ bind_err _ _ _ (on_leaf ∙ bind_err _ _ _ (check_err (ltb (count (copied s)) leaf_limit) _ (le-ltb (count (copied s)) leaf_limit l)))

      module _ (few : count (copied s) < 64) (a : Option BlockNo) (is : option_map (λ (b : BlockNo). b.0) a ≡ next_free_body (sizes g) ms mem.next_body) where
        free : free_body (sizes g) (shows g m) mem.next_body ≡ option_map (λ (b : BlockNo). b.0) a
        free = w.entering.tells.body_next mem.next_body ∙ sym is

        room : (x : Answer (List Put × ℕ)) (r : Answer (List Put × ℕ)) → x ≡ (check (ltb (count (copied s)) leaf_limit) (FolderFull f.slot) >>= λ u. r) → x ≡ r
        room x r q = q ∙ bind_ok _ _ tt (check_ok (ltb (count (copied s)) leaf_limit) _ (lt-ltb (count (copied s)) leaf_limit few))

        pub no_body : a ≡ None → create d f n (card_view g mem) m.shown ≡ Err (NoFreeBody f.slot)
        no_body q = it_is_made ∙ bind_err _ _ _ (room _ _ on_leaf ∙ bind_err _ _ _ (demand_err (free_body (sizes g) (shows g m) mem.next_body) _ (free ∙ ap (option_map (λ (b : BlockNo). b.0)) q)))

        module _ (b : BlockNo) (q : a ≡ Some b) where
          got : free_body (sizes g) (shows g m) mem.next_body ≡ Some b.0
          got = free ∙ ap (option_map (λ (b : BlockNo). b.0)) q

          pub low_body : b.0 < 65535
          low_body = omega (arith, (body_given (sizes g) (shows g m) mem.next_body b.0 got).inside, few_blocks g)

          pub new_leaf : (k : LeafNo) → k.0 ≡ count (copied s) → (own entry owner : Put) → own ≡ store_slot h.slot.0 (new_slot d f h.identity.0) →
              entry ≡ store b.0 (folder_body (back f k.0) (e ∷ replicate 14 blank_cell)) → owner ≡ store_slot f.slot.0 (grown (copied s) b.0) →
              (kept : Memory) → kept ≡ kept_for h (suc b.0) → (p : CodePlan) → Planned (own ∷ entry ∷ owner ∷ []) kept p → CreatePlanned g m mem d f n (record { plan = p; change = record { child = h; gained = Some (record { block = b; leaf = k }) } })
          new_leaf k size own entry owner eo ee ew kept ek p y = record {
            rule = finish (store b.0 (folder_body (back f (count (copied s))) (cell n h ∷ replicate 14 blank_cell)) ∷ store_slot f.slot.0 (grown (copied s) b.0) ∷ []) (suc b.0)
                (room _ _ on_leaf ∙ bind_ok _ _ b.0 (demand_ok (free_body (sizes g) (shows g m) mem.next_body) _ b.0 got))
                own eo (entry ∷ owner ∷ [])
                (ap (λ (i : ℕ). store b.0 (folder_body (back f i) (cell n h ∷ replicate 14 blank_cell)) ∷ store_slot f.slot.0 (grown (copied s) b.0) ∷ []) (sym size)
                ∙ ap (λ (x : Cell). store b.0 (folder_body (back f k.0) (x ∷ replicate 14 blank_cell)) ∷ store_slot f.slot.0 (grown (copied s) b.0) ∷ []) (sym w.cell)
                ∙ ap (λ (t : Put). t ∷ store_slot f.slot.0 (grown (copied s) b.0) ∷ []) (sym ee) ∙ ap (λ (t : Put). entry ∷ t ∷ []) (sym ew))
                kept ek p y;
            folder = copied s;
            at = its_slot g m Folder f (copied s) w.entering.slot;
            body = sym (ap (body_taken (sizes g) (shows g m) (card_view g mem)) o ∙ got);
            leaf = λ u is_u. let v : k ≡ u.leaf = cc in ap (λ (x : LeafNo). x.0) (sym v) ∙ size;
          }
