-- A write, check by check.
use Rattle.std.proofs.Common.{◌≡◌, ℕ, suc, ◌<◌, ◌≤◌, Bool, true, false, ◌&&◌, ltb, leb, List, [], ◌∷◌, length, Some, None, Ok, Err, Option, sym, refl, ap, ◌∙◌, subst, arith}
use Rattle.std.specs.Option.{option_map}
use Rattle.std.proofs.lemmas.Bool.{le-leb, lt-leb, lt-ltb, le-ltb, and_from, and_left, and_right, cond-true, cond-false}
use Rattle.base.specs.declared.number.BlockNo.{BlockNo}
use Rattle.base.specs.declared.number.LeafNo.{LeafNo}
use Rattle.base.specs.declared.owner.Kind.TheVariants.{File}
use Rattle.base.specs.declared.owner.Handle.{Handle}
use Rattle.base.specs.declared.refusal.Refusal.{Refusal}
use Rattle.base.specs.declared.refusal.Refusal.TheVariants.{NoSuchLeaf, LeafNotGood, NoFreeBody, BadLength}
use Rattle.device.specs.Model.{Model}
use Rattle.device.specs.declared.put.Put.{Put}
use Rattle.layout.specs.Format.{back, file_body, leaf_limit}
use Rattle.layout.specs.Sizes.{sizes}
use Rattle.layout.specs.declared.geometry.Geometry.{Geometry as CardGeometry}
use Rattle.marks.specs.Marks.{is_leaf, next_free_body}
use Rattle.marks.specs.declared.mark.Marks.{Marks}
use Rattle.rule.specs.Agree.{count, number, good, free_body}
use Rattle.rule.specs.Card.{block}
use Rattle.rule.specs.Check.{◌>>=◌, check}
use Rattle.rule.specs.Changing.{changing, write, below_count, replaces, appends, grown, store, store_slot}
use Rattle.rule.proofs.Free.{body_given}
use Rattle.rule.proofs.Plans.{changing_ok}
use Rattle.rule.proofs.Steps.{clash_none}
use Rattle.walk.specs.Copies.{copied}
use Rattle.walk.specs.Still.{shows}
use Rattle.walk.specs.declared.slot.SlotCopy.{SlotCopy}
use Rattle.walk.proofs.Stepping.{bind_ok, bind_err, check_ok, check_err, demand_ok, demand_err}
use Rattle.change.specs.Plans.{card_view, plan_view, Planned, Writing, WritePlanned}
use Rattle.change.specs.declared.plan.Memory.{Memory}
use Rattle.change.specs.declared.plan.Plan.{Plan as CodePlan}
use Rattle.change.proofs.Checks.{its_slot, plan_same, few_blocks}

module _ (g : CardGeometry) (m : Model) (mem : Memory) (h : Handle) (k : ℕ) (x : List ℕ) where
  pub too_long : 496 < length x → write h k x (card_view g mem) m.shown ≡ Err (BadLength (length x))
  unfolding write
  too_long l = bind_err _ _ _ (check_err (leb (length x) 496) _ (lt-leb (length x) 496 l))

  to_slot : length x ≤ 496 → write h k x (card_view g mem) m.shown ≡ (changing (sizes g) (shows g m) File h >>= λ r.
      check (leb k (count r) && ltb k leaf_limit) (NoSuchLeaf (record { 0 = k })) >>= λ u. below_count (ltb k (count r)) (sizes g) (shows g m) (card_view g mem) h r k x)
  unfolding write
  to_slot l = bind_ok _ _ tt (check_ok (leb (length x) 496) _ (le-leb (length x) 496 l)) ∙ bind_ok _ _ (sizes g) refl

  pub no_file : length x ≤ 496 → (e : Refusal) → changing (sizes g) (shows g m) File h ≡ Err e → write h k x (card_view g mem) m.shown ≡ Err e
  no_file l e q = to_slot l ∙ bind_err _ _ e q

  module _ (ms : Marks) (s : SlotCopy) (w : Writing g m ms h s x) where
    to_leaf : write h k x (card_view g mem) m.shown ≡ (check (leb k (count (copied s)) && ltb k leaf_limit) (NoSuchLeaf (record { 0 = k })) >>= λ u. below_count (ltb k (count (copied s))) (sizes g) (shows g m) (card_view g mem) h (copied s) k x)
    to_leaf = to_slot w.short ∙ bind_ok _ _ (copied s) w.slot

    pub past_count : count (copied s) < k → write h k x (card_view g mem) m.shown ≡ Err (NoSuchLeaf (record { 0 = k }))
    past_count l = to_leaf ∙ bind_err _ _ _ (check_err (leb k (count (copied s)) && ltb k leaf_limit) _ (and_left (leb k (count (copied s))) (ltb k leaf_limit) (lt-leb k (count (copied s)) l)))

    pub past_limit : 64 ≤ k → write h k x (card_view g mem) m.shown ≡ Err (NoSuchLeaf (record { 0 = k }))
    past_limit l = to_leaf ∙ bind_err _ _ _ (check_err (leb k (count (copied s)) && ltb k leaf_limit) _ (and_right (leb k (count (copied s))) (ltb k leaf_limit) (le-ltb k leaf_limit l)))

    -- the leaf is one that may be written
    to_body : k ≤ count (copied s) → k < 64 → (b : Bool) → ltb k (count (copied s)) ≡ b → write h k x (card_view g mem) m.shown ≡ below_count b (sizes g) (shows g m) (card_view g mem) h (copied s) k x
    to_body l few b e =
        to_leaf ∙ bind_ok _ _ tt (check_ok (leb k (count (copied s)) && ltb k leaf_limit) _ (and_from (leb k (count (copied s))) (ltb k leaf_limit) (le-leb k (count (copied s)) l) (lt-ltb k leaf_limit few)))
        ∙ ap (λ (t : Bool). below_count t (sizes g) (shows g m) (card_view g mem) h (copied s) k x) e

    module _ (l : k < count (copied s)) (few : k < 64) where
      is_good : good (shows g m) h (copied s) k ≡ is_leaf ms (number (copied s) k) (back h k)
      is_good =
          let c = changing_ok (sizes g) (shows g m) File h (copied s) w.slot in
          w.tells.leaf_is h (copied s) k c.fits c.reached l

      replaced : write h k x (card_view g mem) m.shown ≡ replaces (shows g m) (card_view g mem) h (copied s) k x
      replaced = to_body (omega arith) few true (lt-ltb k (count (copied s)) l)

      pub not_good : (b : BlockNo) → b.0 ≡ number (copied s) k → is_leaf ms b.0 (back h k) ≡ false → write h k x (card_view g mem) m.shown ≡ Err (LeafNotGood b)
      unfolding replaces
      not_good b e f =
          let bad : good (shows g m) h (copied s) k ≡ false = is_good ∙ subst (λ (i : ℕ). is_leaf ms i (back h k) ≡ false) e f in
          replaced ∙ bind_err _ _ _ (check_err (good (shows g m) h (copied s) k) _ bad) ∙ ap (λ (i : ℕ). Err (LeafNotGood (block i))) (sym e)

      pub in_place : (b : BlockNo) → b.0 ≡ number (copied s) k → is_leaf ms b.0 (back h k) ≡ true → (z : Put) → z ≡ store b.0 (file_body (back h k) x) → (p : CodePlan) → Planned (z ∷ []) mem p → WritePlanned g m mem h k x (record { plan = p; change = None })
      unfolding replaces
      in_place b e f z q p y = record {
        rule = replaced ∙ fine;
        slot = copied s;
        at = its_slot g m File h (copied s) w.slot;
        body = sym (cond-true (ltb k (count (copied s))) None (free_body (sizes g) (shows g m) mem.next_body) (lt-ltb k (count (copied s)) l));
        leaf = λ u none. clash_none none;
      }
        where
          well : good (shows g m) h (copied s) k ≡ true
          well = is_good ∙ subst (λ (i : ℕ). is_leaf ms i (back h k) ≡ true) e f

          fine : replaces (shows g m) (card_view g mem) h (copied s) k x ≡ Ok (plan_view tt g p)
          fine = bind_ok _ _ tt (check_ok (good (shows g m) h (copied s) k) _ well) ∙ ap Ok (plan_same g tt (z ∷ []) mem p y (card_view g mem) refl _ (ap (λ (i : ℕ). store i (file_body (back h k) x) ∷ []) (sym e) ∙ ap (λ (t : Put). t ∷ []) (sym q)))

-- the memory with another body cursor
abbrev pub kept_at : Memory → ℕ → Memory
kept_at mem b = record { highest = mem.highest; next_slot = mem.next_slot; next_body = b }

module _ (g : CardGeometry) (m : Model) (mem : Memory) (h : Handle) (x : List ℕ) (ms : Marks) (s : SlotCopy) (w : Writing g m ms h s x) (few : count (copied s) < 64) where
  appended : write h (count (copied s)) x (card_view g mem) m.shown ≡ appends (sizes g) (shows g m) (card_view g mem) h (copied s) x
  appended = to_body g m mem h (count (copied s)) x ms s w (omega arith) few false (le-ltb (count (copied s)) (count (copied s)) (omega arith))

  module _ (o : Option BlockNo) (is : option_map (λ (b : BlockNo). b.0) o ≡ next_free_body (sizes g) ms mem.next_body) where
    free : free_body (sizes g) (shows g m) mem.next_body ≡ option_map (λ (b : BlockNo). b.0) o
    free = w.tells.body_next mem.next_body ∙ sym is

    pub no_body : o ≡ None → write h (count (copied s)) x (card_view g mem) m.shown ≡ Err (NoFreeBody h.slot)
    unfolding appends
    no_body e = appended ∙ bind_err _ _ _ (demand_err (free_body (sizes g) (shows g m) mem.next_body) _ (free ∙ ap (option_map (λ (b : BlockNo). b.0)) e))

    module _ (b : BlockNo) (e : o ≡ Some b) where
      taken : free_body (sizes g) (shows g m) mem.next_body ≡ Some b.0
      taken = free ∙ ap (option_map (λ (b : BlockNo). b.0)) e

      pub low_body : b.0 < 65535
      low_body = omega (arith, (body_given (sizes g) (shows g m) mem.next_body b.0 taken).inside, few_blocks g)

      pub at_end : (c : LeafNo) → c.0 ≡ count (copied s) → (z y : Put) → z ≡ store b.0 (file_body (back h (count (copied s))) x) → y ≡ store_slot h.slot.0 (grown (copied s) b.0) →
          (kept : Memory) → kept ≡ kept_at mem (suc b.0) →
          (p : CodePlan) → Planned (z ∷ y ∷ []) kept p → WritePlanned g m mem h (count (copied s)) x (record { plan = p; change = Some (record { block = b; leaf = c }) })
      unfolding appends
      at_end c size z y ez ey kept ek p d = record {
        rule = appended ∙ fine;
        slot = copied s;
        at = its_slot g m File h (copied s) w.slot;
        body = sym (cond-false (ltb (count (copied s)) (count (copied s))) None (free_body (sizes g) (shows g m) mem.next_body) (le-ltb (count (copied s)) (count (copied s)) (omega arith)) ∙ taken);
        leaf = λ u is_u. let v : c ≡ u.leaf = cc in ap (λ (x : LeafNo). x.0) (sym v) ∙ size;
      }
        where
          fine : appends (sizes g) (shows g m) (card_view g mem) h (copied s) x ≡ Ok (plan_view tt g p)
          fine = bind_ok _ _ b.0 (demand_ok (free_body (sizes g) (shows g m) mem.next_body) _ b.0 taken)
              ∙ ap Ok (plan_same g tt (z ∷ y ∷ []) kept p d _ (ap (card_view g) (sym ek)) _ (ap (λ (t : Put). t ∷ store_slot h.slot.0 (grown (copied s) b.0) ∷ []) (sym ez) ∙ ap (λ (t : Put). z ∷ t ∷ []) (sym ey)))
