-- One block more is examined.
use Rattle.std.proofs.Common.{◌≡◌, ℕ, suc, ◌-◌, ◌<◌, ◌≤◌, Bool, true, false, cond, eqb, ltb, ◌⊎◌, List, length, get_or, set, None, Option, sym, ap, ◌∙◌, subst, inl, inr, arith}
use Rattle.std.specs.Option.{option_map as mapped}
use Rattle.std.proofs.lemmas.Grind.{common_steps}
use Rattle.std.proofs.lemmas.List.{length-set}
use Rattle.std.proofs.lemmas.Bool.{cases_eq}
use Rattle.std.proofs.lemmas.Bool.Decides.{nat_tests}
use Rattle.base.specs.declared.owner.Kind.TheVariants.{Folder}
use Rattle.base.specs.declared.owner.Handle.{Handle}
use Rattle.base.specs.declared.owner.Back.{Back}
use Rattle.layout.specs.Format.{Name, Cell, Geometry, Slot, Content, folder_body, entry, back}
use Rattle.rule.specs.Agree.{View, slot_at, slot_in, number, some_is, cells_in}
use Rattle.rule.specs.Meaning.{Fits, Sound}
use Rattle.rule.proofs.Means.{fits_at, agrees_true, sound_listed}
use Rattle.survey.specs.declared.slots.KnownSlot.{KnownSlot}
use Rattle.survey.specs.declared.slots.Slots.{Slots}
use Rattle.survey.specs.declared.survey.Survey.{Survey}
use Rattle.survey.specs.Known.{slot_of, known_at, kept, is_linked, child_of, is_leaf, line_by, links, links_by}
use Rattle.survey.specs.Survey.{leaf_line, Linked, Sofar}
use Rattle.survey.proofs.Begins.{line_none, sound_among}
use Rattle.survey.proofs.Links.{Marked, mark_of, Grows, Via, links_was, links_has, nothing, folder, linking, by_grows}
use Rattle.survey.proofs.Leaves.{line_is, leaf_owned, owned_leaf}

-- a slot that is set, and any other
known_with : (ss : Slots) (i s : ℕ) (o : Option KnownSlot) → i < length ss.known → known_at (record { known = set ss.known i o }) s ≡ cond (eqb s i) o (known_at ss s)
known_with ss i s o l = grind (arith, nat_tests, common_steps)

module _ (g : Geometry) (v : View) (at : ℕ) (t : Survey) (sofar : Sofar g v at t) where
  -- what was not marked by now stands in this block
  still_linked : (f : Handle) (k p : ℕ) (n : Name) (c : Handle) (w : Sound g v f k p n c) → number w.slot k < suc at → Marked t.slots c.slot.0 ⊎ (number w.slot k ≡ at)
  still_linked f k p n c w l = elim (cases_eq (number w.slot k) at) [ inl e ↦ inr e | inr ne ↦ inl (sofar.all_linked f k p n c w (omega arith)) ]

  -- ---- a slot's block

  module _ (low : 0 < at) (inside : at ≤ g.slots) (small : at ≤ 256) (o : Option KnownSlot) (is : mapped slot_of o ≡ slot_in (v at)) (new : some_is o (λ k. k.linked) ≡ false) where
    abbrev with : Slots
    with = record { known = set t.slots.known (at - 1) o }

    with_is : (s : ℕ) → known_at with s ≡ cond (eqb s (at - 1)) o (known_at t.slots s)
    with_is s = known_with t.slots (at - 1) s o (let n = sofar.slot_count in omega arith)

    slot_known : Sofar g v (suc at) (record { slots = with; bodies = t.bodies })
    slot_known = record {
      apart = sofar.apart;
      slots = λ s. let k = ap (mapped slot_of) (with_is s) in let before = sofar.slots s in grind (arith, nat_tests);
      bodies = λ b. let before = sofar.bodies b in let outside = sofar.apart b in let none = line_none g v b in grind (arith, nat_tests);
      linked = λ s h. let k = ap mark_of (with_is s) in let before = sofar.linked s in grind (arith, nat_tests);
      -- no sound entry stands before the bodies
      all_linked = λ f k p n c w l. let a = sound_among g v sofar.apart f k p n c w in absurd (grind (arith, nat_tests));
      slot_count = length-set t.slots.known (at - 1) o ∙ sofar.slot_count;
      body_count = sofar.body_count;
    }

    pub slot_examined : (ss : Slots) → ss.known ≡ set t.slots.known (at - 1) o → Sofar g v (suc at) (record { slots = ss; bodies = t.bodies })
    slot_examined ss e = subst (λ (xs : List (Option KnownSlot)). Sofar g v (suc at) (record { slots = record { known = xs }; bodies = t.bodies })) (sym e) slot_known

  -- ---- a body's block

  module _ (above : g.slots < at) where
    all_known : (n s : ℕ) → g.slots < n → cond (ltb (suc s) n) (slot_at g v s) None ≡ slot_at g v s
    all_known n s l = grind (arith, nat_tests)

    -- every slot is known
    pub known : (s : ℕ) → kept t.slots s ≡ slot_at g v s
    known s = sofar.slots s ∙ all_known at s above

    -- a child whose slot agrees
    record Child (f c : Handle) : Type 0 where
      child : Slot
      fits : Fits g v c child
      parent : child.parent ≡ f

    child_true : (f c : Handle) (n : Name) → some_is (slot_at g v c.slot.0) (child_of f c) ≡ true → Child f c
    child_true f c n h =
        let w = agrees_true g v f (entry n c) h in
        let same : w.leads ≡ c = (let q = w.is in cc) in
        record { child = w.child; fits = subst (λ (x : Handle). Fits g v x w.child) same w.holds; parent = w.parent }

    -- the slots that the sound entries of this block lead to
    module _ (c : Back) (es : List Cell) (holds : v at ≡ folder_body c es) where
      linked_new : is_leaf t.slots Folder c at ≡ true → (s : ℕ) → Via g c.owner (slot_at g v) es s → Linked g v s
      linked_new h s via =
          let r = leaf_owned g v t.slots known at c h in
          let one = via.one in
          let child = child_true c.owner one.child one.name one.agreeing in
          record {
            folder = c.owner;
            leaf = c.leaf.0;
            place = via.place;
            name = one.name;
            child = one.child;
            sound = record {
              slot = r.slot;
              fits = r.fits;
              kind = r.kind;
              below = r.below;
              cells = es;
              body = ap v r.here ∙ holds;
              here = one.here;
              child = child.child;
              child_fits = child.fits;
              parent = child.parent;
            };
            is = one.is;
          }

    linked_more : (s : ℕ) → Marked (links_by g at (v at) t.slots) s → Linked g v s
    linked_more s h = elim (linking g at (v at) t.slots) [
      | nothing e ↦ sofar.linked s (ap (λ (xs : Slots). is_linked xs s) (sym e) ∙ h)
      | folder c es is leaf e ↦ elim (links_was g c.owner (slot_at g v) es t.slots known s (ap (λ (xs : Slots). is_linked xs s) (sym e) ∙ h)) [
        | inl old ↦ sofar.linked s old
        | inr via ↦ linked_new c es is leaf s via
      ]
    ]

    here_linked : (f : Handle) (k p : ℕ) (n : Name) (c : Handle) (w : Sound g v f k p n c) → number w.slot k ≡ at → Marked (links_by g at (v at) t.slots) c.slot.0
    here_linked f k p n c w here =
        ap (λ (x : Content). is_linked (links_by g at x t.slots) c.slot.0) holds
        ∙ ap (λ (b : Bool). is_linked (cond b (links g f w.cells t.slots) t.slots) c.slot.0)
        (owned_leaf g v t.slots known at f k w.slot w.fits w.kind w.below here)
        ∙ links_has g f (slot_at g v) w.cells t.slots known p n c inside w.here agreeing
      where
        holds : v at ≡ folder_body (back f k) w.cells
        holds = ap v (sym here) ∙ w.body

        inside : p < length w.cells
        inside = subst (λ (x : Content). p < length (cells_in x)) w.body (sound_listed g v f w.slot k p n c w.fits w).inside

        agreeing : some_is (slot_at g v c.slot.0) (child_of f c) ≡ true
        agreeing = let a = fits_at g v c w.child w.child_fits in let i = w.child_fits.same in let q = w.parent in grind (arith, nat_tests)

    line_more : at < 4096 → (line : Option Back) → line ≡ leaf_line g v at → (b : ℕ) → get_or (set t.bodies at line) b None ≡ cond (ltb b (suc at)) (leaf_line g v b) None
    line_more small line e b = let n = sofar.body_count in let before = sofar.bodies b in grind (arith, nat_tests, common_steps)

    grows : Grows t.slots (links_by g at (v at) t.slots)
    grows = by_grows g at (v at) t.slots

    pub body_examined : at < 4096 → (ss : Slots) (bs : List (Option Back)) (line : Option Back) → line ≡ line_by t.slots at (v at) →
        ss ≡ links_by g at (v at) t.slots → bs ≡ set t.bodies at line → Sofar g v (suc at) (record { slots = ss; bodies = bs })
    body_examined small ss bs line el es eb = record {
      apart = sofar.apart;
      slots = λ s. ap (λ (xs : Slots). kept xs s) es ∙ grows.kept s ∙ sofar.slots s ∙ all_known at s above ∙ sym (all_known (suc at) s (omega arith));
      bodies = λ b. ap (λ (xs : List (Option Back)). get_or xs b None) eb ∙ line_more small line (el ∙ line_is g v t.slots known at) b;
      linked = λ s h. linked_more s (ap (λ (xs : Slots). is_linked xs s) (sym es) ∙ h);
      all_linked = λ f k p n c w l. ap (λ (xs : Slots). is_linked xs c.slot.0) es ∙ elim (still_linked f k p n c w l) [
        | inl h ↦ grows.marks c.slot.0 h
        | inr here ↦ here_linked f k p n c w here
      ];
      slot_count = ap (λ (xs : Slots). length xs.known) es ∙ grows.long ∙ sofar.slot_count;
      body_count = ap length eb ∙ length-set t.bodies at line ∙ sofar.body_count;
    }
