-- A shorten, check by check.
use Rattle.std.proofs.Common.{◌≡◌, ℕ, ◌<◌, ◌≤◌, Bool, cond, eqb, leb, List, [], ◌∷◌, Ok, Err, sym, refl, ap, ◌∙◌, arith}
use Rattle.std.proofs.lemmas.Bool.{le-leb, lt-leb, eq-eqb, ne_eqb}
use Rattle.base.specs.declared.owner.Kind.TheVariants.{File}
use Rattle.base.specs.declared.owner.Handle.{Handle}
use Rattle.base.specs.declared.refusal.Refusal.{Refusal}
use Rattle.base.specs.declared.refusal.Refusal.TheVariants.{NoSuchLeaf}
use Rattle.device.specs.Model.{Model}
use Rattle.device.specs.declared.put.Put.{Put}
use Rattle.layout.specs.Sizes.{sizes}
use Rattle.layout.specs.declared.geometry.Geometry.{Geometry as CardGeometry}
use Rattle.rule.specs.Agree.{count}
use Rattle.rule.specs.Check.{◌>>=◌, check}
use Rattle.rule.specs.Changing.{changing, shorten, cut_to, store_slot}
use Rattle.walk.specs.Copies.{copied}
use Rattle.walk.specs.Still.{shows}
use Rattle.walk.specs.declared.slot.SlotCopy.{SlotCopy}
use Rattle.walk.proofs.Stepping.{bind_ok, bind_err, check_ok, check_err}
use Rattle.change.specs.Plans.{card_view, Planned, ShortenPlanned}
use Rattle.change.specs.declared.plan.Memory.{Memory}
use Rattle.change.specs.declared.plan.Plan.{Plan as CodePlan}
use Rattle.change.proofs.Checks.{its_slot, plan_same}

module _ (g : CardGeometry) (m : Model) (mem : Memory) (h : Handle) (n : ℕ) where
  pub no_file : (e : Refusal) → changing (sizes g) (shows g m) File h ≡ Err e → shorten h n (card_view g mem) m.shown ≡ Err e
  unfolding shorten
  no_file e q = bind_ok _ _ (sizes g) refl ∙ bind_err _ _ e q

  module _ (s : SlotCopy) (q : changing (sizes g) (shows g m) File h ≡ Ok (copied s)) where
    -- the checks past the slot
    rest : shorten h n (card_view g mem) m.shown ≡ (check (leb n (count (copied s))) (NoSuchLeaf (record { 0 = n })) >>= λ u.
        Ok (record { answer = tt; puts = cond (eqb n (count (copied s))) [] (store_slot h.slot.0 (cut_to (copied s) n) ∷ []); card = card_view g mem }))
    unfolding shorten
    rest = bind_ok _ _ (sizes g) refl ∙ bind_ok _ _ (copied s) q

    pub past_count : count (copied s) < n → shorten h n (card_view g mem) m.shown ≡ Err (NoSuchLeaf (record { 0 = n }))
    past_count l = rest ∙ bind_err _ _ _ (check_err (leb n (count (copied s))) _ (lt-leb n (count (copied s)) l))

    accepted : n ≤ count (copied s) → (ws : List Put) → cond (eqb n (count (copied s))) [] (store_slot h.slot.0 (cut_to (copied s) n) ∷ []) ≡ ws →
        (p : CodePlan) → Planned ws mem p → ShortenPlanned g m mem h n (record { plan = p; change = record { handle = h; slot = s } })
    accepted l ws e p w = record {
      rule = rest ∙ bind_ok _ _ tt (check_ok (leb n (count (copied s))) _ (le-leb n (count (copied s)) l)) ∙ ap Ok (plan_same g tt ws mem p w (card_view g mem) refl _ e);
      file = refl;
      at = its_slot g m File h (copied s) q;
    }

    pub at_count : n ≡ count (copied s) → (p : CodePlan) → Planned [] mem p → ShortenPlanned g m mem h n (record { plan = p; change = record { handle = h; slot = s } })
    at_count e = accepted (omega arith) [] (ap (λ (b : Bool). cond b [] (store_slot h.slot.0 (cut_to (copied s) n) ∷ [])) (eq-eqb n (count (copied s)) e))

    pub below : n < count (copied s) → (w : Put) → w ≡ store_slot h.slot.0 (cut_to (copied s) n) → (p : CodePlan) → Planned (w ∷ []) mem p → ShortenPlanned g m mem h n (record { plan = p; change = record { handle = h; slot = s } })
    below l w e = accepted (omega arith) (w ∷ []) (ap (λ (b : Bool). cond b [] (store_slot h.slot.0 (cut_to (copied s) n) ∷ [])) (ne_eqb n (count (copied s)) (λ x. omega arith)) ∙ ap (λ (z : Put). z ∷ []) (sym e))
