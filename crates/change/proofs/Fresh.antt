-- The handle of a new child, check by check.
use Rattle.std.proofs.Common.{◌≡◌, ℕ, ◌+◌, ◌<◌, ◌≤◌, ltb, Some, None, Ok, Err, Option, sym, ap, ◌∙◌, add-one}
use Rattle.std.specs.Option.{option_map}
use Rattle.std.proofs.lemmas.Bool.{lt-ltb, le-ltb}
use Rattle.base.specs.declared.number.SlotNo.{SlotNo}
use Rattle.base.specs.declared.refusal.Refusal.TheVariants.{NoFreeSlot, IdentitiesSpent}
use Rattle.layout.specs.Format.{handle}
use Rattle.layout.specs.Sizes.{sizes}
use Rattle.layout.specs.declared.geometry.Geometry.{Geometry as CardGeometry}
use Rattle.marks.specs.Marks.{next_free_slot}
use Rattle.marks.specs.declared.mark.Marks.{Marks}
use Rattle.rule.specs.Changing.{last_identity}
use Rattle.walk.proofs.Stepping.{bind_ok, bind_err, check_ok, check_err, demand_ok, demand_err}
use Rattle.change.specs.Plans.{fresh}
use Rattle.change.specs.declared.plan.Memory.{Memory}

module _ (g : CardGeometry) (ms : Marks) (mem : Memory) (o : Option SlotNo) (is : option_map (λ (s : SlotNo). s.0) o ≡ next_free_slot (sizes g) ms mem.next_slot) where
  pub no_slot : o ≡ None → fresh g ms mem ≡ Err (NoFreeSlot g.slots)
  no_slot e = bind_err _ _ _ (demand_err (next_free_slot (sizes g) ms mem.next_slot) _ (sym is ∙ ap (option_map (λ (s : SlotNo). s.0)) e))

  module _ (s : SlotNo) (e : o ≡ Some s) where
    got : next_free_slot (sizes g) ms mem.next_slot ≡ Some s.0
    got = sym is ∙ ap (option_map (λ (s : SlotNo). s.0)) e

    pub spent : last_identity ≤ mem.highest.0 → fresh g ms mem ≡ Err IdentitiesSpent
    spent l = bind_ok _ _ s.0 (demand_ok (next_free_slot (sizes g) ms mem.next_slot) _ s.0 got) ∙ bind_err _ _ _ (check_err (ltb mem.highest.0 last_identity) _ (le-ltb mem.highest.0 last_identity l))

    pub handle_given : mem.highest.0 < last_identity → fresh g ms mem ≡ Ok (record { slot = s; identity = record { 0 = mem.highest.0 + 1 } })
    handle_given l =
        bind_ok _ _ s.0 (demand_ok (next_free_slot (sizes g) ms mem.next_slot) _ s.0 got) ∙ bind_ok _ _ tt (check_ok (ltb mem.highest.0 last_identity) _ (lt-ltb mem.highest.0 last_identity l))
        ∙ ap (λ (i : ℕ). Ok (handle s.0 i)) (sym (add-one mem.highest.0))
