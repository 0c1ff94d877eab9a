-- The checks of a changing call, one after another.
use Rattle.std.proofs.Common.{◌≡◌, suc, ◌<◌, ◌≤◌, true, false, List, Some, Ok, Err, Result, sym, ap, ◌∙◌, inl, arith}
use Rattle.std.proofs.lemmas.Bool.Decides.{nat_tests}
use Rattle.base.specs.declared.owner.Kind.{Kind}
use Rattle.base.specs.declared.owner.Handle.{Handle}
use Rattle.base.specs.declared.refusal.Refusal.{Refusal}
use Rattle.base.specs.declared.refusal.Refusal.TheVariants.{NoSuchHandle}
use Rattle.device.specs.Model.{Model}
use Rattle.layout.specs.Format.{Geometry, Slot}
use Rattle.layout.specs.Sizes.{sizes}
use Rattle.layout.specs.declared.geometry.Geometry.{Geometry as CardGeometry}
use Rattle.marks.specs.Laws.{Tells}
use Rattle.marks.specs.declared.mark.Marks.{Marks}
use Rattle.marks.proofs.Telling.{marks_tell}
use Rattle.rule.specs.Agree.{View, slot_at, count, reached}
use Rattle.rule.specs.Check.{Answer}
use Rattle.rule.specs.Reading.{fits, kind_is}
use Rattle.rule.specs.Changing.{changing}
use Rattle.rule.proofs.Formed.{slot_formed}
use Rattle.rule.proofs.Means.{fits_at}
use Rattle.rule.proofs.Plans.{changing_ok}
use Rattle.walk.specs.Still.{Still, Gives, shows}
use Rattle.walk.proofs.Stepping.{bind_ok, bind_err, check_ok, check_err}
use Rattle.device.specs.declared.put.Put.{Put}
use Rattle.rule.specs.Card.{Card, Plan}
use Rattle.change.specs.Plans.{Grounded, Decides, card_view, plan_view, puts_in, Planned}
use Rattle.change.specs.declared.plan.Memory.{Memory}
use Rattle.change.specs.declared.plan.Plan.{Plan as CodePlan}

module _ (g : Geometry) (v : View) (d : Kind) (h : Handle) where
  -- the handle does not fit; its slot is not reached; the kind is left to see
  pub no_fit : (e : Refusal) → fits g v h ≡ Err e → changing g v d h ≡ Err e
  unfolding changing
  no_fit e q = bind_err _ _ e q

  pub far : (r : Slot) → fits g v h ≡ Ok r → reached g v h.slot.0 ≡ false → changing g v d h ≡ Err (NoSuchHandle h.slot)
  unfolding changing
  far r q f = bind_ok _ _ r q ∙ bind_err _ _ _ (check_err (reached g v h.slot.0) _ f)

  pub near : (r : Slot) → fits g v h ≡ Ok r → reached g v h.slot.0 ≡ true → changing g v d h ≡ kind_is d h r
  unfolding changing
  near r q f = bind_ok _ _ r q ∙ bind_ok _ _ tt (check_ok (reached g v h.slot.0) _ f)

-- marks that agree with the blocks tell of them
pub tells_of : {g : CardGeometry} {m : Model} {ms : Marks} → Grounded g m ms → Tells (sizes g) (shows g m) ms
tells_of {g} {m} {ms} t = marks_tell (sizes g) (shows g m) ms t.rooted t.marked

-- a card has few slots and few blocks
pub few_slots : (g : CardGeometry) → g.slots ≤ 256
few_slots g = let h = g.ok in grind (arith, nat_tests)

pub few_blocks : (g : CardGeometry) → g.blocks ≤ 4096
few_blocks g = let h = g.ok in grind (arith, nat_tests)

-- what is known of the slot of a changing call
module _ (g : CardGeometry) (m : Model) (d : Kind) (h : Handle) (r : Slot) (e : changing (sizes g) (shows g m) d h ≡ Ok r) where
  pub its_slot : slot_at (sizes g) (shows g m) h.slot.0 ≡ Some r
  its_slot = fits_at (sizes g) (shows g m) h r (changing_ok (sizes g) (shows g m) d h r e).fits

  pub few_leaves : count r ≤ 64
  few_leaves = (slot_formed (sizes g) (suc h.slot.0) (m.shown (suc h.slot.0)) r (changing_ok (sizes g) (shows g m) d h r e).fits.holds).count

  pub low_slot : h.slot.0 < 65535
  low_slot = omega (arith, (changing_ok (sizes g) (shows g m) d h r e).fits.inside, few_slots g)

-- no more reads after these
pub gives_decided : {A B : Type 0} (g : CardGeometry) (r : Result A Refusal) (x : Answer B) (P : A → Type 0) (m n : Model) → Still m n → Decides r x P → Gives g r x P m n
gives_decided g (Ok a) x P m n s h = (s, h)
gives_decided g (Err e) x P m n s h = inl (s, h)

-- the rule's plan of these blocks is the code's
pub plan_same : {A : Type 0} (g : CardGeometry) (a : A) (ws : List Put) (mem : Memory) (p : CodePlan) → Planned ws mem p →
    (c : Card) → c ≡ card_view g mem → (zs : List Put) → zs ≡ ws → ◌≡◌ {A = Plan A} (record { answer = a; puts = zs; card = c }) (plan_view a g p)
plan_same g a ws mem p w c e zs q =
    ap (λ (z : List Put). record { answer = a; puts = z; card = c }) (q ∙ sym w.puts)
    ∙ ap (λ (x : Card). record { answer = a; puts = puts_in p; card = x }) (e ∙ ap (card_view g) (sym w.memory))
