-- The rule's two lists do not refuse with power gone, and hand on the refusal of a card that is not ready.
use Rattle.std.proofs.Common.{◌≡◌, ℕ, Bool, true, false, eqb, Some, None, Ok, Err, Option, sym, refl, ◌∙◌, subst, arith}
use Rattle.base.specs.Refusals.{number_of}
use Rattle.base.specs.declared.owner.Kind.{Kind}
use Rattle.base.specs.declared.owner.Kind.TheVariants.{Folder}
use Rattle.base.specs.declared.owner.Handle.{Handle}
use Rattle.base.specs.declared.refusal.Refusal.{Refusal}
use Rattle.base.specs.declared.refusal.Refusal.TheVariants.{NoSuchHandle, WrongKind}
use Rattle.layout.specs.Format.{Geometry}
use Rattle.rule.specs.Agree.{Shown, View, seen, those, reached, slots_of, slot_at, same_kind}
use Rattle.rule.specs.Check.{Answer, ◌>>=◌, check, demand}
use Rattle.rule.specs.Reading.{fits, kind_is, reading, list, damage, bad_leaves}

no_answer : {A B E : Type 0} {a : A} {e : E} → Ok a ≡ Err e → B
no_answer q = let z : ◌≡◌ {A = ℕ} 0 1 = cc in absurd (omega arith)

-- not power gone
abbrev pub Spared : Refusal → Type 0
Spared e = eqb (number_of e) 1 ≡ false

-- what a chain of checks refuses with is not power gone
bind_spared : {A B : Type 0} (x : Answer A) (k : A → Answer B) → ((d : Refusal) → x ≡ Err d → Spared d) → ((a : A) (d : Refusal) → k a ≡ Err d → Spared d) → (e : Refusal) → (x >>= k) ≡ Err e → Spared e
unfolding ◌>>=◌
bind_spared (Ok a) k p q e h = q a e h
bind_spared (Err d) k p q e h = let same : d ≡ e = cc in subst Spared same (p d refl)

check_spared : (b : Bool) (r : Refusal) → Spared r → (e : Refusal) → check b r ≡ Err e → Spared e
unfolding check
check_spared true r s e h = no_answer h
check_spared false r s e h = let same : r ≡ e = cc in subst Spared same s

demand_spared : {A : Type 0} (o : Option A) (r : Refusal) → Spared r → (e : Refusal) → demand o r ≡ Err e → Spared e
unfolding demand
demand_spared (Some a) r s e h = no_answer h
demand_spared None r s e h = let same : r ≡ e = cc in subst Spared same s

reading_spared : (g : Geometry) (v : View) (d : Kind) (h : Handle) (e : Refusal) → reading g v d h ≡ Err e → Spared e
unfolding reading fits kind_is
reading_spared g v d h =
    bind_spared (fits g v h) (kind_is d h)
    (bind_spared (demand (slot_at g v h.slot.0) (NoSuchHandle h.slot)) _ (demand_spared (slot_at g v h.slot.0) (NoSuchHandle h.slot) refl)
    (λ r. bind_spared (check (eqb r.identity h.identity.0) (NoSuchHandle h.slot)) _ (check_spared (eqb r.identity h.identity.0) (NoSuchHandle h.slot) refl) (λ a e q. no_answer q)))
    (λ r. bind_spared (check (same_kind r.kind d) (WrongKind h.slot)) _ (check_spared (same_kind r.kind d) (WrongKind h.slot) refl) (λ a e q. no_answer q))

module _ (g : Geometry) (shown : Shown) (f : Handle) where
  pub list_spared : (e : Refusal) → list f (Ok g) shown ≡ Err e → Spared e
  unfolding list ◌>>=◌
  list_spared e h = bind_spared (reading g (seen g shown) Folder f) _ (reading_spared g (seen g shown) Folder f) (λ a d q. no_answer q) e h

pub damage_ok : (g : Geometry) (shown : Shown) → damage (Ok g) shown ≡ Ok (bad_leaves g (seen g shown) (those (reached g (seen g shown)) (slots_of g)))
unfolding damage ◌>>=◌
damage_ok g shown = refl

pub damage_spared : (g : Geometry) (shown : Shown) (e : Refusal) → damage (Ok g) shown ≡ Err e → Spared e
damage_spared g shown e h = no_answer (sym (damage_ok g shown) ∙ h)

pub list_unready : (f : Handle) (e : Refusal) (shown : Shown) → list f (Err e) shown ≡ Err e
unfolding list ◌>>=◌
list_unready f e shown = refl

pub damage_unready : (e : Refusal) (shown : Shown) → damage (Err e) shown ≡ Err e
unfolding damage ◌>>=◌
damage_unready e shown = refl
