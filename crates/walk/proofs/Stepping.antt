-- Handles and steps, one check after another.
use Rattle.std.proofs.Common.{◌≡◌, Bool, true, false, cond, ◌&&◌, eqb, Some, None, Ok, Err, Option, Result, sym, refl, ap, ◌∙◌, subst, inl, inr}
use Rattle.std.specs.Option.{option_map, ok_or}
use Rattle.std.proofs.lemmas.Bool.{eq-eqb, ne_eqb, eqb-true, and_parts}
use Rattle.base.specs.declared.owner.Kind.{Kind}
use denote.Enum.Bare.{sameb}
use Rattle.base.specs.contracts.owner.Kind.{the_type}
use Rattle.base.specs.declared.owner.Kind.TheVariants.{File, Folder}
use Rattle.base.specs.declared.owner.Handle.{Handle}
use Rattle.base.specs.declared.refusal.Refusal.{Refusal}
use Rattle.base.specs.declared.refusal.Refusal.TheVariants.{NoSuchHandle, WrongKind, NoSuchName}
use Rattle.device.specs.Model.{Model}
use Rattle.layout.specs.Format.{Geometry, Name, Slot, Entry}
use Rattle.layout.specs.declared.geometry.Geometry.{Geometry as CardGeometry}
use Rattle.rule.specs.Agree.{Shown, View, seen, found, same_kind, same_handle, slot_at}
use Rattle.rule.specs.Check.{Answer, ◌>>=◌, check, demand}
use Rattle.rule.specs.Reading.{fits, kind_is, reading, step, child_of}
use Rattle.rule.proofs.Steps.{given_some, cond_some}
use Rattle.walk.specs.Copies.{copied, child_slot}
use Rattle.walk.specs.Finding.{FirstIs}
use Rattle.layout.specs.Sizes.{sizes}
use Rattle.walk.specs.Still.{Still, Refused, Gives, shows}
use Rattle.walk.specs.Stepping.{stepped, entered, Enters}
use Rattle.walk.specs.declared.entry.Found.{Found}
use Rattle.walk.specs.declared.slot.SlotCopy.{SlotCopy}
use Rattle.walk.proofs.Stills.{still_then, failed_then}

pub bind_ok : {A B E : Type 0} (x : Result A E) (k : A → Result B E) (a : A) → x ≡ Ok a → (x >>= k) ≡ k a
unfolding ◌>>=◌
bind_ok x k a e = subst (λ (y : Result _ _). (y >>= k) ≡ k a) (sym e) refl

pub bind_err : {A B E : Type 0} (x : Result A E) (k : A → Result B E) (d : E) → x ≡ Err d → (x >>= k) ≡ Err d
unfolding ◌>>=◌
bind_err x k d e = subst (λ (y : Result _ _). (y >>= k) ≡ Err d) (sym e) refl

pub check_ok : (b : Bool) (r : Refusal) → b ≡ true → check b r ≡ Ok tt
unfolding check
check_ok b r e = ap (λ (x : Bool). check x r) e

pub check_err : (b : Bool) (r : Refusal) → b ≡ false → check b r ≡ Err r
unfolding check
check_err b r e = ap (λ (x : Bool). check x r) e

pub demand_ok : {A : Type 0} (o : Option A) (r : Refusal) (a : A) → o ≡ Some a → demand o r ≡ Ok a
unfolding demand
demand_ok o r a e = ap (λ (x : Option _). demand x r) e

pub demand_err : {A : Type 0} (o : Option A) (r : Refusal) → o ≡ None → demand o r ≡ Err r
unfolding demand
demand_err o r e = ap (λ (x : Option _). demand x r) e

module _ (g : Geometry) (v : View) (h : Handle) where
  fits_at : (r : Slot) → slot_at g v h.slot.0 ≡ Some r → fits g v h ≡ (check (eqb r.identity h.identity.0) (NoSuchHandle h.slot) >>= λ _. Ok r)
  unfolding fits
  fits_at r e = bind_ok _ _ r (demand_ok _ (NoSuchHandle h.slot) r e)

  pub fits_same : (r : Slot) → slot_at g v h.slot.0 ≡ Some r → r.identity ≡ h.identity.0 → fits g v h ≡ Ok r
  fits_same r e i = fits_at r e ∙ bind_ok _ _ tt (check_ok (eqb r.identity h.identity.0) _ (eq-eqb r.identity h.identity.0 i))

  module _ (o : Option SlotCopy) (at : option_map copied o ≡ slot_at g v h.slot.0) where
    pub fits_some : (s : SlotCopy) → o ≡ Some s → s.identity.0 ≡ h.identity.0 → fits g v h ≡ Ok (copied s)
    fits_some s e i = fits_same (copied s) (sym at ∙ ap (option_map copied) e) i

    pub fits_other : (s : SlotCopy) → o ≡ Some s → (s.identity.0 ≡ h.identity.0 → ⊥) → fits g v h ≡ Err (NoSuchHandle h.slot)
    fits_other s e i = fits_at (copied s) (sym at ∙ ap (option_map copied) e) ∙ bind_err _ _ _ (check_err (eqb s.identity.0 h.identity.0) _ (ne_eqb s.identity.0 h.identity.0 i))

    pub fits_none : o ≡ None → fits g v h ≡ Err (NoSuchHandle h.slot)
    unfolding fits
    fits_none e = bind_err _ _ _ (demand_err _ (NoSuchHandle h.slot) (sym at ∙ ap (option_map copied) e))

-- two kinds are compared as the rule compares them
pub kinds_same : (a b : Kind) → same_kind a b ≡ sameb the_type a b
kinds_same File File = refl
kinds_same File Folder = refl
kinds_same Folder File = refl
kinds_same Folder Folder = refl

pub kind_ok : (d : Kind) (h : Handle) (r : Slot) → same_kind r.kind d ≡ true → kind_is d h r ≡ Ok r
unfolding kind_is
kind_ok d h r e = bind_ok _ _ tt (check_ok (same_kind r.kind d) _ e)

pub kind_err : (d : Kind) (h : Handle) (r : Slot) → same_kind r.kind d ≡ false → kind_is d h r ≡ Err (WrongKind h.slot)
unfolding kind_is
kind_err d h r e = bind_err _ _ _ (check_err (same_kind r.kind d) _ e)

module _ (g : Geometry) (v : View) (d : Kind) (h : Handle) where
  pub reading_ok : (r : Slot) → fits g v h ≡ Ok r → reading g v d h ≡ kind_is d h r
  unfolding reading
  reading_ok r e = bind_ok _ _ r e

  pub reading_err : (e : Refusal) → fits g v h ≡ Err e → reading g v d h ≡ Err e
  unfolding reading
  reading_err e q = bind_err _ _ e q

-- the slot of a sound entry's child is the child's
pub child_fits : (g : Geometry) (v : View) (f c : Handle) (r : Slot) → child_slot g v f c ≡ Some r → fits g v c ≡ Ok r
child_fits g v f c r e =
    let w = given_some (slot_at g v c.slot.0) (λ s. cond (eqb s.identity c.identity.0 && same_handle s.parent f) (Some s) None) r e in
    let t = cond_some (eqb w.0.identity c.identity.0 && same_handle w.0.parent f) w.0 r w.2 in
    let i = (and_parts (eqb w.0.identity c.identity.0) (same_handle w.0.parent f) t.0).0 in
    fits_same g v c r (w.1 ∙ ap Some t.1) (ap (λ (s : Slot). s.identity) (sym t.1) ∙ eqb-true w.0.identity c.identity.0 i)

module _ (g : Geometry) (v : View) (f : Handle) (n : Name) where
  -- a step is: the handle fits, it is a folder's, the name is there
  pub step_ok : (r : Slot) → fits g v f ≡ Ok r → step g v f n ≡ entered g v f n r
  unfolding step reading
  step_ok r e = ap (λ (x : Answer Slot). (x >>= kind_is Folder f) >>= stepped g v f n) e ∙ ap (λ (x : Answer Slot). x >>= stepped g v f n) (bind_ok (Ok r) (kind_is Folder f) r refl)

  pub step_err : (e : Refusal) → fits g v f ≡ Err e → step g v f n ≡ Err e
  unfolding step
  step_err e q = bind_err _ _ e (reading_err g v Folder f e q)

  module _ (r : Slot) (k : kind_is Folder f r ≡ Ok r) where
    entered_some : (x : Found) → FirstIs g v f n (found g v f r n) (Some x) → Enters g v (entered g v f n r) x
    entered_some x w =
        let l = w.2.leads in
        record {
          child = bind_ok _ _ r k ∙ bind_ok _ _ w.0 (demand_ok (found g v f r n) _ w.0 w.1) ∙ ap (λ (z : Entry). Ok (child_of z)) l.here;
          slot = child_fits g v f x.child.handle (copied x.child.slot) l.child;
        }

    entered_none : FirstIs g v f n (found g v f r n) None → entered g v f n r ≡ Err (NoSuchName f.slot)
    entered_none w = bind_ok _ _ r k ∙ bind_err _ _ _ (demand_err (found g v f r n) _ w)

-- the step at what the search answered
pub enter_gives : (g : CardGeometry) (m n : Model) (f : Handle) (a : Name) (r : Slot) → kind_is Folder f r ≡ Ok r → Still m n → (o : Option Found) → FirstIs (sizes g) (shows g m) f a (found (sizes g) (shows g m) f r a) o →
    (x : Result Found Refusal) → x ≡ ok_or o (NoSuchName f.slot) → Gives g x (entered (sizes g) (shows g m) f a r) (Enters (sizes g) (shows g m) (entered (sizes g) (shows g m) f a r)) m n
enter_gives g m n f a r k s o w x e = subst (λ (z : Result _ _). Gives g z (entered (sizes g) (shows g m) f a r) (Enters (sizes g) (shows g m) (entered (sizes g) (shows g m) f a r)) m n) (sym e) (go o w)
  where
    go : (o : Option Found) → FirstIs (sizes g) (shows g m) f a (found (sizes g) (shows g m) f r a) o → Gives g (ok_or o (NoSuchName f.slot)) (entered (sizes g) (shows g m) f a r) (Enters (sizes g) (shows g m) (entered (sizes g) (shows g m) f a r)) m n
    go None w = inl (s, entered_none (sizes g) (shows g m) f a r k w)
    go (Some y) w = (s, entered_some (sizes g) (shows g m) f a r k y w)

-- the same, on what was shown before the folder's slot was read
module _ (g : Geometry) (was shown : Shown) (f : Handle) (n : Name) (r : Slot) (same : shown ≡ was) (fit : fits g (seen g was) f ≡ Ok r) where
  pub step_refused : (e : Refusal) → entered g (seen g shown) f n r ≡ Err e → step g (seen g was) f n ≡ Err e
  step_refused e q = step_ok g (seen g was) f n r fit ∙ subst (λ (s : Shown). entered g (seen g s) f n r ≡ Err e) same q

  pub step_enters : (a : Found) → Enters g (seen g shown) (entered g (seen g shown) f n r) a → Enters g (seen g was) (step g (seen g was) f n) a
  step_enters a q =
      subst (λ (x : Answer Handle). Enters g (seen g was) x a) (sym (step_ok g (seen g was) f n r fit))
      (subst (λ (s : Shown). Enters g (seen g s) (entered g (seen g s) f n r) a) same q)

-- one call after another
pub refused_as : {A B : Type 0} (g : CardGeometry) (m n : Model) (x : Answer A) (y : Answer B) (e : Refusal) → (x ≡ Err e → y ≡ Err e) → Refused g x m n e → Refused g y m n e
refused_as g m n x y e f (inl h) = inl (h.0, f h.1)
refused_as g m n x y e f (inr h) = inr h

pub gives_then : {A B C : Type 0} (g : CardGeometry) (m : Model) (r : Result C Refusal) (x : Answer A) (y : Answer B) (P Q : C → Type 0) (k n : Model) → Still m k → ((e : Refusal) → x ≡ Err e → y ≡ Err e) → ((a : C) → P a → Q a) → Gives g r x P k n → Gives g r y Q m n
gives_then g m (Ok a) x y P Q k n s f q h = (still_then m k n s h.0, q a h.1)
gives_then g m (Err e) x y P Q k n s f q (inl h) = inl (still_then m k n s h.0, f e h.1)
gives_then g m (Err e) x y P Q k n s f q (inr h) = inr (h.0, h.1, failed_then g m k n h.0 s h.2)

-- a refusal handed on
pub gives_exit : {B C : Type 0} (g : CardGeometry) (m n : Model) (r : Result C Refusal) (y : Answer B) (Q : C → Type 0) (d e : Refusal) → r ≡ Err d → d ≡ e → Refused g y m n e → Gives g r y Q m n
gives_exit g m n r y Q d e p q h = subst (λ (z : Result _ _). Gives g z y Q m n) (sym (p ∙ ap Err q)) h
