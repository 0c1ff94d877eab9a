-- A reading call of a card, by what the walk answers.
use Rattle.std.proofs.Common.{◌≡◌, ℕ, cond, eqb, Ok, Err, sym, refl, ap, ◌∙◌, subst, inl, inr, arith}
use Rattle.std.proofs.lemmas.Bool.{cond-false, ne_eqb}
use Rattle.base.specs.Refusals.{number_of}
use Rattle.base.specs.declared.owner.Handle.{Handle}
use Rattle.base.specs.declared.refusal.Refusal.{Refusal}
use Rattle.base.specs.declared.refusal.Refusal.TheVariants.{PowerGone}
use Rattle.device.specs.Answers.{refusal_of}
use Rattle.device.specs.Model.{Model}
use Rattle.device.specs.declared.fault.Fault.{Fault}
use Rattle.device.specs.declared.fault.Fault.TheVariants.{PowerGone as Gone, NoSuchBlock}
use Rattle.layout.specs.Format.{Geometry, Name, Slot}
use Rattle.layout.specs.Sizes.{sizes}
use Rattle.layout.proofs.Numbers.{length_numbers}
use Rattle.layout.specs.declared.geometry.Geometry.{Geometry as CardGeometry}
use Rattle.rule.specs.Agree.{Shown, seen, count}
use Rattle.rule.specs.Card.{Ready, opening, surveyed}
use Rattle.rule.specs.Card.{opened as rule_opened}
use Rattle.rule.specs.Check.{Answer}
use Rattle.rule.specs.Reading.{named, step, find, fits, status}
use Rattle.walk.specs.Copies.{copied}
use Rattle.walk.specs.Still.{Failed, Gives}
use Rattle.walk.specs.declared.slot.SlotCopy.{SlotCopy}
use Rattle.walk.proofs.Stills.{still}
use Rattle.walk.proofs.Stepping.{bind_ok, bind_err}
use Rattle.card_lists.specs.Ready.{Kept, ready_view, Fitting}
use Rattle.card.specs.Calls.{CoreReads, kept_by}
use Rattle.card.specs.Progress.{so_far}
use Rattle.card.specs.Valid.{Sees, Seen}
use Rattle.card.specs.declared.progress.Progress.{Progress}
use Rattle.card.proofs.Progresses.{learned_moved}
use Rattle.card.proofs.Quiet.{Quiet}

-- what the walk's answer a is made to
abbrev pub mapped : {A C : Type 0} → (A → C) → Answer A → Answer C
mapped f (Ok a) = Ok (f a)
mapped f (Err e) = Err e

module _ {D A B C : Type 0} (model : D → Model) (rule : Ready → Shown → Answer C) (f : A → C) {g : CardGeometry} {x : Answer B} {P : A → Type 0} {c : Kept} {m : Model} {z : D} {y : Answer A} where
  -- an answer of the walk, as `keep` hands it on: the card has b and the device w then
  pub core_kept : Gives g y x P m (model z) → c ≡ Ok g → Fitting c m → Quiet x → ((a : A) → P a → rule (ready_view c) m.shown ≡ Ok (f a)) → ((e : Refusal) → x ≡ Err e → rule (ready_view c) m.shown ≡ Err e) →
      {o : Answer A} {r : Answer C} {b : Kept} {w : D} → (o ≡ y) × (w ≡ z) × (b ≡ kept_by y c) → r ≡ mapped f o → CoreReads PowerGone rule c m r b (model w)
  core_kept q good fit quiet told refused {o} {r} {b} {w} h p =
      subst (λ (i : Answer C). CoreReads PowerGone rule c m i b (model w)) (sym (p ∙ ap (mapped f) h.0))
      (subst (λ (i : D). CoreReads PowerGone rule c m (mapped f y) b (model i)) (sym h.1) (subst (λ (i : Kept). CoreReads PowerGone rule c m (mapped f y) i (model z)) (sym h.2) (go y q)))
    where
      fault : (e : Refusal) (i : Fault) → e ≡ refusal_of i → Failed g m (model z) i → CoreReads PowerGone rule c m (Err e) (kept_by {A = A} (Err e) c) (model z)
      fault e (Gone i) is h = inr (i, g, good, ap Err is, h, ap (λ (j : Refusal). cond (eqb (number_of j) 1) (Err j) c) is)
      fault e (NoSuchBlock i) is h = let l = subst (λ (j : Kept). Fitting j m) good fit in absurd (omega (arith, l, h.1))

      go : (y : Answer A) → Gives g y x P m (model z) → CoreReads PowerGone rule c m (mapped f y) (kept_by y c) (model z)
      go (Ok a) h = inl (h.0, sym (told a h.1), refl)
      go (Err e) (inl h) = inl (h.0, sym (refused e h.1), cond-false (eqb (number_of e) 1) (Err e) c (ne_eqb (number_of e) 1 (quiet e h.1)))
      go (Err e) (inr h) = fault e h.0 h.1 h.2

-- refused before the device was called
pub core_exit : {A : Type 0} (rule : Ready → Shown → Answer A) (c : Kept) (m : Model) (r : Answer A) (d e : Refusal) → r ≡ Err d → d ≡ e → rule (ready_view c) m.shown ≡ Err e → CoreReads PowerGone rule c m r c m
core_exit rule c m r d e p q h = inl (still m, p ∙ ap Err q ∙ sym h, refl)

-- ---- find

module _ (f : Handle) (n : Name) (shown : Shown) where
  pub find_bad : (x : Ready) (e : Refusal) → named n ≡ Err e → find f n x shown ≡ Err e
  unfolding find
  find_bad x e h = bind_err _ _ e h

  pub find_unready : (x : Ready) (e : Refusal) → named n ≡ Ok tt → x ≡ Err e → find f n x shown ≡ Err e
  unfolding find
  find_unready x e h r = bind_ok _ _ tt h ∙ bind_err _ _ e r

  pub find_ready : (x : Ready) (g : Geometry) → named n ≡ Ok tt → x ≡ Ok g → find f n x shown ≡ step g (seen g shown) f n
  unfolding find
  find_ready x g h r = bind_ok _ _ tt h ∙ bind_ok _ _ g r

-- ---- status

module _ (h : Handle) (shown : Shown) where
  pub status_unready : (x : Ready) (e : Refusal) → x ≡ Err e → status h x shown ≡ Err e
  unfolding status
  status_unready x e r = bind_err _ _ e r

  pub status_refused : (x : Ready) (g : Geometry) (e : Refusal) → x ≡ Ok g → fits g (seen g shown) h ≡ Err e → status h x shown ≡ Err e
  unfolding status
  status_refused x g e r q = bind_ok _ _ g r ∙ bind_err _ _ e q

  pub status_of : (x : Ready) (g : Geometry) (s : Slot) → x ≡ Ok g → fits g (seen g shown) h ≡ Ok s → status h x shown ≡ Ok (record { kind = s.kind; count = count s; parent = s.parent })
  unfolding status
  status_of x g s r q = bind_ok _ _ g r ∙ bind_ok _ _ s q

  pub status_told : (x : Ready) (g : Geometry) (s : SlotCopy) → x ≡ Ok g → fits g (seen g shown) h ≡ Ok (copied s) → status h x shown ≡ Ok (record { kind = s.kind; count = s.count; parent = s.parent })
  status_told x g s r q = status_of x g (copied s) r q ∙ ap (λ (n : ℕ). Ok (record { kind = s.kind; count = n; parent = s.parent })) (length_numbers s.count s.numbers)

-- ---- what an opened card has learned stays true

pub still_sees : (g : CardGeometry) (p : Progress) (m k : Model) → k.count ≡ m.count → k.shown ≡ m.shown → Sees g p m → Sees g p k
still_sees g p m k count shown w = record {
  fits = omega (arith, count, w.fits);
  opens = ap (λ (n : ℕ). opening n k.shown) count ∙ ap (opening m.count) shown ∙ w.opens;
  learned = learned_moved g m k p shown w.learned;
  agrees = ap (surveyed (so_far (Ok (sizes g)) p)) shown ∙ w.agrees ∙ sym (ap (λ (n : ℕ). surveyed (rule_opened n k.shown) k.shown) count ∙ ap (λ (f : Shown). surveyed (rule_opened m.count f) f) shown);
}

pub gone_seen : (d : Kept) (e : Refusal) (p : Progress) (m : Model) → d ≡ Err e → Seen d p m
gone_seen d e p m q = subst (λ (z : Kept). Seen z p m) (sym q) tt
