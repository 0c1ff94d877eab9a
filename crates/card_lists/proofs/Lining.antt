-- The rule's lists, and what becomes of the caller's lines.
use Rattle.std.proofs.Common.{◌≡◌, ℕ, Bool, true, false, cond, eqb, ◌⊎◌, List, [], ◌∷◌, length, get_or, replicate, Ok, Err, Result, sym, refl, ap, ◌∙◌, subst, inl, inr, arith}
use Rattle.std.proofs.lemmas.Bool.{cond-true, cond-false}
use Rattle.base.specs.Refusals.{number_of}
use Rattle.base.specs.declared.owner.Kind.TheVariants.{Folder}
use Rattle.base.specs.declared.owner.Handle.{Handle}
use Rattle.base.specs.declared.refusal.Refusal.{Refusal}
use Rattle.device.specs.Model.{Model}
use Rattle.device.specs.Answers.{refusal_of, power_gone}
use Rattle.device.specs.declared.fault.Fault.{Fault}
use Rattle.device.specs.declared.fault.Fault.TheVariants.{PowerGone, NoSuchBlock}
use Rattle.layout.specs.Format.{Geometry, Slot}
use Rattle.layout.specs.Sizes.{sizes}
use Rattle.layout.specs.declared.geometry.Geometry.{Geometry as CardGeometry}
use Rattle.rule.specs.Agree.{Shown, seen, those, places, reached, slots_of}
use Rattle.rule.specs.Card.{Ready}
use Rattle.rule.specs.Check.{Answer, ◌>>=◌}
use Rattle.rule.specs.Reading.{reading, list, damage, bad_leaves}
use Rattle.rule.proofs.Steps.{clash}
use Rattle.walk.specs.Still.{Refused, Failed}
use Rattle.walk.proofs.Stills.{still}
use Rattle.tours.specs.Lists.{entry_lines}
use Rattle.tours.specs.Marks.{MarksReached}
use Rattle.card_lists.specs.Lined.{gone, Filled, Left, Met, Fills, Lined}
use Rattle.tours.proofs.Spared.{Spared, damage_ok}
use Rattle.card_lists.specs.Ready.{Kept, ready_view, Fitting, kept_after, Listing}

module _ (g : Geometry) (shown : Shown) (f : Handle) where
  pub list_ok : (r : Slot) → reading g (seen g shown) Folder f ≡ Ok r → list f (Ok g) shown ≡ Ok (entry_lines g (seen g shown) f (places (seen g shown) f r))
  unfolding list ◌>>=◌
  list_ok r e = ap (λ (x : Answer Slot). x >>= λ r. Ok (entry_lines g (seen g shown) f (places (seen g shown) f r))) e

  pub list_err : (e : Refusal) → reading g (seen g shown) Folder f ≡ Err e → list f (Ok g) shown ≡ Err e
  unfolding list ◌>>=◌
  list_err e q = ap (λ (x : Answer Slot). x >>= λ r. Ok (entry_lines g (seen g shown) f (places (seen g shown) f r))) q

those_same : {A : Type 0} (p q : A → Bool) → ((a : A) → p a ≡ q a) → (xs : List A) → those p xs ≡ those q xs
those_same p q e [] = refl
those_same p q e (x ∷ xs) = go (p x) (q x) (e x) (those_same p q e xs)
  where
    go : (a b : Bool) → a ≡ b → those p xs ≡ those q xs → cond a (x ∷ those p xs) (those p xs) ≡ cond b (x ∷ those q xs) (those q xs)
    go true true h r = ap (λ ys. x ∷ ys) r
    go true false h r = clash (sym h)
    go false true h r = clash h
    go false false h r = r

-- the marked slots are those reached
pub damage_is : (g : Geometry) (shown : Shown) (marks : List Bool) → MarksReached g (seen g shown) marks →
    damage (Ok g) shown ≡ Ok (bad_leaves g (seen g shown) (those (λ s. get_or marks s false) (slots_of g)))
damage_is g shown marks e =
    damage_ok g shown ∙ ap (λ (ss : List ℕ). Ok (bad_leaves g (seen g shown) ss)) (sym (those_same (λ s. get_or marks s false) (reached g (seen g shown)) e (slots_of g)))

module _ {A L : Type 0} (row : A → L) (g : CardGeometry) (x : Answer (List A)) (m n : Model) (before : List L) where
  -- a refusal handed on, with the lines as they were
  pub fills_exit : (r : Result ℕ Refusal) (d e : Refusal) → r ≡ Err d → d ≡ e → Refused g x m n e → Fills row g x r m n before before
  fills_exit r d e p q h = subst (λ (z : Result ℕ Refusal). Fills row g x z m n before before) (sym (p ∙ ap Err q)) (go h)
    where
      go : Refused g x m n e → Left row x m n before before e ⊎ Met row g m n e
      go (inl w) = inl (record { still = w.0; rule = w.1; lines = refl })
      go (inr w) = inr (record { fault = w.0; told = w.1; failed = w.2 })

  -- every line made zero, if the answer is power gone
  pub lined : (zero : L) (r : Result ℕ Refusal) (mid after : List L) → length mid ≡ length before → after ≡ cond (gone r) (replicate (length mid) zero) mid →
      ((e : Refusal) → x ≡ Err e → Spared e) → Fills row g x r m n before mid → Lined row zero g x r m n before after
  lined zero (Ok k) mid after len e s h = subst (λ (z : List L). Filled row x m n before z k) (sym e) h
  lined zero (Err d) mid after len e s (inl w) =
      inl (record { still = w.still; rule = w.rule; lines = e ∙ cond-false (eqb (number_of d) 1) (replicate (length mid) zero) mid (s d w.rule) ∙ w.lines })
  lined zero (Err d) mid after len e s (inr w) = inr (w, λ p. e ∙ cond-true (eqb (number_of d) 1) (replicate (length mid) zero) mid (ap (λ (z : Refusal). eqb (number_of z) 1) w.told ∙ one w.fault p) ∙ ap (λ (k : ℕ). replicate k zero) len)
    where
      one : (f : Fault) → power_gone f ≡ true → eqb (number_of (refusal_of f)) 1 ≡ true
      one (PowerGone b) p = refl
      one (NoSuchBlock b) p = clash p

-- ---- on a card that may not be good

module _ {A L : Type 0} (row : A → L) (zero : L) (rule : Ready → Shown → Answer (List A)) (c : Kept) (m : Model) (before after : List L) where
  -- the refusal that the card keeps
  pub unready : (e : Refusal) → c ≡ Err e → rule (Err e) m.shown ≡ Err e → after ≡ cond (eqb (number_of e) 1) (replicate (length before) zero) before → Listing row zero rule c m (Err e) c m before after
  unready e is u q = record { answer = Err e; reads = inl (still m, sym (ap (λ (x : Kept). rule (ready_view x) m.shown) is ∙ u), refl); lines = (refl, q) }

  module _ (g : CardGeometry) (good : c ≡ Ok g) (fit : Fitting c m) (spared : (e : Refusal) → rule (Ok (sizes g)) m.shown ≡ Err e → Spared e) where
    same : rule (ready_view c) m.shown ≡ rule (Ok (sizes g)) m.shown
    same = ap (λ (x : Kept). rule (ready_view x) m.shown) good

    pub listing : (r : Result ℕ Refusal) (d : Kept) (n : Model) → d ≡ kept_after r c → Lined row zero g (rule (Ok (sizes g)) m.shown) r m n before after → Listing row zero rule c m r d n before after
    listing (Ok k) d n t h = record { answer = Ok h.items; reads = inl (h.still, sym (same ∙ h.rule), t); lines = h.sofar }
    listing (Err e) d n t (inl h) = record {
      answer = Err e;
      reads = inl (h.still, sym (same ∙ h.rule), t ∙ cond-false (eqb (number_of e) 1) (Err e) c (spared e h.rule));
      lines = (refl, h.lines ∙ sym (cond-false (eqb (number_of e) 1) (replicate (length before) zero) before (spared e h.rule)));
    }
    listing (Err e) d n t (inr (w, z)) = met w.fault w.told w.failed z
      where
        met : (f : Fault) → e ≡ refusal_of f → Failed g m n f → (power_gone f ≡ true → after ≡ replicate (length before) zero) → Listing row zero rule c m (Err e) d n before after
        met (PowerGone b) is h z =
            let one : eqb (number_of e) 1 ≡ true = ap (λ (x : Refusal). eqb (number_of x) 1) is in
            record {
              answer = Err e;
              reads = inr (b, g, good, ap Err is, h, t ∙ cond-true (eqb (number_of e) 1) (Err e) c one ∙ ap Err is);
              lines = (refl, z refl ∙ sym (cond-true (eqb (number_of e) 1) (replicate (length before) zero) before one));
            }
        met (NoSuchBlock b) is h z = let l = subst (λ (x : Kept). Fitting x m) good fit in absurd (omega (arith, l, h.1))
