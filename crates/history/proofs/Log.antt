-- The log of a history: which write gave what, and which create made what.
use Rattle.std.proofs.Common.{◌≡◌, ℕ, suc, Bool, true, false, cond, eqb, ◌⊎◌, List, [], ◌∷◌, length, sym, refl, ap, ◌∙◌, inl, inr}
use Rattle.std.proofs.lemmas.Bool.{eq-eqb, ne_eqb, and_from, and_right}
use Rattle.base.specs.declared.owner.Kind.{Kind}
use Rattle.base.specs.declared.owner.Handle.{Handle}
use Rattle.layout.specs.Format.{Name}
use Rattle.rule.specs.Agree.{same_handle}
use Rattle.history.specs.Events.{State}
use Rattle.history.specs.History.{Moment, present, Deed, created, wrote, deed, gives, maker, Done}
use Rattle.history.specs.Laws.{Written, Made}

pub same_refl : (a : Handle) → same_handle a a ≡ true
same_refl a = and_from (eqb a.slot.0 a.slot.0) (eqb a.identity.0 a.identity.0) (eq-eqb a.slot.0 a.slot.0 refl) (eq-eqb a.identity.0 a.identity.0 refl)

pub same_apart : (a b : Handle) → (a.identity.0 ≡ b.identity.0 → ⊥) → same_handle a b ≡ false
same_apart a b ne = and_right (eqb a.slot.0 b.slot.0) (eqb a.identity.0 b.identity.0) (ne_eqb a.identity.0 b.identity.0 ne)

module _ (s : State) where
  -- what the moment m did after ms
  abbrev pub did : Moment → List Moment → Deed
  did m ms = deed (present s ms) m.event

  -- a write of x to leaf k of h since the last create of h
  abbrev pub Wrote : List Moment → Handle → ℕ → List ℕ → Type 0
  Wrote [] h k x = ⊥
  Wrote (m ∷ ms) h k x = (did m ms ≡ wrote h k x) ⊎ ((gives (did m ms) h ≡ false) × Wrote ms h k x)

  -- the last create of c is in f under n, and none of f came since
  abbrev pub MadeIn : List Moment → Handle → Handle → Name → Type 0
  MadeIn [] c f n = ⊥
  MadeIn (m ∷ ms) c f n = ((d : Kind) × (did m ms ≡ created d f n c) × (gives (did m ms) f ≡ false))
      ⊎ ((gives (did m ms) c ≡ false) × (gives (did m ms) f ≡ false) × MadeIn ms c f n)

  passed : (m : Moment) (h : Handle) (ms : List Moment) → gives (did m ms) h ≡ false → maker s ms h ≡ maker s (m ∷ ms) h
  passed m h ms ng = sym (ap (λ (b : Bool). cond b (suc (length ms)) (maker s ms h)) ng)

  at_head : (m : Moment) (ms : List Moment) (d : Deed) → did m ms ≡ d → Done s (m ∷ ms) d ms
  at_head m ms d p = record { newer = []; moment = m; whole = refl; did = p }

  further : (m : Moment) (ms : List Moment) (d : Deed) (older : List Moment) → Done s ms d older → Done s (m ∷ ms) d older
  further m ms d older r = record { newer = m ∷ r.newer; moment = r.moment; whole = ap (λ (l : List Moment). m ∷ l) r.whole; did = r.did }

  pub wrote_earlier : (ms : List Moment) (h : Handle) (k : ℕ) (x : List ℕ) → Wrote ms h k x → Written s ms h k x
  wrote_earlier [] h k x w = absurd w
  wrote_earlier (m ∷ ms) h k x (inl w) = record { older = ms; written = at_head m ms (wrote h k x) w; same_file = passed m h ms (ap (λ (d : Deed). gives d h) w) }
  wrote_earlier (m ∷ ms) h k x (inr w) =
      let r = wrote_earlier ms h k x w.1 in
      record { older = r.older; written = further m ms (wrote h k x) r.older r.written; same_file = r.same_file ∙ passed m h ms w.0 }

  pub made_earlier : (ms : List Moment) (c f : Handle) (n : Name) → MadeIn ms c f n → Made s ms f n c
  made_earlier [] c f n w = absurd w
  made_earlier (m ∷ ms) c f n (inl w) = record {
    kind = w.0;
    older = ms;
    made = at_head m ms (created w.0 f n c) w.1;
    same_child = ap (λ (b : Bool). cond b (suc (length ms)) (maker s ms c)) (ap (λ (d : Deed). gives d c) w.1 ∙ same_refl c);
    same_folder = passed m f ms w.2;
  }
  made_earlier (m ∷ ms) c f n (inr w) =
      let r = made_earlier ms c f n w.2 in
      record {
        kind = r.kind;
        older = r.older;
        made = further m ms (created r.kind f n c) r.older r.made;
        same_child = sym (passed m c ms w.0) ∙ r.same_child;
        same_folder = r.same_folder ∙ passed m f ms w.1;
      }
