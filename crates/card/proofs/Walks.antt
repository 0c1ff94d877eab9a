-- A path on a card, by what the walk answers.
use Rattle.std.proofs.Common.{◌≡◌, ℕ, suc, cond, eqb, List, [], ◌∷◌, Ok, Err, Result, sym, refl, ap, ◌∙◌, subst, inl, inr, arith}
use Rattle.std.proofs.lemmas.Bool.{cond-false, ne_eqb}
use Rattle.base.specs.Refusals.{number_of}
use Rattle.base.specs.declared.number.BlockNo.{BlockNo}
use Rattle.base.specs.declared.owner.Handle.{Handle}
use Rattle.base.specs.declared.refusal.Refusal.{Refusal}
use Rattle.base.specs.declared.refusal.Refusal.TheVariants.{PowerGone}
use Rattle.base.specs.declared.refusal.PathRefusal.{PathRefusal}
use Rattle.device.specs.Answers.{refusal_of}
use Rattle.device.specs.Model.{Model}
use Rattle.device.specs.declared.fault.Fault.{Fault}
use Rattle.device.specs.declared.fault.Fault.TheVariants.{PowerGone as Gone, NoSuchBlock}
use Rattle.layout.specs.Format.{Geometry, Name}
use Rattle.layout.specs.Sizes.{sizes}
use Rattle.layout.specs.declared.geometry.Geometry.{Geometry as CardGeometry}
use Rattle.rule.specs.Agree.{Shown, View, seen, root}
use Rattle.rule.specs.Card.{Ready}
use Rattle.rule.specs.Check.{Answer, ◌>>=◌}
use Rattle.rule.specs.Reading.{step, components, at_component, all_named, walk, path}
use Rattle.walk.specs.Still.{Failed, PathRefused, PathGives}
use Rattle.walk.proofs.Stills.{still}
use Rattle.walk.proofs.Stepping.{bind_ok, bind_err}
use Rattle.card_lists.specs.Ready.{Kept, ready_view, Fitting}
use Rattle.card.specs.Calls.{CoreReads, noted}
use Rattle.card.proofs.Quiet.{Quiet, step_quiet}

no_ok : {A B E : Type 0} {a : B} {e : E} → Ok a ≡ Err e → A
no_ok q = let z : ◌≡◌ {A = ℕ} 0 1 = cc in absurd (omega arith)

abbrev PathQuiet : {A : Type 0} → Result A PathRefusal → Type 0
PathQuiet x = (e : PathRefusal) → x ≡ Err e → number_of e.lower ≡ 1 → ⊥

component_quiet : {A : Type 0} (i : ℕ) (x : Answer A) → Quiet x → PathQuiet (at_component i x)
unfolding at_component
component_quiet i (Ok a) h e q n = no_ok q
component_quiet i (Err d) h e q n =
    let s : ◌≡◌ {A = PathRefusal} (record { lower = d; component = i }) e = cc in
    h d refl (ap (λ (z : PathRefusal). number_of z.lower) s ∙ n)

bind_path_quiet : {A B : Type 0} (x : Result A PathRefusal) (k : A → Result B PathRefusal) → PathQuiet x → ((a : A) → PathQuiet (k a)) → PathQuiet (x >>= k)
unfolding ◌>>=◌
bind_path_quiet (Ok a) k h l e q n = l a e q n
bind_path_quiet (Err d) k h l e q n = let s : d ≡ e = cc in h e (ap Err s) n

pub walk_quiet : (g : Geometry) (v : View) (i : ℕ) (f : Handle) (ns : List Name) → PathQuiet (walk g v i f ns)
unfolding walk
walk_quiet g v i f [] = λ e q n. no_ok q
walk_quiet g v i f (n ∷ ns) = bind_path_quiet _ _ (component_quiet i (step g v f n) (step_quiet g v f n)) (λ c. walk_quiet g v (suc i) c ns)

-- what the card has, at component 0
pub ready_ok : (c : Kept) (g : CardGeometry) → at_component 0 c ≡ Ok g → c ≡ Ok g
unfolding at_component
ready_ok (Ok h) g e = let s : h ≡ g = cc in ap Ok s
ready_ok (Err d) g e = no_ok (sym e)

ready_err : (c : Kept) (e : PathRefusal) → at_component 0 c ≡ Err e → at_component 0 (ready_view c) ≡ Err e
unfolding at_component
ready_err (Ok g) e q = no_ok q
ready_err (Err d) e q = let s : ◌≡◌ {A = PathRefusal} (record { lower = d; component = 0 }) e = cc in ap Err s

module _ (p : List ℕ) (shown : Shown) where
  pub path_bad : (x : Ready) (e : PathRefusal) → all_named 0 (components p) ≡ Err e → path p x shown ≡ Err e
  unfolding path
  path_bad x e q = bind_err _ _ e q

  module _ (fine : all_named 0 (components p) ≡ Ok tt) where
    pub path_unready : (c : Kept) (e : PathRefusal) → at_component 0 c ≡ Err e → path p (ready_view c) shown ≡ Err e
    unfolding path
    path_unready c e q = bind_ok _ _ tt fine ∙ bind_err _ _ e (ready_err c e q)

    pub path_ready : (c : Kept) (g : CardGeometry) → c ≡ Ok g → path p (ready_view c) shown ≡ walk (sizes g) (seen (sizes g) shown) 0 root (components p)
    unfolding path at_component
    path_ready c g q = bind_ok _ _ tt fine ∙ ap (λ (z : Kept). at_component 0 (ready_view z) >>= λ (h : Geometry). walk h (seen h shown) 0 root (components p)) q ∙ bind_ok (Ok (sizes g)) _ (sizes g) refl

abbrev met_at : ℕ → BlockNo → PathRefusal
met_at i b = record { lower = PowerGone b; component = i }

pub path_exit : (rule : Ready → Shown → Result Handle PathRefusal) (c : Kept) (m : Model) (r : Result Handle PathRefusal) (d e : PathRefusal) → r ≡ Err d → d ≡ e → rule (ready_view c) m.shown ≡ Err e → CoreReads (met_at 0) rule c m r c m
path_exit rule c m r d e p q h = inl (still m, p ∙ ap Err q ∙ sym h, refl)

pub path_stopped : (rule : Ready → Shown → Result Handle PathRefusal) (g : CardGeometry) (x : Result Handle PathRefusal) (c : Kept) (m : Model) → c ≡ Ok g → (d : Kept) (k n : Model) (e : PathRefusal) → Fitting c m → rule (ready_view c) m.shown ≡ x → PathQuiet x →
    n ≡ k → d ≡ cond (eqb (number_of e.lower) 1) (Err e.lower) c → PathRefused g x m k e → CoreReads (met_at e.component) rule c m (Err e) d n
path_stopped rule g x c m good d k n e fit r q s t h = subst (λ (z : Model). CoreReads (met_at e.component) rule c m (Err e) d z) (sym s) (go h)
  where
    fault : (w : Fault) → e.lower ≡ refusal_of w → Failed g m k w → CoreReads (met_at e.component) rule c m (Err e) d k
    fault (Gone b) is h = inr (b, g, good, ap (λ (z : Refusal). Err (record { lower = z; component = e.component })) is, h, t ∙ ap (λ (z : Refusal). cond (eqb (number_of z) 1) (Err z) c) is)
    fault (NoSuchBlock b) is h = let l = subst (λ (z : Kept). Fitting z m) good fit in absurd (omega (arith, l, h.1))

    go : PathRefused g x m k e → CoreReads (met_at e.component) rule c m (Err e) d k
    go (inl h) = inl (h.0, sym (r ∙ h.1), t ∙ cond-false (eqb (number_of e.lower) 1) (Err e.lower) c (ne_eqb (number_of e.lower) 1 (q e h.1)))
    go (inr h) = fault h.0 h.1 h.2

module _ (rule : Ready → Shown → Result Handle PathRefusal) (g : CardGeometry) {x : Result Handle PathRefusal} {c : Kept} {m k : Model} {y : Result Handle PathRefusal} (q : PathGives g y x (λ a. x ≡ Ok a) m k) (at : rule (ready_view c) m.shown ≡ x) where
  -- the path was walked
  pub path_told : (a : Handle) → y ≡ Ok a → CoreReads (met_at 0) rule c m y c k
  path_told a is =
      let h = subst (λ (z : Result Handle PathRefusal). PathGives g z x (λ b. x ≡ Ok b) m k) is q in
      inl (h.0, is ∙ sym (at ∙ h.1), refl)

  -- it was refused, and `note` has kept that
  pub path_noted : {d : Kept} {n : Model} (e : PathRefusal) → y ≡ Err e → c ≡ Ok g → Fitting c m → PathQuiet x → n ≡ k → d ≡ noted e.lower c → CoreReads (met_at e.component) rule c m y d n
  path_noted {d} {n} e is good fit quiet s t =
      subst (λ (z : Result Handle PathRefusal). CoreReads (met_at e.component) rule c m z d n) (sym is)
      (path_stopped rule g x c m good d k n e fit at quiet s t (subst (λ (z : Result Handle PathRefusal). PathGives g z x (λ b. x ≡ Ok b) m k) is q))
