-- A step of the survey, and its end.
use Rattle.std.proofs.Common.{◌≡◌, ℕ, suc, ◌+◌, ◌-◌, ◌<◌, ◌≤◌, max, cond, eqb, ltb, ◌⊎◌, Ok, Err, sym, refl, ap, ◌∙◌, subst, inl, inr, arith}
use Rattle.std.specs.Prelude.{MatchResult}
use Rattle.std.proofs.Math.Logic.{∥∥₁_elim}
use Rattle.std.proofs.lemmas.Bool.{cond-true, cond-false, lt-ltb, le-ltb}
use Rattle.base.specs.Refusals.{number_of}
use Rattle.base.specs.declared.number.BlockNo.{BlockNo}
use Rattle.base.specs.declared.number.Identity.{Identity}
use Rattle.base.specs.declared.refusal.Refusal.{Refusal}
use Rattle.base.specs.declared.refusal.Refusal.TheVariants.{PowerGone}
use Rattle.device.specs.Answers.{refusal_of}
use Rattle.device.specs.Model.{Model, Lost}
use Rattle.device.specs.declared.fault.Fault.{Fault}
use Rattle.device.specs.declared.fault.Fault.TheVariants.{PowerGone as Met, NoSuchBlock}
use Rattle.layout.specs.Format.{Geometry}
use Rattle.layout.specs.Sizes.{sizes}
use Rattle.layout.specs.declared.geometry.Geometry.{Geometry as CardGeometry}
use Rattle.marks.specs.Marks.{Agree, Whole}
use Rattle.marks.specs.declared.mark.Marks.{Marks}
use Rattle.moves.specs.Tied.{Tied}
use Rattle.moves.proofs.Lands.{limits_of}
use Rattle.moves.proofs.Starts.{tied_starts}
use Rattle.rule.specs.Agree.{Shown, View, from}
use Rattle.rule.specs.Card.{Ready, Card, Opened, Surveying, examined, highest_of, ended_by, lost_opened, survey_step}
use Rattle.rule.specs.Card as rule_of_card
use Rattle.rule.specs.Changing.{last_identity}
use Rattle.rule.specs.Check.{Answer, ◌>>=◌}
use Rattle.history.specs.Events as Events
use Rattle.history.specs.Events.{State, opened, surveyed, Surveys, ByStep, Ends}
use Rattle.survey.specs.Survey.{Sofar}
use Rattle.walk.specs.Still.{Still, Failed, Refused, shows}
use Rattle.walk.proofs.Stills.{still}
use Rattle.change.specs.Plans.{card_view}
use Rattle.change.specs.declared.plan.Memory.{Memory}
use Rattle.card.specs.Calls.{kept_by}
use Rattle.card.specs.Once.{Knows-prop}
use Rattle.card.specs.Progress.{Learned, Examines, so_far}
use Rattle.card.specs.declared.progress.Progress.{Progress}
use Rattle.card.specs.Valid.{Sees, Seen, Knows, opened_state, surveyed_state, memory_view}
use Rattle.card_lists.specs.Ready.{Kept, ready_view}
use Rattle.card.proofs.Cores.{still_sees, gone_seen}
use Rattle.card.proofs.Progresses.{turn_agrees, learned_moved}

-- ---- a step

-- the rule's step, once the card's geometry is known
step_is : (g : Geometry) (p : Progress) (shown : Shown) → survey_step (so_far (Ok g) p) shown ≡ Ok (cond (ltb p.next g.blocks) (record { remain = g.blocks - suc p.next; card = examined g shown (so_far (Ok g) p) }) (record { remain = 0; card = so_far (Ok g) p }))
unfolding survey_step ◌>>=◌
step_is g p shown = refl

step_bad : (e : Refusal) (p : Progress) (shown : Shown) → survey_step (so_far (Err e) p) shown ≡ Err e
unfolding survey_step ◌>>=◌
step_bad e p shown = refl

pub step_unready : (c : Kept) (p : Progress) (m : Model) (r : Answer (ℕ × ℕ)) (d e : Refusal) → c ≡ Err e → r ≡ Err d → d ≡ e → Surveys (opened_state c p m) r (opened_state c p m)
step_unready c p m r d e is a b = record {
  so_far = so_far (ready_view c) p;
  card = refl;
  turn = subst (λ (z : Answer Surveying). ByStep z (so_far (ready_view c) p) (opened_state c p m) r (opened_state c p m))
      (sym (ap (λ (z : Kept). survey_step (so_far (ready_view z) p) m.shown) is ∙ step_bad e p m.shown))
      (a ∙ ap Err b, record { kept = (still m).kept; power = refl; card = refl });
}

no_ok : {A B E : Type 0} {a : B} {e : E} → Ok a ≡ Err e → A
no_ok q = let z : ◌≡◌ {A = ℕ} 0 1 = cc in absurd (omega arith)

module _ (g : CardGeometry) (c : Kept) (is : c ≡ Ok g) (p : Progress) (m : Model) where
  abbrev o : Opened
  o = so_far (Ok (sizes g)) p

  steps : (w : Answer Surveying) (r : Answer (ℕ × ℕ)) (t : State) → survey_step o m.shown ≡ w → ByStep w o (opened_state c p m) r t → Surveys (opened_state c p m) r t
  steps w r t e h = record {
    so_far = o;
    card = ap (λ (z : Kept). opened (so_far (ready_view z) p)) is;
    turn = subst (λ (z : Answer Surveying). ByStep z o (opened_state c p m) r t) (sym e) h;
  }

  -- no block remains
  pub step_over : g.blocks ≤ p.next → Surveys (opened_state c p m) (Ok (0, p.highest.0)) (opened_state c p m)
  step_over l = steps _ _ _ (step_is (sizes g) p m.shown ∙ ap Ok (cond-false (ltb p.next g.blocks) _ _ (le-ltb p.next g.blocks l)))
      (inl (refl, record { kept = (still m).kept; power = refl; card = ap (λ (z : Kept). opened (so_far (ready_view z) p)) is }))

  module _ (l : p.next < g.blocks) where
    next_is : survey_step o m.shown ≡ Ok (record { remain = g.blocks - suc p.next; card = examined (sizes g) m.shown o })
    next_is = step_is (sizes g) p m.shown ∙ ap Ok (cond-true (ltb p.next g.blocks) _ _ (lt-ltb p.next g.blocks l))

    -- a block was examined
    pub step_done : (q : Progress) (n : Model) (remain : ℕ) → remain ≡ g.blocks - p.next - 1 → Still m n → so_far (Ok (sizes g)) q ≡ examined (sizes g) m.shown o →
        Surveys (opened_state c p m) (Ok (remain, q.highest.0)) (opened_state c q n)
    step_done q n remain e s h = steps _ _ _ next_is
        (inl (
          ap (λ (i : ℕ). Ok (i, q.highest.0)) (e ∙ omega arith) ∙ ap (λ (z : Opened). Ok (g.blocks - suc p.next, z.highest)) h,
          record { kept = s.kept; power = s.power; card = ap (λ (z : Kept). opened (so_far (ready_view z) q)) is ∙ ap opened h },
        ))

    -- power gone was met
    pub step_refused : (q : Progress) (d : Kept) (k n : Model) (e f : Refusal) (w : Fault) → g.blocks ≤ m.count → q ≡ p → f ≡ e → e ≡ refusal_of w → n ≡ k → d ≡ cond (eqb (number_of e) 1) (Err e) c → Failed g m k w →
        Surveys (opened_state c p m) (Err f) (opened_state d q n)
    step_refused q d k n e f (NoSuchBlock b) fit qp fe ew s t h = absurd (omega (arith, fit, h.1))
    step_refused q d k n e f (Met b) fit qp fe ew s t h = steps _ _ _ next_is
        (inr (
          b,
          ap Err (fe ∙ ew),
          record {
            lost = subst (λ (z : Model). Lost m z) (sym s) h;
            card = ap (λ (z : Kept). opened (so_far (ready_view z) q)) (t ∙ ap (λ (z : Refusal). cond (eqb (number_of z) 1) (Err z) c) ew) ∙ ap (λ (z : Progress). opened (so_far (Err (PowerGone b)) z)) qp;
          },
        ))

    pub step_sees : (q : Progress) (n : Model) → Still m n → Learned g m q → so_far (Ok (sizes g)) q ≡ examined (sizes g) m.shown o → Sees g p m → Seen c q n
    step_sees q n s w h v = subst (λ (z : Kept). Seen z q n) (sym is) (still_sees g q m n s.kept.count s.kept.shown (record {
      fits = v.fits;
      opens = v.opens;
      learned = w;
      agrees = turn_agrees g m m p q refl l h ∙ v.agrees;
    }))

-- after a read that failed the card keeps power gone
pub fault_seen : (g : CardGeometry) (c d : Kept) (q : Progress) (m k n : Model) (e : Refusal) (w : Fault) → g.blocks ≤ m.count → e ≡ refusal_of w → d ≡ cond (eqb (number_of e) 1) (Err e) c → Failed g m k w → Seen d q n
fault_seen g c d q m k n e (Met b) fit ew t h = gone_seen d (PowerGone b) q n (t ∙ ap (λ (z : Refusal). cond (eqb (number_of z) 1) (Err z) c) ew)
fault_seen g c d q m k n e (NoSuchBlock b) fit ew t h = absurd (omega (arith, fit, h.1))

-- the step as the code makes it: y is what examining the block answered, on a device that is z then; `keep` hands it on as o, with the card b and the device x
module _ {D : Type 0} (model : D → Model) (g : CardGeometry) (c : Kept) (is : c ≡ Ok g) (p q : Progress) (m : Model) {z x : D} {y o : Answer (Unit {0})} {b : Kept} (see : Seen c p m) (l : p.next < g.blocks)
    (examines : Learned g m p → Examines g y (Learned g m q × (so_far (Ok (sizes g)) q ≡ examined (sizes g) m.shown (so_far (Ok (sizes g)) p))) m (model z)) (keeps : (o ≡ y) × (x ≡ z) × (b ≡ kept_by y c)) where
  sees : Sees g p m
  sees = subst (λ (k : Kept). Seen k p m) is see

  pub stepped_seen : Seen b q (model x)
  stepped_seen = subst (λ (k : Kept). Seen k q (model x)) (sym keeps.2) (subst (λ (d : D). Seen (kept_by y c) q (model d)) (sym keeps.1) (go y (examines sees.learned)))
    where
      go : (y : Answer (Unit {0})) → Examines g y (Learned g m q × (so_far (Ok (sizes g)) q ≡ examined (sizes g) m.shown (so_far (Ok (sizes g)) p))) m (model z) → Seen (kept_by y c) q (model z)
      go (Ok u) h = step_sees g c is p m l q (model z) h.0 h.1.0 h.1.1 sees
      go (Err e) (inl h) = no_ok h.1
      go (Err e) (inr h) = fault_seen g c (kept_by {A = Unit {0}} (Err e) c) q m (model z) (model z) e h.0 sees.fits h.1 refl h.2

  module _ (a : Answer (Unit {0})) (was : o ≡ a) where
    yields : y ≡ a
    yields = sym keeps.0 ∙ was

    told : Examines g a (Learned g m q × (so_far (Ok (sizes g)) q ≡ examined (sizes g) m.shown (so_far (Ok (sizes g)) p))) m (model z)
    told = subst (λ (k : Answer (Unit {0})). Examines g k (Learned g m q × (so_far (Ok (sizes g)) q ≡ examined (sizes g) m.shown (so_far (Ok (sizes g)) p))) m (model z)) yields (examines sees.learned)

    keeps_so : b ≡ kept_by a c
    keeps_so = keeps.2 ∙ ap (λ (k : Answer (Unit {0})). kept_by k c) yields

  pub stepped_ok : (u : Unit {0}) → o ≡ Ok u → Surveys (opened_state c p m) (Ok (g.blocks - p.next - 1, q.highest.0)) (opened_state b q (model x))
  stepped_ok u was =
      let h = told (Ok u) was in
      subst (λ (k : Kept). Surveys (opened_state c p m) (Ok (g.blocks - p.next - 1, q.highest.0)) (opened_state k q (model x))) (sym (keeps_so (Ok u) was))
      (subst (λ (d : D). Surveys (opened_state c p m) (Ok (g.blocks - p.next - 1, q.highest.0)) (opened_state c q (model d))) (sym keeps.1) (step_done g c is p m l q (model z) _ refl h.0 h.1.1))

  pub stepped_err : (e : Refusal) → o ≡ Err e → MatchResult y (λ _. q.next ≡ p.next + 1) (λ _. q ≡ p) → (r : Answer (ℕ × ℕ)) → r ≡ Err e → Surveys (opened_state c p m) r (opened_state b q (model x))
  stepped_err e was kept r same = subst (λ (k : Answer (ℕ × ℕ)). Surveys (opened_state c p m) k (opened_state b q (model x))) (sym same) (go (told (Err e) was))
    where
      go : Refused {B = Unit {0}} g (Ok tt) m (model z) e → Surveys (opened_state c p m) (Err e) (opened_state b q (model x))
      go (inl h) = no_ok h.1
      go (inr h) = step_refused g c is p m l q b (model z) (model x) e e h.0 sees.fits (subst (λ (k : Answer (Unit {0})). MatchResult k (λ _. q.next ≡ p.next + 1) (λ _. q ≡ p)) (yields (Err e) was) kept) refl h.1 (ap model keeps.1) (keeps_so (Err e) was) h.2

-- ---- the end

-- a card that is not surveyed keeps the highest identity, and no cursors
abbrev pub no_cursors : Identity → Memory
no_cursors i = record { highest = i; next_slot = 0; next_body = 0 }

end_bad : (e : Refusal) (p : Progress) (shown : Shown) → rule_of_card.surveyed (so_far (Err e) p) shown ≡ memory_view (Err e) (no_cursors p.highest)
unfolding rule_of_card.surveyed
end_bad e p shown = refl

pub end_unready : (c : Kept) (p : Progress) (m : Model) (e : Refusal) → c ≡ Err e → Ends (opened_state c p m) (record { device = m; card = surveyed (memory_view c (no_cursors p.highest)) })
end_unready c p m e is = record {
  so_far = so_far (ready_view c) p;
  card = refl;
  turn = inl (record {
    kept = (still m).kept;
    power = refl;
    card =
        ap (λ (z : Kept). surveyed (memory_view z (no_cursors p.highest))) is
        ∙ sym (ap (λ (z : Kept). surveyed (rule_of_card.surveyed (so_far (ready_view z) p) m.shown)) is ∙ ap surveyed (end_bad e p m.shown));
  });
}

module _ (g : CardGeometry) (c : Kept) (is : c ≡ Ok g) (p : Progress) (m : Model) where
  ends_so : (t : State) → (Events.Still (opened_state c p m) t (surveyed (rule_of_card.surveyed (so_far (Ok (sizes g)) p) m.shown))
      ⊎ ((b : BlockNo) × Events.Gone (opened_state c p m) t (surveyed (rule_of_card.surveyed (lost_opened b (so_far (Ok (sizes g)) p)) m.shown)))) → Ends (opened_state c p m) t
  ends_so t h = record {
    so_far = so_far (Ok (sizes g)) p;
    card = ap (λ (z : Kept). opened (so_far (ready_view z) p)) is;
    turn = elim h [ inl q ↦ inl q | inr q ↦ inr (q.0, (sizes g, refl), q.1) ];
  }

  -- every block was examined
  module _ (q : Progress) (n : Model) (all : q.next ≡ g.blocks) (same : rule_of_card.surveyed (so_far (Ok (sizes g)) q) m.shown ≡ rule_of_card.surveyed (so_far (Ok (sizes g)) p) m.shown) (s : Still m n) where
    abbrev after : Memory
    after = record { highest = q.highest; next_slot = 0; next_body = g.slots + 1 }

    ended : rule_of_card.surveyed (so_far (Ok (sizes g)) q) m.shown ≡ card_view g after
    unfolding rule_of_card.surveyed
    ended =
        let none : g.blocks - q.next ≡ 0 = omega (arith, all) in
        let top : max q.highest.0 0 ≡ q.highest.0 = omega arith in
        let last : suc g.slots ≡ g.slots + 1 = omega arith in
        ap (λ (k : ℕ). record { ready = Ok (sizes g); highest = max q.highest.0 (highest_of (sizes g) (shows g m) (from q.next k)); next_slot = 0; next_body = suc g.slots }) none
        ∙ ap (λ (h : ℕ). record { ready = Ok (sizes g); highest = h; next_slot = 0; next_body = suc g.slots }) top
        ∙ ap (λ (b : ℕ). record { ready = Ok (sizes g); highest = q.highest.0; next_slot = 0; next_body = b }) last

    pub end_done : Ends (opened_state c p m) (record { device = n; card = surveyed (memory_view c after) })
    end_done = ends_so _ (inl (record { kept = s.kept; power = s.power; card = ap (λ (z : Kept). surveyed (memory_view z after)) is ∙ ap surveyed (sym ended ∙ same) }))

    pub end_knows : (ms : Marks) → q.highest.0 ≤ last_identity → Learned g m q → Sees g p m → Whole ms → ((v : View) → Sofar (sizes g) v g.blocks q.survey → Agree (sizes g) v ms) → Knows g after ms n
    end_knows ms narrow w v whole agree = ∥∥₁_elim (learned_moved g m n q s.kept.shown w).sofar (Knows-prop g after ms n) (λ o. record {
      fits = omega (arith, s.kept.count, v.fits);
      tied = subst (λ (f : Shown). Tied (sizes g) (card_view g after) f) (sym s.kept.shown) (subst (λ (z : Card). Tied (sizes g) z m.shown) card_is tied);
      marked = agree (shows g n) (subst (λ (i : ℕ). Sofar (sizes g) (shows g n) i q.survey) all o);
      room = (let b = (limits_of (sizes g) g.ok).thin in omega (arith, b, whole.slots), (let b = (limits_of (sizes g) g.ok).small in omega (arith, b, whole.bodies)));
    })
      where
        card_is : rule_of_card.surveyed (rule_of_card.opened m.count m.shown) m.shown ≡ card_view g after
        card_is = sym v.agrees ∙ sym same ∙ ended

        tied : Tied (sizes g) (rule_of_card.surveyed (rule_of_card.opened m.count m.shown) m.shown) m.shown
        tied = tied_starts m.count m.shown (sizes g) v.opens (subst (λ (z : Card). z.highest ≤ last_identity) (sym card_is) narrow) (λ b low l. w.whole b low (omega (arith, all, l)))

  -- power gone was met
  pub end_refused : (k : Model) (e : Refusal) → Sees g p m → Refused {B = Unit {0}} g (Ok tt) m k e → Ends (opened_state c p m) (surveyed_state (Err e) (no_cursors p.highest) k)
  end_refused k e v (inl h) = no_ok h.1
  end_refused k e v (inr h) = fault h.0 h.1 h.2
    where
      fault : (w : Fault) → e ≡ refusal_of w → Failed g m k w → Ends (opened_state c p m) (surveyed_state (Err e) (no_cursors p.highest) k)
      fault (NoSuchBlock b) is h = let f = v.fits in absurd (omega (arith, f, h.1))
      fault (Met b) is h = ends_so _ (inr (b, record { lost = h; card = ap (λ (z : Refusal). surveyed (memory_view (Err z) (no_cursors p.highest))) is ∙ ap surveyed (sym (end_bad (PowerGone b) p m.shown)) }))

pub surveyed_same : {d b : Kept} {mem old : Memory} {n m : Model} → d ≡ b → mem ≡ old → n ≡ m → surveyed_state d mem n ≡ surveyed_state b old m
surveyed_same {d} {b} {mem} {old} {n} {m} p q s =
    ap (λ (z : Kept). surveyed_state z mem n) p ∙ ap (λ (z : Memory). surveyed_state b z n) q ∙ ap (surveyed_state b old) s
