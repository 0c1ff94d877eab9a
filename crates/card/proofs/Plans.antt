-- A changing call of a surveyed card, by what its plan and the device answered.
use Rattle.std.proofs.Common.{◌≡◌, ℕ, ◌≤◌, cond, eqb, List, None, Ok, Err, sym, refl, ap, ◌∙◌, subst, inl, inr, arith}
use Rattle.std.proofs.lemmas.Bool.{cond-false, ne_eqb}
use Rattle.base.specs.Refusals.{number_of}
use Rattle.base.specs.declared.number.BlockNo.{BlockNo}
use Rattle.base.specs.declared.refusal.Refusal.{Refusal}
use Rattle.base.specs.declared.refusal.Refusal.TheVariants.{PowerGone}
use Rattle.device.specs.Answers.{refusal_of}
use Rattle.device.specs.Effect.{Outcome, accepted, broken, Power, Shows, puts, Altered, first_outside}
use Rattle.device.specs.Model.{Model, Block, Lost}
use Rattle.device.specs.declared.fault.Fault.{Fault}
use Rattle.device.specs.declared.fault.Fault.TheVariants.{PowerGone as Met, NoSuchBlock}
use Rattle.device.specs.declared.put.Put.{Put}
use Rattle.layout.specs.Sizes.{sizes}
use Rattle.layout.specs.declared.geometry.Geometry.{Geometry as CardGeometry}
use Rattle.marks.specs.Marks.{Agree}
use Rattle.marks.specs.declared.mark.Marks.{Marks}
use Rattle.moves.specs.Marking.{Room}
use Rattle.moves.specs.Tied.{Tied}
use Rattle.rule.specs.Agree.{Shown, seen}
use Rattle.rule.specs.Card.{Card, Plan}
use Rattle.rule.specs.Check.{Answer}
use Rattle.history.specs.Events.{State, surveyed, Changes, ByPlan}
use Rattle.walk.specs.Still.{Still, Failed, Refused, Gives}
use Rattle.walk.proofs.Stills.{still}
use Rattle.moves.proofs.Lands.{rooted}
use Rattle.change.specs.Plans.{card_view, plan_view, puts_in, Grounded}
use Rattle.change.specs.declared.plan.Memory.{Memory}
use Rattle.change.specs.declared.plan.Plan.{Plan as CodePlan}
use Rattle.card.specs.Commits.{Commits}
use Rattle.card_lists.specs.Ready.{Kept, Fitting}
use Rattle.card.specs.Calls.{kept_by}
use Rattle.card.specs.Valid.{Knows, Known, memory_view, surveyed_state}
use Rattle.card.proofs.Counts.{fits_moved, gives_count}
use Rattle.card.proofs.Quiet.{Quiet}

-- ---- reads, then writes

pub still_altered : (o : Outcome) (ws : List Put) (m k n : Model) → Still m k → Altered o ws k n → Altered o ws m n
still_altered o ws m k n s a = record {
  count = a.count ∙ s.kept.count;
  power = power_on o a.power;
  shows = shows_on o a.shows;
  joined = λ b x h. elim (a.joined b x h) [ inl q ↦ inl (s.kept.stands b x q) | inr q ↦ inr q ];
}
  where
    power_on : (o : Outcome) → Power o k.power n.power → Power o m.power n.power
    power_on accepted e = e ∙ s.power
    power_on broken e = e

    shows_on : (o : Outcome) → Shows o ws k.shown n.shown → Shows o ws m.shown n.shown
    shows_on accepted e = e ∙ ap (λ (f : ℕ → Block). puts f ws) s.kept.shown
    shows_on broken e = λ b. elim (e b) [ inl q ↦ inl (q ∙ ap (λ (f : ℕ → Block). f b) s.kept.shown) | inr q ↦ inr q ]

pub lost_altered : (ws : List Put) (m k : Model) → Lost m k → Altered broken ws m k
lost_altered ws m k l = record {
  count = l.kept.count;
  power = l.off;
  shows = λ b. inl (ap (λ (f : ℕ → Block). f b) l.kept.shown);
  joined = λ b x h. inl (l.kept.stands b x h);
}

-- ---- the card

module _ {A : Type 0} (plan : Card → Shown → Answer (Plan A)) where
  -- refused before the device was called
  pub changes_early : (c : Kept) (mem : Memory) (m : Model) (r : Answer A) (d e : Refusal) → r ≡ Err d → d ≡ e → plan (memory_view c mem) m.shown ≡ Err e → Changes plan (surveyed_state c mem m) r (surveyed_state c mem m)
  changes_early c mem m r d e p q h = record {
    memory = memory_view c mem;
    card = refl;
    turn = subst (λ (z : Answer (Plan A)). ByPlan z (memory_view c mem) (surveyed_state c mem m) r (surveyed_state c mem m)) (sym h) (inl (p ∙ ap Err q, record { kept = (still m).kept; power = refl; card = refl }));
  }

  module _ (g : CardGeometry) (c : Kept) (is : c ≡ Ok g) (mem : Memory) (m : Model) where
    by_plan : (x : Answer (Plan A)) (r : Answer A) (t : State) → plan (card_view g mem) m.shown ≡ x → ByPlan x (card_view g mem) (surveyed_state c mem m) r t → Changes plan (surveyed_state c mem m) r t
    by_plan x r t e h = record {
      memory = card_view g mem;
      card = ap (λ (z : Kept). surveyed (memory_view z mem)) is;
      turn = subst (λ (z : Answer (Plan A)). ByPlan z (card_view g mem) (surveyed_state c mem m) r t) (sym e) h;
    }

    -- every block of the plan was written
    pub changes_done : (p : Plan A) (k n : Model) (d : Kept) (after : Memory) (r : Answer A) → plan (card_view g mem) m.shown ≡ Ok p → Still m k → Altered accepted p.puts k n →
        d ≡ c → card_view g after ≡ p.card → r ≡ Ok p.answer → Changes plan (surveyed_state c mem m) r (surveyed_state d after n)
    changes_done p k n d after r e s a same card ans = by_plan (Ok p) r (surveyed_state d after n) e (inl (record {
      answer = ans;
      altered = still_altered accepted p.puts m k n s a;
      card = ap (λ (z : Kept). surveyed (memory_view z after)) (same ∙ is) ∙ ap surveyed card;
    }))

    -- power gone broke the writing off
    pub changes_broken : (p : Plan A) (k n : Model) (d : Kept) (after : Memory) (r : Answer A) (b : BlockNo) → plan (card_view g mem) m.shown ≡ Ok p → Still m k → Altered broken p.puts k n →
        d ≡ Err (PowerGone b) → after ≡ mem → r ≡ Err (PowerGone b) → Changes plan (surveyed_state c mem m) r (surveyed_state d after n)
    changes_broken p k n d after r b e s a gone kept ans = by_plan (Ok p) r (surveyed_state d after n) e (inr (record {
      at = b;
      answer = ans;
      altered = still_altered broken p.puts m k n s a;
      card = ap (λ (z : Kept). surveyed (memory_view z after)) gone ∙ ap (λ (z : Memory). surveyed (memory_view (Err (PowerGone b)) z)) kept;
    }))

    -- the rule refused, or a read met power gone; `refuse` has handed the refusal on
    pub changes_refused : (d : Kept) (k n : Model) (e f : Refusal) → g.blocks ≤ m.count → Quiet (plan (card_view g mem) m.shown) →
        f ≡ e → n ≡ k → d ≡ cond (eqb (number_of e) 1) (Err e) c → Refused g (plan (card_view g mem) m.shown) m k e → Changes plan (surveyed_state c mem m) (Err f) (surveyed_state d mem n)
    changes_refused d k n e f fit quiet p s t h =
        subst (λ (z : Model). Changes plan (surveyed_state c mem m) (Err f) (surveyed_state d mem z)) (sym s) (subst (λ (z : Refusal). Changes plan (surveyed_state c mem m) (Err z) (surveyed_state d mem k)) (sym p) (go h))
      where
        gone : (x : Answer (Plan A)) (b : BlockNo) → plan (card_view g mem) m.shown ≡ x → e ≡ PowerGone b → Lost m k → d ≡ Err (PowerGone b) → Changes plan (surveyed_state c mem m) (Err e) (surveyed_state d mem k)
        gone (Ok q) b x is_gone l dd = changes_broken q m k d mem (Err e) b x (still m) (lost_altered q.puts m k l) dd refl (ap Err is_gone)
        gone (Err q) b x is_gone l dd = by_plan (Err q) (Err e) (surveyed_state d mem k) x (inr (b, (sizes g, refl), ap Err is_gone, record { lost = l; card = ap (λ (z : Kept). surveyed (memory_view z mem)) dd }))

        fault : (w : Fault) → e ≡ refusal_of w → Failed g m k w → Changes plan (surveyed_state c mem m) (Err e) (surveyed_state d mem k)
        fault (Met b) is_gone l = gone (plan (card_view g mem) m.shown) b refl is_gone l (t ∙ ap (λ (z : Refusal). cond (eqb (number_of z) 1) (Err z) c) is_gone)
        fault (NoSuchBlock b) is_gone l = absurd (omega (arith, fit, l.1))

        go : Refused g (plan (card_view g mem) m.shown) m k e → Changes plan (surveyed_state c mem m) (Err e) (surveyed_state d mem k)
        go (inl q) = by_plan (Err e) (Err e) (surveyed_state d mem k) q.1 (inl (
          refl,
          record {
            kept = q.0.kept;
            power = q.0.power;
            card = ap (λ (z : Kept). surveyed (memory_view z mem)) (t ∙ cond-false (eqb (number_of e) 1) (Err e) c (ne_eqb (number_of e) 1 (quiet e q.1)));
          },
        ))
        go (inr q) = fault q.0 q.1 q.2

-- ---- what is known stays so

pub still_knows : (g : CardGeometry) (mem : Memory) (ms : Marks) (m k : Model) → k.count ≡ m.count → k.shown ≡ m.shown → Knows g mem ms m → Knows g mem ms k
still_knows g mem ms m k count shown w = record {
  fits = omega (arith, count, w.fits);
  tied = subst (λ (f : Shown). Tied (sizes g) (card_view g mem) f) (sym shown) w.tied;
  marked = subst (λ (f : Shown). Agree (sizes g) (seen (sizes g) f) ms) (sym shown) w.marked;
  room = w.room;
}

pub still_known : (c : Kept) (mem : Memory) (ms : Marks) (m k : Model) → k.count ≡ m.count → k.shown ≡ m.shown → Known c mem ms m → Known c mem ms k
still_known (Ok g) mem ms m k count shown w = still_knows g mem ms m k count shown w
still_known (Err e) mem ms m k count shown w = tt

pub gone_known : (d : Kept) (e : Refusal) (mem : Memory) (ms : Marks) (m : Model) → d ≡ Err e → Known d mem ms m
gone_known d e mem ms m q = subst (λ (z : Kept). Known z mem ms m) (sym q) tt

-- after a refusal
pub refused_known : {B : Type 0} (x : Answer B) (g : CardGeometry) (c d : Kept) (mem : Memory) (ms : Marks) (m k n : Model) (e : Refusal) → g.blocks ≤ m.count → n ≡ k →
    d ≡ cond (eqb (number_of e) 1) (Err e) c → Quiet x → Refused g x m k e → Known c mem ms m → Known d mem ms n
refused_known x g c d mem ms m k n e fit s t quiet h w = subst (λ (z : Model). Known d mem ms z) (sym s) (go h)
  where
    fault : (f : Fault) → e ≡ refusal_of f → Failed g m k f → Known d mem ms k
    fault (Met b) is l = gone_known d (PowerGone b) mem ms k (t ∙ ap (λ (z : Refusal). cond (eqb (number_of z) 1) (Err z) c) is)
    fault (NoSuchBlock b) is l = absurd (omega (arith, fit, l.1))

    go : Refused g x m k e → Known d mem ms k
    go (inl q) = subst (λ (z : Kept). Known z mem ms k) (sym (t ∙ cond-false (eqb (number_of e) 1) (Err e) c (ne_eqb (number_of e) 1 (quiet e q.1))))
        (still_known c mem ms m k q.0.kept.count q.0.kept.shown w)
    go (inr q) = fault q.0 q.1 q.2

-- after an accepted call
pub done_known : {A : Type 0} (g : CardGeometry) (c d : Kept) (after : Memory) (ms : Marks) (m k n : Model) (p : Plan A) → c ≡ Ok g → d ≡ c → g.blocks ≤ m.count → Still m k → Altered accepted p.puts k n →
    card_view g after ≡ p.card → Tied (sizes g) p.card (puts m.shown p.puts) → Agree (sizes g) (seen (sizes g) (puts m.shown p.puts)) ms → Room (sizes g) ms → Known d after ms n
done_known g c d after ms m k n p is same fit s a card tied agree room = subst (λ (z : Kept). Known z after ms n) (sym (same ∙ is)) (record {
  fits = omega (arith, b.count, fit);
  tied = subst (λ (f : Shown). Tied (sizes g) (card_view g after) f) (sym b.shows) (subst (λ (z : Card). Tied (sizes g) z (puts m.shown p.puts)) (sym card) tied);
  marked = subst (λ (f : Shown). Agree (sizes g) (seen (sizes g) f) ms) (sym b.shows) agree;
  room = room;
})
  where
    b : Altered accepted p.puts m n
    b = still_altered accepted p.puts m k n s a

-- ---- what a plan is made from

pub is_known : (c : Kept) (g : CardGeometry) (mem : Memory) (ms : Marks) (m : Model) → c ≡ Ok g → Known c mem ms m → Knows g mem ms m
is_known c g mem ms m is w = subst (λ (z : Kept). Known z mem ms m) is w

pub grounded : (g : CardGeometry) (mem : Memory) (ms : Marks) (m : Model) → Knows g mem ms m → Grounded g m ms
grounded g mem ms m w = record { rooted = rooted (sizes g) (card_view g mem) m.shown w.tied; marked = w.marked }

-- ---- a changing call, from its plan on

-- what is known of its rule: it never answers power gone itself, the blocks of its plan are blocks of the card, and the memory after is tied to them
pub record Call {A : Type 0} (plan : Card → Shown → Answer (Plan A)) (g : CardGeometry) (mem : Memory) (m : Model) : Type 0 where
  pub quiet : Quiet (plan (card_view g mem) m.shown)
  pub inside : (p : Plan A) → plan (card_view g mem) m.shown ≡ Ok p → (n : ℕ) → g.blocks ≤ n → first_outside n p.puts ≡ None
  pub tied : (p : Plan A) → plan (card_view g mem) m.shown ≡ Ok p → Tied (sizes g) p.card (puts m.shown p.puts)

-- the call did what the rule says, and what the card keeps is true
pub record Made {A : Type 0} (plan : Card → Shown → Answer (Plan A)) (c : Kept) (mem : Memory) (m : Model) (r : Answer A) (d : Kept) (after : Memory) (ms : Marks) (n : Model) : Type 0 where
  pub changes : Changes plan (surveyed_state c mem m) r (surveyed_state d after n)
  pub known : Known d after ms n

-- the plan of the call was made, with the answer y; the device is in state k now
pub record Planning {A W : Type 0} (plan : Card → Shown → Answer (Plan A)) (P : W → Type 0) (g : CardGeometry) (c : Kept) (mem : Memory) (ms : Marks) (m : Model) (y : Answer W) (k : Model) : Type 0 where
  pub is : c ≡ Ok g
  pub known : Known c mem ms m
  pub knows : Knows g mem ms m
  pub call : Call plan g mem m
  pub gives : Gives g y (plan (card_view g mem) m.shown) P m k

pub planning : {A W : Type 0} (plan : Card → Shown → Answer (Plan A)) (P : W → Type 0) (g : CardGeometry) (c : Kept) (mem : Memory) (ms : Marks) (m : Model) (y : Answer W) (k : Model) → (Knows g mem ms m → Call plan g mem m) → c ≡ Ok g → Known c mem ms m →
    (Grounded g m ms → Gives g y (plan (card_view g mem) m.shown) P m k) → Planning plan P g c mem ms m y k
planning plan P g c mem ms m y k call is known gives =
    let w = is_known c g mem ms m is known in
    record { is = is; known = known; knows = w; call = call w; gives = gives (grounded g mem ms m w) }

-- what `commit` says of a plan
abbrev Carried : CodePlan → Kept → Memory → Model → Answer (Unit {0}) → Kept → Memory → Model → Type 0
Carried code b mem j r d after n = first_outside j.count (puts_in code) ≡ None → Commits (puts_in code) code.memory b mem j r d after n

module _ {D A W : Type 0} (model : D → Model) {plan : Card → Shown → Answer (Plan A)} {P : W → Type 0} {g : CardGeometry} {c : Kept} {mem : Memory} {ms : Marks} {m : Model} {y : Answer W} {z : D} (l : Planning plan P g c mem ms m y (model z)) where
  pub plan_fits : Fitting c m → Fitting c (model z)
  plan_fits = fits_moved c m (model z) (gives_count g y (plan (card_view g mem) m.shown) P m (model z) l.gives)

  -- the answer as `keep` hands it on: the card has b and the device x then
  module _ {b : Kept} {x : D} where
    pub plan_refused : {e : Refusal} {r : Answer A} → (Err e ≡ y) × (x ≡ z) × (b ≡ kept_by y c) → r ≡ Err e → Made plan c mem m r b mem ms (model x)
    plan_refused {e} {r} h p =
        let q = subst (λ (o : Answer W). Gives g o (plan (card_view g mem) m.shown) P m (model z)) (sym h.0) l.gives in
        let t = h.2 ∙ ap (λ (o : Answer W). kept_by o c) (sym h.0) in
        let same = ap model h.1 in
        record {
          changes = subst (λ (o : Answer A). Changes plan (surveyed_state c mem m) o (surveyed_state b mem (model x))) (sym p) (changes_refused plan g c l.is mem m b (model z) (model x) e e l.knows.fits l.call.quiet refl same t q);
          known = refused_known (plan (card_view g mem) m.shown) g c b mem ms m (model z) (model x) e l.knows.fits same t l.call.quiet q l.known;
        }

    module _ {v : W} (h : (Ok v ≡ y) × (x ≡ z) × (b ≡ kept_by y c)) where
      pub plan_told : Still m (model z) × P v
      plan_told = subst (λ (o : Answer W). Gives g o (plan (card_view g mem) m.shown) P m (model z)) (sym h.0) l.gives

      -- accepted with this plan, which was then carried out
      module _ (a : A) (code : CodePlan) (rule : P v → plan (card_view g mem) m.shown ≡ Ok (plan_view a g code)) where
        commits : (d : Kept) (after : Memory) (n : Model) (r : Answer (Unit {0})) → Carried code b mem (model x) r d after n → Commits (puts_in code) code.memory c mem (model z) r d after n
        commits d after n r q =
            let same = ap model h.1 in
            let inside = l.call.inside (plan_view a g code) (rule plan_told.1) (model z).count (omega (arith, plan_told.0.kept.count, l.knows.fits)) in
            subst (λ (o : Kept). Commits (puts_in code) code.memory o mem (model z) r d after n) (h.2 ∙ ap (λ (o : Answer W). kept_by o c) (sym h.0))
            (subst (λ (o : Model). Commits (puts_in code) code.memory b mem o r d after n) same
            (q (subst (λ (o : Model). first_outside o.count (puts_in code) ≡ None) (sym same) inside)))

        pub plan_broken : {d : Kept} {after : Memory} {n : Model} {e : Refusal} {r : Answer A} → Carried code b mem (model x) (Err e) d after n → r ≡ Err e → Made plan c mem m r d after ms n
        plan_broken {d} {after} {n} {e} {r} q p =
            let o = commits d after n (Err e) q in
            record {
              changes = changes_broken plan g c l.is mem m (plan_view a g code) (model z) n d after r o.0 (rule plan_told.1) plan_told.0 o.2 o.3 o.4 (p ∙ ap Err o.1);
              known = gone_known d (PowerGone o.0) after ms n o.3;
            }

        pub plan_done : {d : Kept} {after : Memory} {n : Model} → Carried code b mem (model x) (Ok tt) d after n → Changes plan (surveyed_state c mem m) (Ok a) (surveyed_state d after n)
        plan_done {d} {after} {n} q =
            let o = commits d after n (Ok tt) q in
            changes_done plan g c l.is mem m (plan_view a g code) (model z) n d after (Ok a) (rule plan_told.1) plan_told.0 o.0 o.1 (ap (card_view g) o.2) refl

        -- the marks follow
        pub plan_marked : {d : Kept} {after : Memory} {n : Model} → Carried code b mem (model x) (Ok tt) d after n → {marks : Marks} (new : Marks) → marks ≡ new → Agree (sizes g) (seen (sizes g) (puts m.shown (puts_in code))) new → Room (sizes g) new → Known d after marks n
        plan_marked {d} {after} {n} q new set agree room =
            let o = commits d after n (Ok tt) q in
            subst (λ (k : Marks). Known d after k n) (sym set)
            (done_known g c d after new m (model z) n (plan_view a g code) l.is o.1 l.knows.fits plan_told.0 o.0 (ap (card_view g) o.2) (l.call.tied (plan_view a g code) (rule plan_told.1)) agree room)
