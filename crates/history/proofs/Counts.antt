-- Which calls count as made.
use Rattle.std.proofs.Common.{◌≡◌, ◌⊎◌, Ok, Err, sym, refl, ap, ◌∙◌, inl, inr}
use Rattle.base.specs.declared.owner.Kind.TheVariants.{Folder}
use Rattle.base.specs.declared.owner.Handle.{Handle}
use Rattle.layout.specs.Format.{Name}
use Rattle.rule.specs.Agree.{Shown, seen}
use Rattle.rule.specs.Check.{Answer}
use Rattle.rule.specs.Card.{Card, Plan}
use Rattle.rule.specs.Reading.{named}
use Rattle.rule.specs.Reading as rule_of_reading
use Rattle.rule.specs.Changing.{remove}
use Rattle.rule.specs.Changing as rule_of_changing
use Rattle.rule.proofs.Means.{found_is_found}
use Rattle.rule.proofs.Plans.{clash_ok, bind_ok, check_ok, demand_ok, ok_same, changing_ok}
use Rattle.rule.proofs.Answered.{find_means}
use Rattle.history.specs.Events as events
use Rattle.history.specs.Events.{Phase, State, Event, ByPlan, Changes}
use Rattle.history.specs.History.{Deed, created, wrote, shortened, removed, nothing, from_answer, planned, deed_on, deed}
use Rattle.history.specs.Counts.{AcceptedCallsCount, AcceptedOrGone, RefusedCallsDoNothing, CallsCount}

module _ {A : Type 0} (plan : Card → Shown → Answer (Plan A)) (e : Event) (doing : Card → Plan A → Deed) (s t : State) (r : Answer A) (st : Changes plan s r t)
    (is : (c : Card) → planned c s.device.shown e ≡ from_answer (plan c s.device.shown) (doing c)) where
  on_card : deed s e ≡ from_answer (plan st.memory s.device.shown) (doing st.memory)
  on_card = ap (λ (p : Phase). deed_on p s.device.shown e) st.card ∙ is st.memory

  accepted_plan : (a : A) (p : Answer (Plan A)) → r ≡ Ok a → ByPlan p st.memory s r t → (w : Plan A) × (p ≡ Ok w) × (w.answer ≡ a)
  accepted_plan a (Ok p) ok (inl w) = (p, refl, ok_same (sym w.answer ∙ ok))
  accepted_plan a (Ok p) ok (inr w) = clash_ok (sym w.answer ∙ ok)
  accepted_plan a (Err x) ok (inl w) = clash_ok (sym w.0 ∙ ok)
  accepted_plan a (Err x) ok (inr w) = clash_ok (sym w.2 ∙ ok)

  accepted : (a : A) → r ≡ Ok a → (w : Plan A) × (plan st.memory s.device.shown ≡ Ok w) × (w.answer ≡ a) × (deed s e ≡ doing st.memory w)
  accepted a ok =
      let q = accepted_plan a (plan st.memory s.device.shown) ok st.turn in
      (q.0, q.1, q.2, on_card ∙ ap (λ x. from_answer x (doing st.memory)) q.1)

  counts : (p : Answer (Plan A)) → ByPlan p st.memory s r t → (from_answer p (doing st.memory) ≡ nothing) ⊎ AcceptedOrGone r
  counts (Ok p) (inl w) = inr (inl (p.answer, w.answer))
  counts (Ok p) (inr w) = inr (inr (w.at, w.answer))
  counts (Err x) w = inl refl

  pub otherwise_nothing : (deed s e ≡ nothing) ⊎ AcceptedOrGone r
  otherwise_nothing = elim (counts (plan st.memory s.device.shown) st.turn) [ inl q ↦ inl (on_card ∙ q) | inr q ↦ inr q ]

-- where remove has a plan, find finds the child
child_found : (f : Handle) (n : Name) (c : Card) (shown : Shown) (p : Plan (Unit {0})) → rule_of_changing.remove f n c shown ≡ Ok p → (h : Handle) × (rule_of_reading.find f n c.ready shown ≡ Ok h)
unfolding remove named
child_found f n c shown p e =
    let a = bind_ok _ _ p e in
    let b = bind_ok _ _ p a.2 in
    let g = b.0 in
    let k = bind_ok _ _ p b.2 in
    let q = bind_ok _ _ p k.2 in
    let m = changing_ok g (seen g shown) Folder f k.0 k.1 in
    let w = (found_is_found g (seen g shown) f k.0 n m.fits).0 q.0 (demand_ok _ _ q.0 q.1) in
    (w.0, ap (λ x. rule_of_reading.find f n x shown) b.1 ∙ (find_means f n g shown w.0).1 (check_ok _ _ _ a.1, w.2))

pub calls_count : CallsCount
calls_count s t = (yes, no_other)
  where
    yes : AcceptedCallsCount s t
    yes = record {
      create = λ d f n c st.
          let q = accepted (rule_of_changing.create d f n) (events.create d f n (Ok c)) (λ m p. created d f n p.answer) s t (Ok c) st (λ m. refl) c refl in
          q.3 ∙ ap (created d f n) q.2;
      write = λ h k x st. (accepted (rule_of_changing.write h k x) (events.write h k x (Ok tt)) (λ m p. wrote h k x) s t (Ok tt) st (λ m. refl) tt refl).3;
      shorten = λ h n st. (accepted (rule_of_changing.shorten h n) (events.shorten h n (Ok tt)) (λ m p. shortened h) s t (Ok tt) st (λ m. refl) tt refl).3;
      remove = λ f n st.
          let q = accepted (rule_of_changing.remove f n) (events.remove f n (Ok tt)) (λ m p. from_answer (rule_of_reading.find f n m.ready s.device.shown) removed) s t (Ok tt) st (λ m. refl) tt refl in
          let c = child_found f n st.memory s.device.shown q.0 q.1 in
          (c.0, q.3 ∙ ap (λ x. from_answer x removed) c.1);
    }

    no_other : RefusedCallsDoNothing s t
    no_other = record {
      create = λ d f n r st. otherwise_nothing (rule_of_changing.create d f n) (events.create d f n r) (λ m p. created d f n p.answer) s t r st (λ m. refl);
      write = λ h k x r st. otherwise_nothing (rule_of_changing.write h k x) (events.write h k x r) (λ m p. wrote h k x) s t r st (λ m. refl);
      shorten = λ h n r st. otherwise_nothing (rule_of_changing.shorten h n) (events.shorten h n r) (λ m p. shortened h) s t r st (λ m. refl);
      remove = λ f n r st. otherwise_nothing (rule_of_changing.remove f n) (events.remove f n r) (λ m p. from_answer (rule_of_reading.find f n m.ready s.device.shown) removed) s t r st (λ m. refl);
    }
