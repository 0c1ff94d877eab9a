-- Each step of a history adds nothing to what may stand, or the blocks of an accepted or broken-off call.
use Rattle.std.proofs.Common.{◌≡◌, ℕ, zero, suc, ◌+◌, ◌-◌, ◌<◌, ◌≤◌, Bool, true, false, cond, ltb, ◌⊎◌, List, [], ◌∷◌, Some, Ok, Err, Result, sym, refl, ap, ◌∙◌, subst, inl, inr, arith}
use Rattle.std.proofs.lemmas.Bool.{cases_lt, cases_eq}
use Rattle.base.specs.declared.number.BlockNo.{BlockNo}
use Rattle.base.specs.declared.owner.Kind.{Kind}
use Rattle.base.specs.declared.owner.Handle.{Handle}
use Rattle.base.specs.declared.refusal.Refusal.{Refusal}
use Rattle.device.specs.Model.{Model, Block, Stands, OnlyShown, Kept, Cut}
use Rattle.device.specs.Answers.{SyncAnswer}
use Rattle.device.specs.Effect.{PutAt}
use Rattle.device.specs.declared.put.Put.{Put}
use Rattle.device.specs.declared.fault.Synced.{Synced}
use Rattle.device.specs.declared.fault.Synced.TheVariants.{Settled as SettledAnswer, Unsure}
use Rattle.layout.specs.Format.{Name, Geometry, Content, cover, cover_of}
use Rattle.layout.specs.Identities.{told}
use Rattle.rule.specs.Agree.{Shown, seen, from}
use Rattle.rule.specs.Check.{Answer}
use Rattle.rule.specs.Card.{Ready, Card, Plan, Opened, Surveying, lost, lost_opened, geometry_in, opening, examined, survey_step, highest_of, ended_by}
use Rattle.rule.specs.Card as rule_of_card
use Rattle.rule.specs.Reading as rule_of_reading
use Rattle.rule.specs.Changing.{last_identity}
use Rattle.rule.specs.Changing as rule_of_changing
use Rattle.rule.specs.Meaning.{Rooted}
use Rattle.rule.specs.Readings.{InRange}
use Rattle.rule.specs.Calls.{Writes, Shortens, Creates, Removes}
use Rattle.rule.proofs.Plans.{clash_ok, bind_ok, demand_ok, ok_same, create_means, write_means, shorten_means, remove_means}
use Rattle.rule.proofs.Answered.{find_means, create_keeps_range, write_keeps_range}
use Rattle.history.specs.Events as events
use Rattle.history.specs.Events.{Phase, closed, opened, surveyed, State, Event, gone_at, Still, Gone, Reads, ByPlan, Changes, ByDevice, Opens, ByStep, Step}
use Rattle.history.specs.History.{Moment, present, Deed, created, wrote, shortened, removed, nothing, from_answer, planned, deed_on, deed, gives}
use Rattle.history.proofs.Written.{parse_cover, parse_beyond}
use Rattle.history.proofs.Log.{did, same_apart}
use Rattle.history.proofs.Stands.{May, view, may_shown, only_may, may_fewer, Carded, Inv}
use Rattle.history.proofs.Sorts.{Fair}
use Rattle.history.proofs.Puts.{write_fair, shorten_fair, create_fair, remove_fair}

-- ---- the two sorts of step

-- nothing joins what may stand
pub record Quiet (g : Geometry) (s : State) (ms : List Moment) (m : Moment) : Type 0 where
  pub idle : did s m ms ≡ nothing
  pub count : m.state.device.count ≡ (present s ms).device.count
  pub fewer : (b : ℕ) (z : Block) → Stands m.state.device b z → Stands (present s ms).device b z
  pub card : Carded g m.state.device m.state.card

-- the puts of an accepted or broken-off call join
pub record Busy (g : Geometry) (s : State) (ms : List Moment) (m : Moment) : Type 0 where
  pub memory : Card
  pub card : (present s ms).card ≡ surveyed memory
  pub doing : Deed
  pub done : did s m ms ≡ doing
  pub count : m.state.device.count ≡ (present s ms).device.count
  pub ws : List Put
  pub joined : (b : ℕ) (z : Block) → Stands m.state.device b z → Stands (present s ms).device b z ⊎ PutAt b z ws
  pub counted : (b : ℕ) (y : Content) → May g (present s ms).device b y → told g y ≤ memory.highest
  pub top : ℕ
  pub rises : memory.highest ≤ top
  pub low : top ≤ last_identity
  pub new : (h : Handle) → h.identity.0 ≤ memory.highest → gives (did s m ms) h ≡ false
  pub fair : (b : ℕ) (z : Block) → PutAt b z ws → Fair g (view g (present s ms).device) s (m ∷ ms) doing memory.highest top b z
  pub then : (c : Card) × (m.state.card ≡ surveyed c) × ((h : Geometry) → c.ready ≡ Ok h → (h ≡ g) × (c.highest ≡ top) × InRange g c)

-- ---- what a quiet step leaves of the card

only_kept : (m n : Model) → Kept m n → OnlyShown m → OnlyShown n
only_kept m n k o b z i = o b z (k.stands b z i) ∙ ap (λ (f : ℕ → Block). f b) (sym k.shown)

carded_kept : (g : Geometry) (m n : Model) → Kept m n → (p : Phase) → Carded g m p → Carded g n p
carded_kept g m n k closed c = only_kept m n k c
carded_kept g m n k (opened o) c = (
  only_kept m n k c.0,
  λ h e. let w = c.1 h e in (w.0, w.1, λ b up low. subst (λ (f : ℕ → Block). told g (seen g f b) ≤ o.highest) (sym k.shown) (w.2 b up low)),
)
carded_kept g m n k (surveyed c) d = λ h e. let w = d h e in (w.0, w.1, (λ b y i. w.2 b y (may_fewer g m n k.stands b y i)), w.3)

carded_gone : (g : Geometry) (m n : Model) (b : BlockNo) → Kept m n → (p : Phase) → Carded g m p → Carded g n (gone_at b p)
carded_gone g m n b k closed c = only_kept m n k c
carded_gone g m n b k (opened o) c = (only_kept m n k c.0, λ h e. clash_ok e)
carded_gone g m n b k (surveyed c) d = λ h e. clash_ok e

idle_deed : (p : Phase) (shown : Shown) (e : Event) → ((c : Card) → planned c shown e ≡ nothing) → deed_on p shown e ≡ nothing
idle_deed closed shown e i = refl
idle_deed (opened o) shown e i = refl
idle_deed (surveyed c) shown e i = i c

module _ (g : Geometry) (s : State) (ms : List Moment) (iv : Inv g s ms (present s ms)) (t : State) where
  abbrev u : State
  u = present s ms

  abbrev after : Event → Moment
  after e = record { event = e; state = t }

  -- nothing was written, and the card is as before
  still_quiet : (e : Event) → deed u e ≡ nothing → Still u t u.card → Quiet g s ms (after e)
  still_quiet e i st = record {
    idle = i;
    count = st.kept.count;
    fewer = st.kept.stands;
    card = subst (Carded g t.device) (sym st.card) (carded_kept g u.device t.device st.kept u.card iv.card);
  }

  gone_quiet : (e : Event) (b : BlockNo) (p : Phase) → deed u e ≡ nothing → u.card ≡ p → Gone u t (gone_at b p) → Quiet g s ms (after e)
  gone_quiet e b p i q st = record {
    idle = i;
    count = st.lost.kept.count;
    fewer = st.lost.kept.stands;
    card = subst (Carded g t.device) (sym st.card) (carded_gone g u.device t.device b st.lost.kept p (subst (Carded g u.device) q iv.card));
  }

  reads_quiet : {A E : Type 0} (e : Event) (met : BlockNo → E) (rule : Ready → Shown → Result A E) (r : Result A E) → deed u e ≡ nothing → Reads met rule u r t → Quiet g s ms (after e)
  reads_quiet e met rule r i rd = elim rd.turn [
    | inl w ↦ still_quiet e i w.1
    | inr w ↦ gone_quiet e w.0 u.card i refl w.3
  ]

  -- ---- opening and surveying

  opens_geometry : (h : Geometry) → opening u.device.count u.device.shown ≡ Ok h → h ≡ g
  unfolding opening
  opens_geometry h e =
      let a = bind_ok _ _ h e in
      let b = bind_ok _ _ h a.2 in
      let c = bind_ok _ _ h b.2 in
      let d = bind_ok _ _ h c.2 in
      let same : b.0 ≡ h = ok_same d.2 in
      let cov : geometry_in (cover_of (u.device.shown 0)) ≡ Some b.0 = demand_ok _ _ b.0 b.1 in
      let own : geometry_in (cover_of (u.device.shown 0)) ≡ Some g = ap geometry_in (iv.cover (u.device.shown 0) (u.device.among 0)) in
      let eq : Some b.0 ≡ Some g = sym cov ∙ own in
      let z : b.0 ≡ g = cc in
      sym same ∙ z

  opens_quiet : Opens u t → Quiet g s ms (after events.opening)
  opens_quiet op = elim op.turn [
    | inl st ↦ record {
      idle = i;
      count = st.kept.count;
      fewer = st.kept.stands;
      card = subst (Carded g t.device) (sym st.card) (only_kept u.device t.device st.kept only, λ h e. (opens_geometry h e, omega arith, λ b up low. absurd (omega arith)));
    }
    | inr w ↦ record {
      idle = i;
      count = w.1.lost.kept.count;
      fewer = w.1.lost.kept.stands;
      card = subst (Carded g t.device) (sym w.1.card) (only_kept u.device t.device w.1.lost.kept only, λ h e. clash_ok e);
    }
  ]
    where
      i : deed u events.opening ≡ nothing
      i = idle_deed u.card u.device.shown events.opening (λ c. refl)

      only : OnlyShown u.device
      only = subst (Carded g u.device) op.card iv.card

  module _ (o : Opened) (is : u.card ≡ opened o) where
    known : Carded g u.device (opened o)
    known = subst (Carded g u.device) is iv.card

    -- one block more was examined
    examined_carded : (h : Geometry) → o.ready ≡ Ok h → Kept u.device t.device → Carded g t.device (opened (examined h u.device.shown o))
    examined_carded h live k = carded_kept g u.device t.device k (opened (examined h u.device.shown o)) (known.0, λ j e. more j e)
      where
        more : (j : Geometry) → o.ready ≡ Ok j → (j ≡ g) × ((examined h u.device.shown o).highest ≤ last_identity) × ((b : ℕ) → 0 < b → b < suc o.next → told g (view g u.device b) ≤ (examined h u.device.shown o).highest)
        more j e =
            let w = known.1 j e in
            let hg : h ≡ g = ok_same (sym live ∙ e) ∙ w.0 in
            let same : told h (seen h u.device.shown o.next) ≡ told g (view g u.device o.next) = ap (λ (x : Geometry). told x (seen x u.device.shown o.next)) hg in
            let here : told g (view g u.device o.next) ≤ last_identity = iv.narrow o.next (view g u.device o.next) (may_shown g u.device o.next (view g u.device o.next) refl) in (
              w.0,
              (let a = w.1 in omega arith),
              λ b up low. elim (cases_eq b o.next) [
                | inl q ↦ subst (λ (i : ℕ). told g (view g u.device i) ≤ (examined h u.device.shown o).highest) (sym q) (omega arith)
                | inr q ↦ (let a = w.2 b up (omega arith) in omega arith)
              ],
            )

    step_carded : (w : Surveying) → survey_step o u.device.shown ≡ Ok w → Kept u.device t.device → Carded g t.device (opened w.card)
    unfolding survey_step
    step_carded w e k =
        let a = bind_ok _ _ w e in
        go a.0 a.1 (ltb o.next a.0.blocks) (ok_same a.2)
      where
        go : (h : Geometry) → o.ready ≡ Ok h → (b : Bool) → cond b (record { remain = h.blocks - suc o.next; card = examined h u.device.shown o }) (record { remain = 0; card = o }) ≡ w → Carded g t.device (opened w.card)
        go h live true q = subst (λ (x : Surveying). Carded g t.device (opened x.card)) q (examined_carded h live k)
        go h live false q = subst (λ (x : Surveying). Carded g t.device (opened x.card)) q (carded_kept g u.device t.device k (opened o) known)

    survey_quiet : (r : Answer (ℕ × ℕ)) (a : Answer Surveying) → survey_step o u.device.shown ≡ a → ByStep a o u r t → Quiet g s ms (after (events.survey r))
    survey_quiet r (Ok w) e (inl q) = record {
      idle = idle_deed u.card u.device.shown (events.survey r) (λ c. refl);
      count = q.1.kept.count;
      fewer = q.1.kept.stands;
      card = subst (Carded g t.device) (sym q.1.card) (step_carded w e q.1.kept);
    }
    survey_quiet r (Ok w) e (inr q) = gone_quiet (events.survey r) q.0 (opened o) (idle_deed u.card u.device.shown (events.survey r) (λ c. refl)) is q.2
    survey_quiet r (Err x) e q = still_quiet (events.survey r) (idle_deed u.card u.device.shown (events.survey r) (λ c. refl)) q.1

    highest_low : (bs : List ℕ) → highest_of g (view g u.device) bs ≤ last_identity
    highest_low [] = omega arith
    highest_low (b ∷ bs) =
        let a = iv.narrow b (view g u.device b) (may_shown g u.device b (view g u.device b) refl) in
        let c = highest_low bs in
        omega arith

    highest_covers : (i n b : ℕ) → i ≤ b → b < i + n → told g (view g u.device b) ≤ highest_of g (view g u.device) (from i n)
    highest_covers i zero b up low = absurd (omega arith)
    highest_covers i (suc n) b up low = elim (cases_eq b i) [
      | inl q ↦ subst (λ (j : ℕ). told g (view g u.device j) ≤ highest_of g (view g u.device) (from i (suc n))) (sym q) (omega arith)
      | inr q ↦ (let a = highest_covers (suc i) n b (omega arith) (omega arith) in omega arith)
    ]

    -- the survey's end has counted every block that shows, and nothing else may stand
    all_counted : (top : ℕ) → o.highest ≤ top → ((b : ℕ) → 0 < b → b < o.next → told g (view g u.device b) ≤ o.highest) →
        highest_of g (view g u.device) (from o.next (g.blocks - o.next)) ≤ top → (b : ℕ) (y : Content) → May g u.device b y → told g y ≤ top
    all_counted top up before rest b y i = subst (λ (x : Content). told g x ≤ top) (sym (only_may g u.device known.0 b y i)) (shown b)
      where
        shown : (b : ℕ) → told g (view g u.device b) ≤ top
        shown zero =
            let e : view g u.device 0 ≡ cover g = parse_cover g (u.device.shown 0) ∙ iv.cover (u.device.shown 0) (u.device.among 0) in
            let z = ap (told g) e in omega arith
        shown (suc b) = elim (cases_lt (suc b) o.next) [
          | inl l ↦ (let z = before (suc b) (omega arith) l in omega arith)
          | inr l ↦ elim (cases_lt (suc b) g.blocks) [
            | inl low ↦ (let z = highest_covers o.next (g.blocks - o.next) (suc b) l (omega arith) in omega arith)
            | inr far ↦ (let z = ap (told g) (parse_beyond g (suc b) (u.device.shown (suc b)) (let w = iv.limits.bodies in omega arith) far) in omega arith)
          ]
        ]

    ended_carded : (x : Ready) → o.ready ≡ x → Kept u.device t.device → Carded g t.device (surveyed (ended_by x o u.device.shown))
    ended_carded (Err e) is k = λ h q. clash_ok q
    ended_carded (Ok h) is k = carded_kept g u.device t.device k (surveyed (ended_by (Ok h) o u.device.shown)) fine
      where
        w : (h ≡ g) × (o.highest ≤ last_identity) × ((b : ℕ) → 0 < b → b < o.next → told g (view g u.device b) ≤ o.highest)
        w = known.1 h is

        same : highest_of h (seen h u.device.shown) (from o.next (h.blocks - o.next)) ≡ highest_of g (view g u.device) (from o.next (g.blocks - o.next))
        same = ap (λ (x : Geometry). highest_of x (seen x u.device.shown) (from o.next (x.blocks - o.next))) w.0

        fine : (j : Geometry) → ◌≡◌ {A = Ready} (Ok h) (Ok j) → (j ≡ g) × ((ended_by (Ok h) o u.device.shown).highest ≤ last_identity) × ((b : ℕ) (y : Content) → May g u.device b y → told g y ≤ (ended_by (Ok h) o u.device.shown).highest) × InRange g (ended_by (Ok h) o u.device.shown)
        fine j q =
            let low = highest_low (from o.next (g.blocks - o.next)) in (
              sym (ok_same q) ∙ w.0,
              (let e = same in let a = w.1 in omega arith),
              all_counted (ended_by (Ok h) o u.device.shown).highest (omega arith) w.2 (let e = same in omega arith),
              (let e = ap (λ (x : Geometry). x.slots) w.0 in let l = iv.limits.bodies in record { slot = omega arith; body = ((omega arith), (omega arith)) }),
            )

    ends_quiet : Still u t (surveyed (rule_of_card.surveyed o u.device.shown)) ⊎ ((b : BlockNo) × events.Live o.ready × Gone u t (surveyed (rule_of_card.surveyed (lost_opened b o) u.device.shown))) → Quiet g s ms (after events.ending)
    unfolding rule_of_card.surveyed
    ends_quiet (inl st) = record {
      idle = idle_deed u.card u.device.shown events.ending (λ c. refl);
      count = st.kept.count;
      fewer = st.kept.stands;
      card = subst (Carded g t.device) (sym st.card) (ended_carded o.ready refl st.kept);
    }
    ends_quiet (inr w) = record {
      idle = idle_deed u.card u.device.shown events.ending (λ c. refl);
      count = w.2.lost.kept.count;
      fewer = w.2.lost.kept.stands;
      card = subst (Carded g t.device) (sym w.2.card) (λ h q. clash_ok q);
    }

  -- ---- sync and cut

  sync_quiet : (r : Answer (Unit {0})) (x : Ready) → ByDevice x u r t → Quiet g s ms (after (events.sync r))
  sync_quiet r (Err e) q = still_quiet (events.sync r) (idle_deed u.card u.device.shown (events.sync r) (λ c. refl)) q.1
  sync_quiet r (Ok h) (inr w) = gone_quiet (events.sync r) w.0 u.card (idle_deed u.card u.device.shown (events.sync r) (λ c. refl)) refl w.3
  sync_quiet r (Ok h) (inl w) =
      let k = kept w.0 w.2 in
      record {
        idle = idle_deed u.card u.device.shown (events.sync r) (λ c. refl);
        count = k.count;
        fewer = k.stands;
        card = subst (Carded g t.device) (sym w.3) (carded_kept g u.device t.device k u.card iv.card);
      }
    where
      kept : (a : Synced) → SyncAnswer u.device t.device a → Kept u.device t.device
      kept SettledAnswer a = a.stayed.kept
      kept Unsure a = a.kept

  cut_quiet : Cut u.device t.device → t.card ≡ closed → Quiet g s ms (after events.cut)
  cut_quiet c e = record {
    idle = idle_deed u.card u.device.shown events.cut (λ c. refl);
    count = c.count;
    fewer = λ b z i. subst (Stands u.device b) (sym (c.only b z i)) (c.landed b);
    card = subst (Carded g t.device) (sym e) c.only;
  }

  -- ---- changing calls

  rooted : Rooted g (view g u.device)
  rooted =
      let w = iv.root (view g u.device 1) (may_shown g u.device 1 (view g u.device 1) refl) in
      (w.0, record { inside = (let l = iv.limits.low in omega arith); holds = w.1; same = w.2.own })

  -- what a plan brings, where the rule has one
  pub record Ruled (e : Event) (c : Card) (ws : List Put) (next : Card) : Type 0 where
    pub doing : Deed
    pub done : planned c u.device.shown e ≡ doing
    pub counted : (b : ℕ) (y : Content) → May g u.device b y → told g y ≤ c.highest
    pub top : ℕ
    pub rises : c.highest ≤ top
    pub low : top ≤ last_identity
    pub new : (h : Handle) → h.identity.0 ≤ c.highest → gives doing h ≡ false
    pub fair : did s (after e) ms ≡ doing → (b : ℕ) (z : Block) → PutAt b z ws → Fair g (view g u.device) s (after e ∷ ms) doing c.highest top b z
    pub live : (h : Geometry) → next.ready ≡ Ok h → h ≡ g
    pub reaches : next.highest ≡ top
    pub range : InRange g next

  module _ {A : Type 0} (plan : Card → Shown → Answer (Plan A)) (e : Event) (says : (c : Card) (shown : Shown) → Deed)
      (is : (c : Card) (shown : Shown) → planned c shown e ≡ says c shown) (refused : (c : Card) (shown : Shown) (x : Refusal) → plan c shown ≡ Err x → says c shown ≡ nothing)
      (ruled : (c : Card) (p : Plan A) → u.card ≡ surveyed c → plan c u.device.shown ≡ Ok p → Ruled e c p.puts p.card) where
    on_card : (c : Card) → u.card ≡ surveyed c → deed u e ≡ planned c u.device.shown e
    on_card c q = ap (λ (p : Phase). deed_on p u.device.shown e) q

    busy : (c : Card) (p : Plan A) → u.card ≡ surveyed c → plan c u.device.shown ≡ Ok p → t.device.count ≡ u.device.count →
        ((b : ℕ) (z : Block) → Stands t.device b z → Stands u.device b z ⊎ PutAt b z p.puts) →
        ((d : Card) × (t.card ≡ surveyed d) × ((h : Geometry) → d.ready ≡ Ok h → (d ≡ p.card))) → Busy g s ms (after e)
    busy c p q ok count joined then =
        let r = ruled c p q ok in
        let done = on_card c q ∙ r.done in
        record {
          memory = c;
          card = q;
          doing = r.doing;
          done = done;
          count = count;
          ws = p.puts;
          joined = joined;
          counted = r.counted;
          top = r.top;
          rises = r.rises;
          low = r.low;
          new = λ h l. ap (λ (d : Deed). gives d h) done ∙ r.new h l;
          fair = r.fair done;
          then = (then.0, then.1, λ h live. (let same = then.2 h live in (r.live h (ap (λ (d : Card). d.ready) (sym same) ∙ live), ap (λ (d : Card). d.highest) same ∙ r.reaches, subst (InRange g) (sym same) r.range)));
        }

    by_plan : (c : Card) (r : Answer A) (a : Answer (Plan A)) → u.card ≡ surveyed c → plan c u.device.shown ≡ a → ByPlan a c u r t → Quiet g s ms (after e) ⊎ Busy g s ms (after e)
    by_plan c r (Ok p) q ok (inl w) = inr (busy c p q ok w.altered.count w.altered.joined (p.card, w.card, λ h live. refl))
    by_plan c r (Ok p) q ok (inr w) = inr (busy c p q ok w.altered.count w.altered.joined (lost w.at c, w.card, λ h live. clash_ok live))
    by_plan c r (Err x) q bad (inl w) = inl (still_quiet e (on_card c q ∙ is c u.device.shown ∙ refused c u.device.shown x bad) w.1)
    by_plan c r (Err x) q bad (inr w) = inl (gone_quiet e w.0 (surveyed c) (on_card c q ∙ is c u.device.shown ∙ refused c u.device.shown x bad) q w.3)

    changes_moves : (r : Answer A) → Changes plan u r t → Quiet g s ms (after e) ⊎ Busy g s ms (after e)
    changes_moves r ch = by_plan ch.memory r (plan ch.memory u.device.shown) ch.card refl ch.turn

  -- the memory of a surveyed card whose plan was accepted
  memory_known : (c : Card) (h : Geometry) → u.card ≡ surveyed c → c.ready ≡ Ok h → (h ≡ g) × (c.highest ≤ last_identity) × ((b : ℕ) (y : Content) → May g u.device b y → told g y ≤ c.highest) × InRange g c
  memory_known c h q live = subst (Carded g u.device) q iv.card h live

  err_nothing : {A : Type 0} (a : Answer A) (k : A → Deed) (x : Refusal) → a ≡ Err x → from_answer a k ≡ nothing
  err_nothing a k x e = ap (λ b. from_answer b k) e

  ok_deed : {A : Type 0} (a : Answer A) (k : A → Deed) (p : A) → a ≡ Ok p → from_answer a k ≡ k p
  ok_deed a k p e = ap (λ b. from_answer b k) e

  create_ruled : (d : Kind) (f : Handle) (n : Name) (r : Answer Handle) (c : Card) (p : Plan Handle) → u.card ≡ surveyed c → rule_of_changing.create d f n c u.device.shown ≡ Ok p → Ruled (events.create d f n r) c p.puts p.card
  create_ruled d f n r c p q ok =
      let w = create_means d f n c u.device.shown p ok in
      let k = memory_known c w.0 q w.1 in
      let cr : Creates g (view g u.device) c d f n p = subst (λ (h : Geometry). Rooted h (seen h u.device.shown) → Creates h (seen h u.device.shown) c d f n p) k.0 w.2 rooted in
      record {
        doing = created d f n p.answer;
        done = ok_deed (rule_of_changing.create d f n c u.device.shown) (λ p. created d f n p.answer) p ok;
        counted = k.2;
        top = suc c.highest;
        rises = omega arith;
        low = (let z = cr.narrow in omega arith);
        new = λ h l. same_apart p.answer h (λ e. let z = cr.fresh in omega arith);
        fair = λ done. create_fair g s ms u iv c.highest k.2 k.1 (after (events.create d f n r)) d f n c p cr refl done;
        live = λ h e. sym (ok_same (sym (ap (λ (x : Card). x.ready) cr.after ∙ w.1) ∙ e)) ∙ k.0;
        reaches = ap (λ (x : Card). x.highest) cr.after ∙ cr.fresh;
        range = create_keeps_range g (view g u.device) c d f n p cr k.3;
      }

  write_ruled : (h : Handle) (i : ℕ) (x : List ℕ) (r : Answer (Unit {0})) (c : Card) (p : Plan (Unit {0})) → u.card ≡ surveyed c → rule_of_changing.write h i x c u.device.shown ≡ Ok p → Ruled (events.write h i x r) c p.puts p.card
  write_ruled h i x r c p q ok =
      let w = write_means h i x c u.device.shown p ok in
      let k = memory_known c w.0 q w.1 in
      let wr : Writes g (view g u.device) c h i x p = subst (λ (y : Geometry). Rooted y (seen y u.device.shown) → Writes y (seen y u.device.shown) c h i x p) k.0 w.2 rooted in
      let same : (p.card.ready ≡ c.ready) × (p.card.highest ≡ c.highest) = elim wr.blocks [
        | inl a ↦ (ap (λ (y : Card). y.ready) a.after, ap (λ (y : Card). y.highest) a.after)
        | inr a ↦ (ap (λ (y : Card). y.ready) a.after, ap (λ (y : Card). y.highest) a.after)
      ] in
      record {
        doing = wrote h i x;
        done = ok_deed (rule_of_changing.write h i x c u.device.shown) (λ p. wrote h i x) p ok;
        counted = k.2;
        top = c.highest;
        rises = omega arith;
        low = k.1;
        new = λ a l. refl;
        fair = λ done. write_fair g s ms u iv c.highest k.2 k.1 (after (events.write h i x r)) h i x done c p wr;
        live = λ y e. sym (ok_same (sym (same.0 ∙ w.1) ∙ e)) ∙ k.0;
        reaches = same.1;
        range = write_keeps_range g (view g u.device) c h i x p wr k.3;
      }

  shorten_ruled : (h : Handle) (n : ℕ) (r : Answer (Unit {0})) (c : Card) (p : Plan (Unit {0})) → u.card ≡ surveyed c → rule_of_changing.shorten h n c u.device.shown ≡ Ok p → Ruled (events.shorten h n r) c p.puts p.card
  shorten_ruled h n r c p q ok =
      let w = shorten_means h n c u.device.shown p ok in
      let k = memory_known c w.0 q w.1 in
      let sh : Shortens g (view g u.device) c h n p = subst (λ (y : Geometry). Rooted y (seen y u.device.shown) → Shortens y (seen y u.device.shown) c h n p) k.0 w.2 rooted in
      record {
        doing = shortened h;
        done = ok_deed (rule_of_changing.shorten h n c u.device.shown) (λ p. shortened h) p ok;
        counted = k.2;
        top = c.highest;
        rises = omega arith;
        low = k.1;
        new = λ a l. refl;
        fair = λ done. shorten_fair g s ms u iv c.highest k.2 k.1 (after (events.shorten h n r)) h n c p sh;
        live = λ y e. sym (ok_same (sym (ap (λ (x : Card). x.ready) sh.after ∙ w.1) ∙ e)) ∙ k.0;
        reaches = ap (λ (x : Card). x.highest) sh.after;
        range = subst (InRange g) (sym sh.after) k.3;
      }

  remove_ruled : (f : Handle) (n : Name) (r : Answer (Unit {0})) (c : Card) (p : Plan (Unit {0})) → u.card ≡ surveyed c → rule_of_changing.remove f n c u.device.shown ≡ Ok p → Ruled (events.remove f n r) c p.puts p.card
  remove_ruled f n r c p q ok =
      let w = remove_means f n c u.device.shown p ok in
      let k = memory_known c w.0 q w.1 in
      let rm : (h : Handle) × Removes g (view g u.device) c f n h p =
      subst (λ (y : Geometry). Rooted y (seen y u.device.shown) → (h : Handle) × Removes y (seen y u.device.shown) c f n h p) k.0 w.2 rooted in
      let h = rm.0 in
      let live : c.ready ≡ Ok g = w.1 ∙ ap Ok k.0 in
      record {
        doing = removed h;
        done = ok_deed (rule_of_changing.remove f n c u.device.shown) (λ p. from_answer (rule_of_reading.find f n c.ready u.device.shown) removed) p ok
            ∙ ok_deed (rule_of_reading.find f n c.ready u.device.shown) removed h (ap (λ (x : Ready). rule_of_reading.find f n x u.device.shown) live ∙ (find_means f n g u.device.shown h).1 (rm.1.name, rm.1.found));
        counted = k.2;
        top = c.highest;
        rises = omega arith;
        low = k.1;
        new = λ a l. refl;
        fair = λ done. remove_fair g s ms u iv c.highest k.2 k.1 (after (events.remove f n r)) f n h c p rm.1 done;
        live = λ y e. sym (ok_same (sym (ap (λ (x : Card). x.ready) rm.1.after ∙ w.1) ∙ e)) ∙ k.0;
        reaches = ap (λ (x : Card). x.highest) rm.1.after;
        range = subst (InRange g) (sym rm.1.after) k.3;
      }

  idle : (e : Event) → ((c : Card) → planned c u.device.shown e ≡ nothing) → deed u e ≡ nothing
  idle e i = idle_deed u.card u.device.shown e i

  -- every step is one of the two sorts
  pub moves : (e : Event) → Step u e t → Quiet g s ms (after e) ⊎ Busy g s ms (after e)
  moves events.opening st = inl (opens_quiet st)
  moves (events.survey r) st = inl (survey_quiet st.so_far st.card r (survey_step st.so_far u.device.shown) refl st.turn)
  moves events.ending st = inl (ends_quiet st.so_far st.card st.turn)
  moves (events.find f n r) st = inl (reads_quiet (events.find f n r) _ _ r (idle (events.find f n r) (λ c. refl)) st)
  moves (events.path p r) st = inl (reads_quiet (events.path p r) _ _ r (idle (events.path p r) (λ c. refl)) st.1)
  moves (events.list f r) st = inl (reads_quiet (events.list f r) _ _ r (idle (events.list f r) (λ c. refl)) st)
  moves (events.status h r) st = inl (reads_quiet (events.status h r) _ _ r (idle (events.status h r) (λ c. refl)) st)
  moves (events.damage r) st = inl (reads_quiet (events.damage r) _ _ r (idle (events.damage r) (λ c. refl)) st)
  moves (events.space r) st = inl (reads_quiet (events.space r) _ _ r (idle (events.space r) (λ c. refl)) st.1)
  moves (events.read h k room r) st = inl (reads_quiet (events.read h k room r) _ _ r (idle (events.read h k room r) (λ c. refl)) st)
  moves (events.create d f n r) st =
      changes_moves (rule_of_changing.create d f n) (events.create d f n r) (λ c shown. from_answer (rule_of_changing.create d f n c shown) (λ p. created d f n p.answer))
      (λ c shown. refl) (λ c shown x e. err_nothing _ _ x e) (create_ruled d f n r) r st
  moves (events.write h k x r) st =
      changes_moves (rule_of_changing.write h k x) (events.write h k x r) (λ c shown. from_answer (rule_of_changing.write h k x c shown) (λ p. wrote h k x))
      (λ c shown. refl) (λ c shown y e. err_nothing _ _ y e) (write_ruled h k x r) r st
  moves (events.shorten h n r) st =
      changes_moves (rule_of_changing.shorten h n) (events.shorten h n r) (λ c shown. from_answer (rule_of_changing.shorten h n c shown) (λ p. shortened h))
      (λ c shown. refl) (λ c shown y e. err_nothing _ _ y e) (shorten_ruled h n r) r st
  moves (events.remove f n r) st =
      changes_moves (rule_of_changing.remove f n) (events.remove f n r) (λ c shown. from_answer (rule_of_changing.remove f n c shown) (λ p. from_answer (rule_of_reading.find f n c.ready shown) removed))
      (λ c shown. refl) (λ c shown y e. err_nothing _ _ y e) (remove_ruled f n r) r st
  moves (events.sync r) st = inl (sync_quiet r st.memory.ready st.turn)
  moves events.cut st = inl (cut_quiet st.0 st.1)
