-- Every step keeps what holds of all that may stand; the laws on reads and finds.
use Rattle.std.proofs.Common.{◌≡◌, ℕ, zero, suc, ◌<◌, ◌≤◌, true, ◌⊎◌, List, [], ◌∷◌, length, Ok, Err, Result, sym, refl, ap, ◌∙◌, subst, inl, inr, arith}
use Rattle.std.proofs.lemmas.Bool.{cases_lt, and_from, le-leb}
use Rattle.base.specs.declared.owner.Kind.TheVariants.{Folder}
use Rattle.base.specs.declared.owner.Handle.{Handle}
use Rattle.base.specs.declared.refusal.Refusal.{Refusal}
use Rattle.device.specs.Model.{Model, Block, OnlyShown}
use Rattle.device.specs.Effect.{puts}
use Rattle.layout.specs.Format.{Name, Geometry, back, Slot, Content, blank, cover, slotted, file_body, folder_body, ill_formed, cover_of, in_limits, region, slot_region, body_region, parse, encode}
use Rattle.layout.specs.Identities.{told}
use Rattle.rule.specs.Agree.{same_kind, Shown, View, number, root}
use Rattle.rule.specs.Card.{Ready}
use Rattle.rule.specs.Reading.{step, components}
use Rattle.rule.specs.Reading as rule_of_reading
use Rattle.rule.specs.Changing.{new_slot}
use Rattle.rule.specs.Meaning.{Finds, the_root}
use Rattle.rule.specs.Calls.{Formats}
use Rattle.rule.proofs.Steps.{clash}
use Rattle.rule.proofs.Plans.{clash_ok, bind_ok}
use Rattle.rule.proofs.Blocks.{format_means}
use Rattle.rule.proofs.Answered.{opening_means, step_ok, find_means, read_means}
use Rattle.history.specs.Events.{Phase, closed, opened, surveyed, State, Has}
use Rattle.history.specs.History.{Formatted, Moment, present, History, Deed, gives}
use Rattle.history.specs.Laws.{Made, OnTheWay, ReadsWhatWasWritten, FindsWhatWasMade, PathsLeadToWhatWasMade, FormattedCardsOpen, SurveyedCardsKeepTrue}
use Rattle.layout.proofs.Back.{read_as}
use Rattle.history.proofs.Written.{slot_lies, body_lies, parse_cover, parse_beyond, slot_whole, blank_whole, cover_whole}
use Rattle.history.proofs.Parsed.{slotted_same}
use Rattle.history.proofs.Log.{wrote_earlier, made_earlier}
use Rattle.history.proofs.Stands.{May, view, may_shown, only_may, may_fewer, Logged, logged_more, Carded, Limits, RootSlot, Inv}
use Rattle.history.proofs.Sorts.{Allowed, fresh_slot, slot_again, slot_blanked, fresh_body, file_again, folder_again}
use Rattle.history.proofs.Moves.{Quiet, Busy, moves}

-- no call puts block 0
allowed_above : (g : Geometry) (v : View) (high : ℕ) (d : Deed) (b : ℕ) (y : Content) → Allowed g v high d b y → 0 < b
allowed_above g v high d b y (fresh_slot p) = let e = p.block in omega arith
allowed_above g v high d b y (slot_again p) = let e = p.block in omega arith
allowed_above g v high d b y (slot_blanked p) = let e = p.block in omega arith
allowed_above g v high d b y (fresh_body p) = let e = p.free.above in omega arith
allowed_above g v high d b y (file_again p) = let e = p.above in omega arith
allowed_above g v high d b y (folder_again p) = let e = p.above in omega arith

module _ (g : Geometry) (s : State) (ms : List Moment) (iv : Inv g s ms (present s ms)) (m : Moment) where
  abbrev u : State
  u = present s ms

  quiet_inv : Quiet g s ms m → Inv g s (m ∷ ms) m.state
  quiet_inv q = record {
    limits = iv.limits;
    room = (let a = iv.room in let e = q.count in omega arith);
    cover = λ z i. iv.cover z (q.fewer 0 z i);
    root = λ y i. iv.root y (less 1 y i);
    whole = λ b z l i. iv.whole b z l (q.fewer b z i);
    narrow = λ b y i. iv.narrow b y (less b y i);
    logged = λ b y i. logged_more g s m ms y (λ h l. ap (λ (d : Deed). gives d h) q.idle) (iv.logged b y (less b y i));
    card = q.card;
  }
    where
      less : (b : ℕ) (y : Content) → May g m.state.device b y → May g u.device b y
      less = may_fewer g u.device m.state.device q.fewer

  module _ (w : Busy g s ms m) where
    -- a content that joins
    pub joins : (b : ℕ) (y : Content) → May g m.state.device b y →
        May g u.device b y ⊎ ((told g y ≤ w.top) × Logged g s (m ∷ ms) y × Allowed g (view g u.device) w.memory.highest w.doing b y)
    joins b y i = elim (w.joined b i.0 i.1) [
      | inl old ↦ inl (i.0, old, i.2)
      | inr put ↦
          (let f = w.fair b i.0 put in
          let same : f.content ≡ y = sym f.parses ∙ i.2 in
          inr (subst (λ (c : Content). (told g c ≤ w.top) × Logged g s (m ∷ ms) c × Allowed g (view g u.device) w.memory.highest w.doing b c) same (f.counted, f.logged, f.allowed)))
    ]

    root_kept : (y : Content) → Allowed g (view g u.device) w.memory.highest w.doing 1 y → (r : Slot) × (y ≡ slotted r) × RootSlot r
    root_kept y (fresh_slot p) = absurd (p.free.unreached root (let e = p.block in omega arith) the_root)
    root_kept y (slot_again p) =
        let at : p.handle.slot.0 ≡ 0 = (let e = p.block in omega arith) in
        let r = iv.root (slotted p.old) (may_shown g u.device 1 (slotted p.old) (subst (λ (k : ℕ). view g u.device (suc k) ≡ slotted p.old) at p.fits.holds)) in
        let same : p.old ≡ r.0 = slotted_same r.1 in (
          p.slot,
          p.content,
          record {
            own = p.own ∙ ap (λ (t : Slot). t.identity) same ∙ r.2.own;
            kind = elim p.sort [ inl q ↦ q.1 | inr q ↦ clash (ap (same_kind Folder) (sym q.0 ∙ ap (λ (t : Slot). t.kind) same ∙ r.2.kind)) ];
            parent = p.parent ∙ ap (λ (t : Slot). t.parent) same ∙ r.2.parent;
          },
        )
    root_kept y (slot_blanked p) = absurd (let e = p.block in let l = p.above in omega arith)
    root_kept y (fresh_body p) = absurd (let l = p.free.above in let k = iv.limits.low in omega arith)
    root_kept y (file_again p) = absurd (let l = p.above in let k = iv.limits.low in omega arith)
    root_kept y (folder_again p) = absurd (let l = p.above in let k = iv.limits.low in omega arith)

    busy_inv : Inv g s (m ∷ ms) m.state
    busy_inv = record {
      limits = iv.limits;
      room = (let a = iv.room in let e = w.count in omega arith);
      cover = λ z i. elim (w.joined 0 z i) [
        | inl old ↦ iv.cover z old
        | inr put ↦ (let f = w.fair 0 z put in let l = allowed_above g (view g u.device) w.memory.highest w.doing 0 f.content f.allowed in absurd (omega arith))
      ];
      root = λ y i. elim (joins 1 y i) [ inl old ↦ iv.root y old | inr new ↦ root_kept y new.2 ];
      whole = λ b z l i. elim (w.joined b z i) [ inl old ↦ iv.whole b z l old | inr put ↦ (w.fair b z put).whole ];
      narrow = λ b y i. elim (joins b y i) [ inl old ↦ iv.narrow b y old | inr new ↦ (let a = new.0 in let c = w.low in omega arith) ];
      logged = λ b y i. elim (joins b y i) [
        | inl old ↦ logged_more g s m ms y (λ h l. w.new h (let a = w.counted b y old in omega arith)) (iv.logged b y old)
        | inr new ↦ new.1
      ];
      card = subst (Carded g m.state.device) (sym w.then.1) (λ h live.
          let k = w.then.2 h live in (
            k.0,
            (let e = k.1 in let l = w.low in omega arith),
            (λ b y i. elim (joins b y i) [ inl old ↦ (let a = w.counted b y old in let r = w.rises in let e = k.1 in omega arith) | inr new ↦ (let a = new.0 in let e = k.1 in omega arith) ]),
            k.2,
          ));
    }

  pub move_inv : Quiet g s ms m ⊎ Busy g s ms m → Inv g s (m ∷ ms) m.state
  move_inv (inl q) = quiet_inv q
  move_inv (inr w) = busy_inv w

-- ---- the format

module _ (g : Geometry) (s : State) (f : Formatted g s) where
  fm : Formats f.before.count g.blocks g.slots f.puts
  fm = format_means f.before.count g.blocks g.slots f.puts f.plan

  within : in_limits g.blocks g.slots ≡ true
  within = and_from _ _ (le-leb 2 g.slots fm.slots.0) (and_from _ _ (le-leb g.slots 256 fm.slots.1) (and_from _ _ (le-leb _ g.blocks fm.blocks.0) (le-leb g.blocks 4096 fm.blocks.1)))

  limits : Limits g
  limits = record { low = fm.slots.0; thin = fm.slots.1; bodies = (let e = fm.blocks.0 in omega arith); small = fm.blocks.1; within = within }

  cover_held : s.device.shown 0 ≡ encode (cover g) → view g s.device 0 ≡ cover g
  cover_held e = ap (parse g 0) e ∙ read_as (cover g) g 0 within (refl, within)

  shows : (b : ℕ) → s.device.shown b ≡ puts f.before.shown f.puts b
  shows b = ap (λ (h : ℕ → Block). h b) (f.settled.stayed.kept.shown ∙ f.altered.shows)

  abbrev top : Slot
  top = new_slot Folder root 1

  blank_bytes : (b : ℕ) → 1 < b → b < g.blocks → s.device.shown b ≡ encode blank
  unfolding encode
  blank_bytes b up low = shows b ∙ fm.zeros f.before.shown b up low

  blank_lies : (b : ℕ) → 0 < b → b < g.blocks → (region g b ≡ slot_region) ⊎ (region g b ≡ body_region)
  blank_lies b up low = elim (cases_lt g.slots b) [ inl far ↦ inr (body_lies g b far low) | inr near ↦ inl (slot_lies g b up near) ]

  -- what each block holds
  pub record Plain (b : ℕ) (y : Content) : Type 0 where
    pub root : b ≡ 1 → y ≡ slotted top
    pub told : told g y ≤ 1
    pub logged : Logged g s [] y

  holds : (b : ℕ) → Plain b (view g s.device b)
  holds zero =
      let e : view g s.device 0 ≡ cover g = cover_held (shows 0 ∙ fm.cover f.before.shown) in
      subst (Plain 0) (sym e) (record { root = λ q. absurd (omega arith); told = omega arith; logged = tt })
  holds (suc zero) =
      let l = limits.low in
      let e : view g s.device 1 ≡ slotted top = ap (parse g 1) (shows 1 ∙ fm.root f.before.shown)
      ∙ read_as (slotted top) g 1 within (slot_lies g 1 (omega arith) (omega arith), record { few = omega arith; own = ((omega arith), (omega arith)); parent = ((omega arith), (omega arith)); parent_slot = omega arith; bodies = refl }) in
      subst (Plain 1) (sym e) (record { root = λ q. refl; told = omega arith; logged = tt })
  holds (suc (suc b)) = elim (cases_lt (suc (suc b)) g.blocks) [
    | inl low ↦
        (let e : view g s.device (suc (suc b)) ≡ blank = ap (parse g (suc (suc b))) (blank_bytes (suc (suc b)) (omega arith) low) ∙ read_as blank g (suc (suc b)) within (blank_lies (suc (suc b)) (omega arith) low) in
        subst (Plain (suc (suc b))) (sym e) (record { root = λ q. absurd (omega arith); told = omega arith; logged = tt }))
    | inr far ↦
        (let e : view g s.device (suc (suc b)) ≡ ill_formed = parse_beyond g (suc (suc b)) (s.device.shown (suc (suc b))) (let l = limits.bodies in omega arith) far in
        subst (Plain (suc (suc b))) (sym e) (record { root = λ q. absurd (omega arith); told = omega arith; logged = tt }))
  ]

  whole_at : (b : ℕ) → b < g.blocks → length (s.device.shown b) ≡ 512
  whole_at zero l = ap length (shows 0 ∙ fm.cover f.before.shown) ∙ cover_whole g
  whole_at (suc zero) l = ap length (shows 1 ∙ fm.root f.before.shown) ∙ slot_whole top (omega arith)
  whole_at (suc (suc b)) l = ap length (blank_bytes (suc (suc b)) (omega arith) l) ∙ blank_whole

  pub start_inv : Inv g s [] s
  start_inv = record {
    limits = limits;
    room = (let a = fm.room in let b = f.altered.count in let c = f.settled.stayed.kept.count in omega arith);
    cover = λ z i. ap cover_of (only 0 z i) ∙ sym (parse_cover g (s.device.shown 0)) ∙ cover_held (shows 0 ∙ fm.cover f.before.shown);
    root = λ y i. (top, (plain 1 y i).root refl, record { own = refl; kind = refl; parent = refl });
    whole = λ b z l i. ap length (only b z i) ∙ whole_at b l;
    narrow = λ b y i. (let a = (plain b y i).told in omega arith);
    logged = λ b y i. (plain b y i).logged;
    card = subst (Carded g s.device) (sym f.card) only;
  }
    where
      only : OnlyShown s.device
      only = f.settled.only

      plain : (b : ℕ) (y : Content) → May g s.device b y → Plain b y
      plain b y i = subst (Plain b) (sym (only_may g s.device only b y i)) (holds b)

pub history_inv : (g : Geometry) (s : State) (ms : List Moment) → History g s ms → Inv g s ms (present s ms)
history_inv g s [] h = start_inv g s h
history_inv g s (m ∷ ms) h =
    let iv = history_inv g s ms h.0 in
    move_inv g s ms iv m (moves g s ms iv m.state m.event h.1)

-- the card can be opened at every point
pub cards_open : FormattedCardsOpen
cards_open g s ms hist =
    let iv = history_inv g s ms hist in
    let m = (present s ms).device in
    let r = iv.root (view g m 1) (may_shown g m 1 (view g m 1) refl) in
    (opening_means m.count m.shown g).1 (record {
      some = (let a = iv.room in let b = iv.limits.bodies in omega arith);
      cover = iv.cover (m.shown 0) (m.among 0);
      room = iv.room;
      top = r.0;
      fits = record { inside = (let a = iv.limits.low in omega arith); holds = r.1; same = r.2.own };
      kind = r.2.kind;
      parent = r.2.parent;
    })

-- what a surveyed card keeps is true
pub cards_keep_true : SurveyedCardsKeepTrue
cards_keep_true g h s ms c hist is live =
    let w = subst (Carded g (present s ms).device) is (history_inv g s ms hist).card h live in
    (w.0, record { highest = λ b z i. w.2 b (parse g b z) (z, i, refl); cursors = w.3 })

-- ---- the laws on reads and finds

-- an accepted reading call was made on a card of this geometry
known_ready : {A E : Type 0} (g : Geometry) (m : Model) (p : Phase) (x : Ready) (rule : Ready → Result A E) (a : A) →
    ((r : Refusal) → rule (Err r) ≡ Ok a → ⊥) → Carded g m p → Has p x → Ok a ≡ rule x → rule (Ok g) ≡ Ok a
known_ready g m p (Err r) rule a bad c has e = absurd (bad r (sym e))
known_ready g m closed (Ok h) rule a bad c has e = absurd has
known_ready g m (opened o) (Ok h) rule a bad c has e = ap (λ (y : Geometry). rule (Ok y)) (sym (c.1 h has).0) ∙ sym e
known_ready g m (surveyed k) (Ok h) rule a bad c has e = ap (λ (y : Geometry). rule (Ok y)) (sym (c h has).0) ∙ sym e

-- no call is accepted on a card that refuses every call
bad_read : (h : Handle) (k room : ℕ) (shown : Shown) (x : List ℕ) (r : Refusal) → rule_of_reading.read h k room (Err r) shown ≡ Ok x → ⊥
unfolding rule_of_reading.read
bad_read h k room shown x r e =
    let a = bind_ok _ _ x e in
    let b = bind_ok _ _ x a.2 in
    clash_ok b.1

bad_find : (f : Handle) (n : Name) (shown : Shown) (c : Handle) (r : Refusal) → rule_of_reading.find f n (Err r) shown ≡ Ok c → ⊥
unfolding rule_of_reading.find
bad_find f n shown c r e =
    let a = bind_ok _ _ c e in
    let b = bind_ok _ _ c a.2 in
    clash_ok b.1

pub reads_stand : ReadsWhatWasWritten
reads_stand g s t ms h k room x hist = elim hist.1.turn [
  | inr w ↦ clash_ok (sym w.2)
  | inl w ↦
      (let iv = history_inv g s ms hist.0 in
      let u = present s ms in
      let e = known_ready g u.device u.card hist.1.ready (λ y. rule_of_reading.read h k room y u.device.shown) x (bad_read h k room u.device.shown x) iv.card hist.1.has w.0 in
      let l = ((read_means h k room g u.device.shown x).0 e).1 in
      let b = number l.slot k in
      wrote_earlier s ms h k x (iv.logged b (file_body (back h k) x) (may_shown g u.device b (file_body (back h k) x) l.body)))
]

-- what find leads to at any point of a history
found_made : (g : Geometry) (s : State) (ms : List Moment) → History g s ms → (f : Handle) (n : Name) (c : Handle) → Finds g (view g (present s ms).device) f n c → Made s ms f n c
found_made g s ms hist f n c d =
    let iv = history_inv g s ms hist in
    let b = number d.sound.slot d.leaf in
    made_earlier s ms c f n (iv.logged b (folder_body (back f d.leaf) d.sound.cells) (may_shown g (present s ms).device b (folder_body (back f d.leaf) d.sound.cells) d.sound.body) d.place n c d.sound.here)

pub finds_stand : FindsWhatWasMade
finds_stand g s t ms f n c hist = elim hist.1.turn [
  | inr w ↦ clash_ok (sym w.2)
  | inl w ↦
      (let u = present s ms in
      let e = known_ready g u.device u.card hist.1.ready (λ y. rule_of_reading.find f n y u.device.shown) c (bad_find f n u.device.shown c) (history_inv g s ms hist.0).card hist.1.has w.0 in
      found_made g s ms hist.0 f n c ((find_means f n g u.device.shown c).0 e).1)
]

on_the_way : (g : Geometry) (s : State) (ms : List Moment) → History g s ms → (a : Handle) (ns : List Name) (f : Handle) (n : Name) (c : Handle) →
    OnTheWay g (view g (present s ms).device) a ns f n c → Made s ms f n c
on_the_way g s ms hist a [] f n c w = absurd w
on_the_way g s ms hist a (x ∷ xs) f n c w = elim w.2 [
  | inr rest ↦ on_the_way g s ms hist w.0 xs f n c rest
  | inl here ↦ found_made g s ms hist f n c (step_ok g (view g (present s ms).device) f n c (ap (λ (h : Handle). step g (view g (present s ms).device) h n) here.0 ∙ ap (step g (view g (present s ms).device) a) here.1 ∙ w.1 ∙ ap Ok (sym here.2)))
]

pub paths_stand : PathsLeadToWhatWasMade
paths_stand g s t ms p r f n c hist w = on_the_way g s ms hist.0 root (components p) f n c w
