-- The example history, on a device that keeps every content until a sync.
use Rattle.std.proofs.Common.{◌≡◌, ℕ, Bool, true, false, cond, eqb, ◌⊎◌, List, [], ◌∷◌, take, Ok, Err, Result, sym, refl, ◌∙◌, subst, inl, inr}
use Rattle.std.proofs.lemmas.Bool.{eqb-true}
use Rattle.base.specs.declared.number.BlockNo.{BlockNo}
use Rattle.base.specs.declared.owner.Kind.TheVariants.{File}
use Rattle.base.specs.declared.owner.Handle.{Handle}
use Rattle.base.specs.declared.refusal.Refusal.TheVariants.{PowerGone}
use Rattle.device.specs.Model.{Model, Block, In, Stands, put, Kept, Settled, Cut}
use Rattle.device.specs.Effect.{puts, PutAt, accepted, broken, Altered}
use Rattle.device.specs.declared.put.Put.{Put}
use Rattle.device.specs.declared.fault.Synced.TheVariants.{Settled as SettledAnswer}
use Rattle.layout.specs.Format.{handle, parse, encode, entry_of}
use Rattle.layout.specs.Identities.{highest_in}
use Rattle.rule.specs.Agree.{Shown, root}
use Rattle.rule.specs.Check.{Answer, ◌>>=◌, check, demand}
use Rattle.rule.specs.Card.{Card, Ready, Plan, Opened, block, lost}
use Rattle.rule.specs.Card as rule_of_card
use Rattle.rule.specs.Reading as rule_of_reading
use Rattle.rule.specs.Changing as rule_of_changing
use Rattle.history.specs.Events.{Phase, closed, opened, surveyed, State, Event, opening, ending, path, read, create, write, sync, cut, Has, Still, Reads, ByPlan, Changes, ByDevice, Syncs, Opens, Ends}
use Rattle.history.specs.History.{Formatted, Moment, History}
use Rattle.history.specs.Example.{small, alto, bass, ABC, events, story, ItHappens}

-- ---- a device that keeps every content until a sync

puts_cases : (f : ℕ → Block) (ws : List Put) (i : ℕ) → (puts f ws i ≡ f i) ⊎ PutAt i (puts f ws i) ws
puts_cases f [] i = inl refl
puts_cases f (w ∷ ws) i = elim (puts_cases (put f w.block.0 w.bytes) ws i) [
  | inr p ↦ inr (inr p)
  | inl e ↦ go (eqb i w.block.0) refl e
]
  where
    go : (t : Bool) → eqb i w.block.0 ≡ t → puts f (w ∷ ws) i ≡ cond t w.bytes (f i) → (puts f (w ∷ ws) i ≡ f i) ⊎ PutAt i (puts f (w ∷ ws) i) (w ∷ ws)
    go true q e = inr (inl (eqb-true i w.block.0 q, e))
    go false q e = inl e

in_here : (x : Block) (xs : List Block) → In x (x ∷ xs)
unfolding In
in_here x xs = inl refl

in_there : (x y : Block) (xs : List Block) → In x xs → In x (y ∷ xs)
unfolding In
in_there x y xs i = inr i

in_cases : (x y : Block) (xs : List Block) → In x (y ∷ xs) → (x ≡ y) ⊎ In x xs
unfolding In
in_cases x y xs i = i

in_one : (x y : Block) → In x (y ∷ []) → x ≡ y
unfolding In
in_one x y (inl e) = e
in_one x y (inr i) = absurd i

-- after these puts, with the power on or gone
abbrev written : Bool → List Put → Model → Model
written on ws m = record { count = m.count; power = on; shown = puts m.shown ws; may = λ i. puts m.shown ws i ∷ m.may i; among = λ i. in_here (puts m.shown ws i) (m.may i) }

-- only these contents stand, with the power on
abbrev alone : Shown → Model → Model
alone f m = record { count = m.count; power = true; shown = f; may = λ i. f i ∷ []; among = λ i. in_here (f i) [] }

written_joined : (on : Bool) (ws : List Put) (m : Model) (i : ℕ) (z : Block) → Stands (written on ws m) i z → Stands m i z ⊎ PutAt i z ws
written_joined on ws m i z st = elim (in_cases z (puts m.shown ws i) (m.may i) st) [
  | inr old ↦ inl old
  | inl e ↦ elim (puts_cases m.shown ws i) [
    | inl q ↦ inl (subst (Stands m i) (sym (e ∙ q)) (m.among i))
    | inr p ↦ inr (subst (λ (x : Block). PutAt i x ws) (sym e) p)
  ]
]

written_altered : (ws : List Put) (m : Model) → Altered accepted ws m (written m.power ws m)
written_altered ws m = record { count = refl; power = refl; shows = refl; joined = written_joined m.power ws m }

put_first : (ws : List Put) (i : ℕ) (z : Block) → PutAt i z (take 1 ws) → PutAt i z ws
put_first [] i z p = p
put_first (w ∷ ws) i z (inl e) = inl e
put_first (w ∷ ws) i z (inr p) = absurd p

-- the first put landed, and the next met power gone
torn_altered : (ws : List Put) (m : Model) → Altered broken ws m (written false (take 1 ws) m)
torn_altered ws m = record {
  count = refl;
  power = refl;
  shows = λ b. elim (puts_cases m.shown (take 1 ws) b) [ inl e ↦ inl e | inr p ↦ inr (put_first ws b _ p) ];
  joined = λ b z i. elim (written_joined false (take 1 ws) m b z i) [ inl old ↦ inl old | inr p ↦ inr (put_first ws b z p) ];
}

settled_alone : (m : Model) → m.power ≡ true → Settled m (alone m.shown m)
settled_alone m on = record {
  stayed = record { kept = record { count = refl; shown = refl; stands = λ i z st. subst (Stands m i) (sym (in_one z (m.shown i) st)) (m.among i) }; was_on = on; on = refl };
  only = λ i z st. in_one z (m.shown i) st;
}

cut_alone : (m : Model) (f : Shown) → ((i : ℕ) → Stands m i (f i)) → Cut m (alone f m)
cut_alone m f landed = record { count = refl; on = refl; landed = landed; only = λ i z st. in_one z (f i) st }

-- ---- steps

kept_refl : (m : Model) → Kept m m
kept_refl m = record { count = refl; shown = refl; stands = λ i z st. st }

abbrev with_card : State → Phase → State
with_card s p = record { device = s.device; card = p }

still : (s : State) (p : Phase) → Still s (with_card s p) p
still s p = record { kept = kept_refl s.device; power = refl; card = refl }

reads_step : {A E : Type 0} (met : BlockNo → E) (rule : Ready → Shown → Result A E) (s : State) (c : Card) → s.card ≡ surveyed c → Reads met rule s (rule c.ready s.device.shown) s
reads_step met rule s c is = record { ready = c.ready; has = subst (λ (p : Phase). Has p c.ready) (sym is) refl; turn = inl (refl, record { kept = kept_refl s.device; power = refl; card = refl }) }

-- an accepted call, with its answer; a refused one leaves all as it was
abbrev answer_of : {A : Type 0} → Answer (Plan A) → Answer A
answer_of (Ok p) = Ok p.answer
answer_of (Err e) = Err e

abbrev accept : {A : Type 0} → Answer (Plan A) → State → State
accept (Ok p) s = record { device = written s.device.power p.puts s.device; card = surveyed p.card }
accept (Err e) s = s

changes_step : {A : Type 0} (plan : Card → Shown → Answer (Plan A)) (s : State) (c : Card) → s.card ≡ surveyed c → Changes plan s (answer_of (plan c s.device.shown)) (accept (plan c s.device.shown) s)
changes_step {A} plan s c is = record { memory = c; card = is; turn = go (plan c s.device.shown) }
  where
    go : (a : Answer (Plan A)) → ByPlan a c s (answer_of a) (accept a s)
    go (Ok p) = inl (record { answer = refl; altered = written_altered p.puts s.device; card = refl })
    go (Err e) = inl (refl, record { kept = kept_refl s.device; power = refl; card = refl })

-- a call broken off at block b
abbrev broken_answer : {A : Type 0} → BlockNo → Answer (Plan A) → Answer A
broken_answer b (Ok p) = Err (PowerGone b)
broken_answer b (Err e) = Err e

abbrev break_off : {A : Type 0} → BlockNo → Answer (Plan A) → Card → State → State
break_off b (Ok p) c s = record { device = written false (take 1 p.puts) s.device; card = surveyed (lost b c) }
break_off b (Err e) c s = s

breaks_step : {A : Type 0} (b : BlockNo) (plan : Card → Shown → Answer (Plan A)) (s : State) (c : Card) → s.card ≡ surveyed c →
    Changes plan s (broken_answer b (plan c s.device.shown)) (break_off b (plan c s.device.shown) c s)
breaks_step {A} b plan s c is = record { memory = c; card = is; turn = go (plan c s.device.shown) }
  where
    go : (a : Answer (Plan A)) → ByPlan a c s (broken_answer b a) (break_off b a c s)
    go (Ok p) = inr (record { at = b; answer = refl; altered = torn_altered p.puts s.device; card = refl })
    go (Err e) = inl (refl, record { kept = kept_refl s.device; power = refl; card = refl })

-- what a surveyed card keeps
none_kept : Card
none_kept = record { ready = Ok small; highest = 0; next_slot = 0; next_body = 0 }

abbrev memory : Phase → Card
memory closed = none_kept
memory (opened o) = none_kept
memory (surveyed c) = c

abbrev Surveyed : State → Type 0
Surveyed s = s.card ≡ surveyed (memory s.card)

accept_surveyed : {A : Type 0} (a : Answer (Plan A)) (s : State) → Surveyed s → Surveyed (accept a s)
accept_surveyed (Ok p) s is = refl
accept_surveyed (Err e) s is = is

accept_power : {A : Type 0} (a : Answer (Plan A)) (s : State) → (accept a s).device.power ≡ s.device.power
accept_power (Ok p) s = refl
accept_power (Err e) s = refl

-- ---- the story

abbrev puts_of : Answer (List Put) → List Put
puts_of (Ok ws) = ws
puts_of (Err e) = []

-- a device of 8 blocks that show nothing
abbrev new : Model
new = record { count = 8; power = true; shown = λ i. []; may = λ i. [] ∷ []; among = λ i. in_here [] [] }

formatted : Model
formatted = written true (puts_of (rule_of_changing.format 8 8 3)) new

s0 : State
s0 = record { device = alone formatted.shown formatted; card = closed }

start : Formatted small s0
unfolding s0 formatted rule_of_changing.format ◌>>=◌ check
start = record { before = new; written = formatted; puts = puts_of (rule_of_changing.format 8 8 3); plan = refl; altered = written_altered (puts_of (rule_of_changing.format 8 8 3)) new; settled = settled_alone formatted refl; card = refl }

abbrev open_it : State → State
open_it s = with_card s (opened (rule_of_card.opened s.device.count s.device.shown))

abbrev end_it : State → Opened → State
end_it s o = with_card s (surveyed (rule_of_card.surveyed o s.device.shown))

s1 : State
s1 = open_it s0

s2 : State
s2 = end_it s1 (rule_of_card.opened s0.device.count s0.device.shown)

abbrev plan3 : Answer (Plan Handle)
plan3 = rule_of_changing.create File root alto (memory s2.card) s2.device.shown

s3 : State
s3 = accept plan3 s2

abbrev plan4 : Answer (Plan (Unit {0}))
plan4 = rule_of_changing.write (handle 1 2) 0 ABC (memory s3.card) s3.device.shown

s4 : State
s4 = accept plan4 s3

s5 : State
s5 = record { device = alone s4.device.shown s4.device; card = s4.card }

abbrev plan6 : Answer (Plan Handle)
plan6 = rule_of_changing.create File root bass (memory s5.card) s5.device.shown

s6 : State
s6 = break_off (block 4) plan6 (memory s5.card) s5

s7 : State
s7 = record { device = alone s6.device.shown s6.device; card = closed }

s8 : State
s8 = open_it s7

s9 : State
s9 = end_it s8 (rule_of_card.opened s7.device.count s7.device.shown)

abbrev plan12 : Answer (Plan Handle)
plan12 = rule_of_changing.create File root bass (memory s9.card) s9.device.shown

s12 : State
s12 = accept plan12 s9

opens_step : (s : State) → s.card ≡ closed → Opens s (open_it s)
opens_step s is = record { card = is; turn = inl (still s _) }

ends_step : (s : State) (o : Opened) → s.card ≡ opened o → Ends s (end_it s o)
ends_step s o is = record { so_far = o; card = is; turn = inl (still s _) }

on2 : Surveyed s2
unfolding s2
on2 = refl

on3 : Surveyed s3
unfolding s3
on3 = accept_surveyed plan3 s2 on2

on4 : Surveyed s4
unfolding s4
on4 = accept_surveyed plan4 s3 on3

on5 : Surveyed s5
unfolding s5
on5 = on4

on9 : Surveyed s9
unfolding s9
on9 = refl

power4 : s4.device.power ≡ true
unfolding s4 s3 s2 s1 s0
power4 = accept_power plan4 s3 ∙ accept_power plan3 s2

ready4 : (memory s4.card).ready ≡ Ok small
unfolding s4 s3 s2 s1 s0 formatted ◌>>=◌ check demand rule_of_reading.fits rule_of_reading.kind_is rule_of_changing.changing rule_of_reading.named parse encode entry_of highest_in rule_of_changing.create rule_of_changing.write rule_of_changing.format rule_of_card.opening rule_of_card.surveyed rule_of_changing.placed rule_of_changing.untaken rule_of_changing.replaces rule_of_changing.appends
ready4 = refl

syncs_step : Syncs s4 (Ok tt) s5
unfolding s5 rule_of_changing.synced
syncs_step = record {
  memory = memory s4.card;
  card = on4;
  turn = subst (λ (x : Ready). ByDevice x s4 (Ok tt) s5) (sym ready4) (inl (SettledAnswer, refl, settled_alone s4.device power4, refl));
}

abbrev at : Event → State → Moment
at e s = record { event = e; state = s }

moments : List Moment
moments =
    at (create File root bass (answer_of plan12)) s12 ∷
    at (read (handle 1 2) 0 496 (rule_of_reading.read (handle 1 2) 0 496 (memory s9.card).ready s9.device.shown)) s9 ∷
    at (path alto (rule_of_reading.path alto (memory s9.card).ready s9.device.shown)) s9 ∷
    at ending s9 ∷
    at opening s8 ∷
    at cut s7 ∷
    at (create File root bass (broken_answer (block 4) plan6)) s6 ∷
    at (sync (Ok tt)) s5 ∷
    at (write (handle 1 2) 0 ABC (answer_of plan4)) s4 ∷
    at (create File root alto (answer_of plan3)) s3 ∷
    at ending s2 ∷
    at opening s1 ∷
    []

run : History small s0 moments
unfolding moments s12 s9 s8 s7 s6 s4 s3 s2 s1 s0
run = (
  (
    (
      (
        (
          (
            (
              (
                (
                  (
                    (
                      (
                        start,
                        opens_step s0 refl,
                      ),
                      ends_step s1 (rule_of_card.opened s0.device.count s0.device.shown) refl,
                    ),
                    changes_step (rule_of_changing.create File root alto) s2 (memory s2.card) on2,
                  ),
                  changes_step (rule_of_changing.write (handle 1 2) 0 ABC) s3 (memory s3.card) on3,
                ),
                syncs_step,
              ),
              breaks_step (block 4) (rule_of_changing.create File root bass) s5 (memory s5.card) on5,
            ),
            (cut_alone s6.device s6.device.shown s6.device.among, refl),
          ),
          opens_step s7 refl,
        ),
        ends_step s8 (rule_of_card.opened s7.device.count s7.device.shown) refl,
      ),
      (0, reads_step _ (rule_of_reading.path alto) s9 (memory s9.card) on9),
    ),
    reads_step PowerGone (rule_of_reading.read (handle 1 2) 0 496) s9 (memory s9.card) on9,
  ),
  changes_step (rule_of_changing.create File root bass) s9 (memory s9.card) on9,
)

told : events moments ≡ story
unfolding moments s12 s9 s8 s7 s6 s5 s4 s3 s2 s1 s0 formatted ◌>>=◌ check demand parse encode entry_of highest_in rule_of_reading.fits rule_of_reading.kind_is rule_of_reading.reading rule_of_reading.named rule_of_reading.step rule_of_reading.at_component rule_of_reading.all_named rule_of_reading.walk rule_of_reading.path rule_of_reading.read rule_of_changing.changing rule_of_changing.create rule_of_changing.write rule_of_changing.format rule_of_card.opening rule_of_card.surveyed rule_of_changing.placed rule_of_changing.untaken rule_of_changing.replaces rule_of_changing.appends
told = refl

pub it_happens : ItHappens
it_happens = (s0, moments, run, told)
