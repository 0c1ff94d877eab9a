-- A card on its device, the calls made on it, and power cuts: what each call may answer and leave, by the rule.
use Rattle.std.specs.Prelude.{◌≡◌, ℕ, ◌⊎◌, List, Ok, Err, Result}
use Rattle.base.specs.declared.number.BlockNo.{BlockNo}
use Rattle.base.specs.declared.owner.Kind.{Kind}
use Rattle.base.specs.declared.owner.Handle.{Handle}
use Rattle.base.specs.declared.refusal.Refusal.TheVariants.{PowerGone}
use Rattle.base.specs.declared.refusal.PathRefusal.{PathRefusal}
use Rattle.device.specs.Model.{Model, Kept, Lost, Cut}
use Rattle.device.specs.Answers.{SyncAnswer}
use Rattle.device.specs.Effect.{accepted, broken, Altered}
use Rattle.device.specs.declared.fault.Synced.{Synced}
use Rattle.layout.specs.Format.{Name, Geometry}
use Rattle.rule.specs.Agree.{Shown}
use Rattle.rule.specs.Check.{Answer}
use Rattle.rule.specs.Card.{Ready, Card, Plan, Opened, Surveying, lost, lost_opened}
use Rattle.rule.specs.Card as rule_of_card
use Rattle.rule.specs.Reading.{EntryLine, DamageLine, Status, Space}
use Rattle.rule.specs.Reading as rule_of_reading
use Rattle.rule.specs.Changing as rule_of_changing

-- the card: closed after power-on or an accepted format, then opened, then surveyed, each with what it keeps
pub data Phase : Type 0 where
  closed : Phase
  opened : Opened → Phase
  surveyed : Card → Phase

pub record State : Type 0 where
  pub device : Model
  pub card : Phase

-- a call with its arguments and its answer, or a power cut
pub data Event : Type 0 where
  opening : Event
  survey : Answer (ℕ × ℕ) → Event
  ending : Event
  find : Handle → Name → Answer Handle → Event
  path : List ℕ → Result Handle PathRefusal → Event
  list : Handle → Answer (List EntryLine) → Event
  status : Handle → Answer Status → Event
  damage : Answer (List DamageLine) → Event
  space : Answer Space → Event
  read : Handle → ℕ → ℕ → Answer (List ℕ) → Event
  create : Kind → Handle → Name → Answer Handle → Event
  write : Handle → ℕ → List ℕ → Answer (Unit {0}) → Event
  shorten : Handle → ℕ → Answer (Unit {0}) → Event
  remove : Handle → Name → Answer (Unit {0}) → Event
  sync : Answer (Unit {0}) → Event
  cut : Event

-- ---- what a call leaves

-- what the card has as its geometry, or as the refusal that answers each call; a closed card takes no call
abbrev pub Has : Phase → Ready → Type 0
Has closed x = ⊥
Has (opened o) x = o.ready ≡ x
Has (surveyed c) x = c.ready ≡ x

-- only a card that is neither bad nor has met power gone calls its device
abbrev pub Live : Ready → Type 0
Live x = (g : Geometry) × (x ≡ Ok g)

-- the card after it met power gone at block b: it keeps that refusal
abbrev pub gone_at : BlockNo → Phase → Phase
gone_at b closed = closed
gone_at b (opened o) = opened (lost_opened b o)
gone_at b (surveyed c) = surveyed (lost b c)

-- nothing was written, and the card is now c
pub record Still (s t : State) (c : Phase) : Type 0 where
  pub kept : Kept s.device t.device
  pub power : t.device.power ≡ s.device.power
  pub card : t.card ≡ c

-- power gone was met and nothing was written; the card is now c
pub record Gone (s t : State) (c : Phase) : Type 0 where
  pub lost : Lost s.device t.device
  pub card : t.card ≡ c

-- ---- reading calls: the answer is the rule's, or power gone, of which `met` says how it is told

pub record Reads {A E : Type 0} (met : BlockNo → E) (rule : Ready → Shown → Result A E) (s : State) (r : Result A E) (t : State) : Type 0 where
  pub ready : Ready
  pub has : Has s.card ready
  pub turn : ((r ≡ rule ready s.device.shown) × Still s t s.card)
      ⊎ ((b : BlockNo) × Live ready × (r ≡ Err (met b)) × Gone s t (gone_at b s.card))

-- ---- changing calls, by their plan

-- accepted: the answer and the card are the plan's, and every block of the plan shows
pub record Accepted {A : Type 0} (p : Plan A) (s : State) (r : Answer A) (t : State) : Type 0 where
  pub answer : r ≡ Ok p.answer
  pub altered : Altered accepted p.puts s.device t.device
  pub card : t.card ≡ surveyed p.card

-- broken off: the plan stands, but power gone was met before or while its blocks were written
pub record Broken {A : Type 0} (p : Plan A) (c : Card) (s : State) (r : Answer A) (t : State) : Type 0 where
  pub at : BlockNo
  pub answer : r ≡ Err (PowerGone at)
  pub altered : Altered broken p.puts s.device t.device
  pub card : t.card ≡ surveyed (lost at c)

-- a call that the rule refuses is refused so, or meets power gone; it writes nothing
abbrev pub ByPlan : {A : Type 0} → Answer (Plan A) → Card → State → Answer A → State → Type 0
ByPlan (Ok p) c s r t = Accepted p s r t ⊎ Broken p c s r t
ByPlan (Err e) c s r t = ((r ≡ Err e) × Still s t s.card) ⊎ ((b : BlockNo) × Live c.ready × (r ≡ Err (PowerGone b)) × Gone s t (surveyed (lost b c)))

pub record Changes {A : Type 0} (plan : Card → Shown → Answer (Plan A)) (s : State) (r : Answer A) (t : State) : Type 0 where
  pub memory : Card
  pub card : s.card ≡ surveyed memory
  pub turn : ByPlan (plan memory s.device.shown) memory s r t

-- ---- sync: the device's answer is passed on

abbrev pub ByDevice : Ready → State → Answer (Unit {0}) → State → Type 0
ByDevice (Err e) s r t = (r ≡ Err e) × Still s t s.card
ByDevice (Ok g) s r t = ((a : Synced) × (r ≡ rule_of_changing.synced a) × SyncAnswer s.device t.device a × (t.card ≡ s.card))
    ⊎ ((b : BlockNo) × (b.0 ≡ 65535) × (r ≡ Err (PowerGone b)) × Gone s t (gone_at b s.card))

pub record Syncs (s : State) (r : Answer (Unit {0})) (t : State) : Type 0 where
  pub memory : Card
  pub card : s.card ≡ surveyed memory
  pub turn : ByDevice memory.ready s r t

-- ---- opening and surveying

-- only a closed card is opened, and only a cut or an accepted format closes it
pub record Opens (s t : State) : Type 0 where
  pub card : s.card ≡ closed
  pub turn : Still s t (opened (rule_of_card.opened s.device.count s.device.shown))
      ⊎ ((b : BlockNo) × Gone s t (opened (lost_opened b (rule_of_card.opened s.device.count s.device.shown))))

abbrev pub ByStep : Answer Surveying → Opened → State → Answer (ℕ × ℕ) → State → Type 0
ByStep (Ok w) o s r t = ((r ≡ Ok (w.remain, w.card.highest)) × Still s t (opened w.card))
    ⊎ ((b : BlockNo) × (r ≡ Err (PowerGone b)) × Gone s t (opened (lost_opened b o)))
ByStep (Err e) o s r t = (r ≡ Err e) × Still s t s.card

pub record Surveys (s : State) (r : Answer (ℕ × ℕ)) (t : State) : Type 0 where
  pub so_far : Opened
  pub card : s.card ≡ opened so_far
  pub turn : ByStep (rule_of_card.survey_step so_far s.device.shown) so_far s r t

-- the end of the survey never refuses: power gone shows on the surveyed card
pub record Ends (s t : State) : Type 0 where
  pub so_far : Opened
  pub card : s.card ≡ opened so_far
  pub turn : Still s t (surveyed (rule_of_card.surveyed so_far s.device.shown))
      ⊎ ((b : BlockNo) × Live so_far.ready × Gone s t (surveyed (rule_of_card.surveyed (lost_opened b so_far) s.device.shown)))

-- the event e leads from s to t
abbrev pub Step : State → Event → State → Type 0
Step s opening t = Opens s t
Step s (survey r) t = Surveys s r t
Step s ending t = Ends s t
Step s (find f n r) t = Reads PowerGone (rule_of_reading.find f n) s r t
Step s (path p r) t = (i : ℕ) × Reads (λ b. record { lower = PowerGone b; component = i }) (rule_of_reading.path p) s r t
Step s (list f r) t = Reads PowerGone (rule_of_reading.list f) s r t
Step s (status h r) t = Reads PowerGone (rule_of_reading.status h) s r t
Step s (damage r) t = Reads PowerGone rule_of_reading.damage s r t
Step s (space r) t = ((c : Card) × (s.card ≡ surveyed c)) × Reads PowerGone rule_of_reading.space s r t
Step s (read h k room r) t = Reads PowerGone (rule_of_reading.read h k room) s r t
Step s (create d f n r) t = Changes (rule_of_changing.create d f n) s r t
Step s (write h k x r) t = Changes (rule_of_changing.write h k x) s r t
Step s (shorten h n r) t = Changes (rule_of_changing.shorten h n) s r t
Step s (remove f n r) t = Changes (rule_of_changing.remove f n) s r t
Step s (sync r) t = Syncs s r t
Step s cut t = Cut s.device t.device × (t.card ≡ closed)
