-- Which event of a history a call and its answer are.
use Rattle.std.specs.Prelude.{◌≡◌, ℕ, ◌⊎◌, List, Bool, true, false, replicate}
use Rattle.std.specs.Result.{result_map_both}
use Rattle.rule.specs.Check.{Answer as RuleAnswer}
use Rattle.rule.specs.Reading as rule_of_reading
use Rattle.history.specs.Events.{State, Step as history_step, Phase, closed, opened, surveyed, Event, opening, survey, ending, find, path, list, status, damage, space, read, create, write, shorten, remove, sync, cut}
use Rattle.tours.specs.Lists.{entry_row}
use Rattle.tours.specs.Damage.{damage_row}
use Rattle.card_lists.specs.Lined.{zero_entry, zero_damage}
use Rattle.card_lists.specs.Ready.{LinesOf}
use Rattle.card.specs.Calls.{Fills}
use Rattle.card.specs.Views.{status_view, surveying_view, space_view}
use Rattle.trial.specs.declared.call.Reading.{Reading}
use Rattle.trial.specs.declared.call.Reading.TheVariants.{Find, Path, List as ListOf, Status, Damage, Read}
use Rattle.trial.specs.declared.call.Changing.{Changing}
use Rattle.trial.specs.declared.call.Changing.TheVariants.{Space, Create, Write, Shorten, Remove, Sync}
use Rattle.trial.specs.declared.call.Call.{Call}
use Rattle.trial.specs.declared.call.Call.TheVariants.{Open, Step, End, Read as ToRead, Change, Cut, Trouble}
use Rattle.trial.specs.declared.answer.Answer.{Answer}
use Rattle.trial.specs.declared.answer.Answer.TheVariants.{NotNow, Done, Surveying, Handle as Handled, Path as Led, Status as Stated, Entries, Damage as Damaged, Leaf, Space as Left, Changed}

-- a reading call, its answer, and what was filled of the caller's lines or buffer, which were zero before
abbrev pub TellsReading : Reading → Answer → Event → Type 0
TellsReading (Find f n) (Handled r) e = e ≡ find f n.now r
TellsReading (Path p) (Led r) e = e ≡ path p.now r
TellsReading (ListOf f n) (Entries r after) e = (a : RuleAnswer (List rule_of_reading.EntryLine)) × (e ≡ list f a) × LinesOf entry_row zero_entry a r (replicate n zero_entry) after.items
TellsReading (Status h) (Stated r) e = e ≡ status h (result_map_both status_view (λ x. x) r)
TellsReading (Damage n) (Damaged r after) e = (a : RuleAnswer (List rule_of_reading.DamageLine)) × (e ≡ damage a) × LinesOf damage_row zero_damage a r (replicate n zero_damage) after.items
TellsReading (Read h k n) (Leaf r after) e = (a : RuleAnswer (List ℕ)) × (e ≡ read h k.0 n a) × Fills a r (replicate n 0) after.items
TellsReading c a e = ⊥

abbrev pub TellsChanging : Changing → Answer → Event → Type 0
TellsChanging Space (Left r) e = e ≡ space (result_map_both space_view (λ x. x) r)
TellsChanging (Create d f n) (Handled r) e = e ≡ create d f n.now r
TellsChanging (Write h k x) (Changed r) e = e ≡ write h k.0 x.now r
TellsChanging (Shorten h n) (Changed r) e = e ≡ shorten h n.0 r
TellsChanging (Remove f n) (Changed r) e = e ≡ remove f n.now r
TellsChanging Sync (Changed r) e = e ≡ sync r
TellsChanging c a e = ⊥

abbrev pub Tells : Call → Answer → Event → Type 0
Tells Open Done e = e ≡ opening
Tells Step (Surveying r) e = e ≡ survey (result_map_both surveying_view (λ x. x) r)
Tells End Done e = e ≡ ending
Tells (ToRead c) a e = TellsReading c a e
Tells (Change c) a e = TellsChanging c a e
Tells (Cut l) Done e = e ≡ cut
Tells c a e = ⊥

-- ---- when a call is made

abbrev pub fits : Call → Phase → Bool
fits Open closed = true
fits Step (opened o) = true
fits End (opened o) = true
fits (ToRead c) (opened o) = true
fits (ToRead c) (surveyed d) = true
fits (Change c) (surveyed d) = true
fits (Cut l) p = true
fits (Trouble t) closed = true
fits c p = false

-- no event: the call does not fit, or it is none of the card's
abbrev pub Idle : Call → Answer → Phase → Type 0
Idle (Trouble t) Done closed = Unit {0}
Idle c NotNow p = fits c p ≡ false
Idle c a p = ⊥

-- a call led from s to t: it was made, as a step of the history, or it was none of the card's
abbrev pub Does : Call → Answer → State → State → Type 0
Does c a s t = ((e : Event) × Tells c a e × history_step s e t) ⊎ (Idle c a s.card × (t ≡ s))
