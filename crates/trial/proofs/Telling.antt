-- A call made is an event of the history.
use Rattle.std.specs.Prelude.{◌≡◌, ℕ, List, length, replicate, Vec}
use Rattle.std.specs.Vec.{with_items}
use Rattle.std.proofs.Common.{subst, sym, inl}
use Rattle.std.proofs.lemmas.List.{with_items_is}
use Rattle.history.specs.Events.{State, Event, Step}
use Rattle.trial.specs.Tells.{TellsReading, TellsChanging, Tells, Does}
use Rattle.trial.specs.declared.call.Reading.{Reading}
use Rattle.trial.specs.declared.call.Changing.{Changing}
use Rattle.trial.specs.declared.call.Call.{Call}
use Rattle.trial.specs.declared.answer.Answer.{Answer}

pub read_told : {w v : Reading} → w ≡ v → (a : Answer) {s t : State} (e : Event) → TellsReading v a e → Step s e t → (x : Event) × TellsReading w a x × Step s x t
read_told is a e told step = (e, subst (λ u. TellsReading u a e) (sym is) told, step)

pub change_told : {w v : Changing} → w ≡ v → (a : Answer) {s t : State} (e : Event) → TellsChanging v a e → Step s e t → (x : Event) × TellsChanging w a x × Step s x t
change_told is a e told step = (e, subst (λ u. TellsChanging u a e) (sym is) told, step)

pub call_told : {w v : Call} → w ≡ v → (a : Answer) {s t : State} (e : Event) → Tells v a e → Step s e t → Does w a s t
call_told is a e told step = inl (e, subst (λ u. Tells u a e) (sym is) told, step)

-- what was lent were copies of one value, and all of it comes back
pub lent : {L Z : Type 0} (zero : L) (n : ℕ) {before after : List L} (v : Vec L Z) (P : List L → List L → Type 0) →
    before ≡ replicate n zero → length after ≡ v.len → P before after → P (replicate n zero) (with_items v after).items
lent {L} {Z} zero n {before} {after} v P was size p =
    subst (λ (ys : List L). P (replicate n zero) ys) (sym (with_items_is v after size)) (subst (λ (xs : List L). P xs after) was p)
