-- Which calls count as made, by their answers: those that were accepted, and of those that met power gone the ones that the rule accepts.
use Rattle.std.specs.Prelude.{◌≡◌, ℕ, ◌⊎◌, List, Ok, Err}
use Rattle.base.specs.declared.number.BlockNo.{BlockNo}
use Rattle.base.specs.declared.owner.Kind.{Kind}
use Rattle.base.specs.declared.owner.Handle.{Handle}
use Rattle.base.specs.declared.refusal.Refusal.TheVariants.{PowerGone}
use Rattle.layout.specs.Format.{Name}
use Rattle.rule.specs.Check.{Answer}
use Rattle.history.specs.Events.{State, create, write, shorten, remove, Step}
use Rattle.history.specs.History.{created, wrote, shortened, removed, nothing, deed}

-- an accepted call counts, with the handle that it answered
pub record AcceptedCallsCount (s t : State) : Type 0 where
  pub create : (d : Kind) (f : Handle) (n : Name) (c : Handle) → Step s (create d f n (Ok c)) t → deed s (create d f n (Ok c)) ≡ created d f n c
  pub write : (h : Handle) (k : ℕ) (x : List ℕ) → Step s (write h k x (Ok tt)) t → deed s (write h k x (Ok tt)) ≡ wrote h k x
  pub shorten : (h : Handle) (n : ℕ) → Step s (shorten h n (Ok tt)) t → deed s (shorten h n (Ok tt)) ≡ shortened h
  pub remove : (f : Handle) (n : Name) → Step s (remove f n (Ok tt)) t → (c : Handle) × (deed s (remove f n (Ok tt)) ≡ removed c)

abbrev pub AcceptedOrGone : {A : Type 0} → Answer A → Type 0
AcceptedOrGone {A} r = ((a : A) × (r ≡ Ok a)) ⊎ ((b : BlockNo) × (r ≡ Err (PowerGone b)))

-- a call that was refused otherwise does not
pub record RefusedCallsDoNothing (s t : State) : Type 0 where
  pub create : (d : Kind) (f : Handle) (n : Name) (r : Answer Handle) → Step s (create d f n r) t → (deed s (create d f n r) ≡ nothing) ⊎ AcceptedOrGone r
  pub write : (h : Handle) (k : ℕ) (x : List ℕ) (r : Answer (Unit {0})) → Step s (write h k x r) t → (deed s (write h k x r) ≡ nothing) ⊎ AcceptedOrGone r
  pub shorten : (h : Handle) (n : ℕ) (r : Answer (Unit {0})) → Step s (shorten h n r) t → (deed s (shorten h n r) ≡ nothing) ⊎ AcceptedOrGone r
  pub remove : (f : Handle) (n : Name) (r : Answer (Unit {0})) → Step s (remove f n r) t → (deed s (remove f n r) ≡ nothing) ⊎ AcceptedOrGone r

abbrev pub CallsCount : Type 0
CallsCount = (s t : State) → AcceptedCallsCount s t × RefusedCallsDoNothing s t
