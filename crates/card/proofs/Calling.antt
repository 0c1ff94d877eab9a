-- The four changing calls: what is known of each once its plan was made.
use Rattle.std.proofs.Common.{◌≡◌, ℕ, List, Ok, Option, refl}
use Rattle.base.specs.declared.owner.Kind.{Kind}
use Rattle.base.specs.declared.owner.Handle.{Handle}
use Rattle.device.specs.Model.{Model}
use Rattle.layout.specs.Format.{Name}
use Rattle.layout.specs.Sizes.{sizes}
use Rattle.layout.specs.declared.geometry.Geometry.{Geometry as CardGeometry}
use Rattle.marks.specs.declared.mark.Marks.{Marks}
use Rattle.moves.proofs.Stays.{create_stays_tied, write_stays_tied, shorten_stays_tied, remove_stays_tied}
use Rattle.rule.specs.Changing.{create, write, shorten, remove}
use Rattle.rule.specs.Check.{Answer}
use Rattle.walk.specs.Still.{Gives}
use Rattle.walk.specs.declared.node.Node.{Node}
use Rattle.change.specs.Plans.{card_view, Grounded, CreatePlanned, WritePlanned, ShortenPlanned, RemovePlanned}
use Rattle.change.specs.declared.plan.Accepted.{Accepted}
use Rattle.change.specs.declared.plan.Created.{Created}
use Rattle.change.specs.declared.plan.Gained.{Gained}
use Rattle.change.specs.declared.plan.Memory.{Memory}
use Rattle.card_lists.specs.Ready.{Kept}
use Rattle.card.specs.Valid.{Knows, Known}
use Rattle.card.proofs.Insides.{create_inside, write_inside, shorten_inside, remove_inside}
use Rattle.card.proofs.Plans.{Call, Planning, planning}
use Rattle.card.proofs.Quiet.{create_quiet, write_quiet, shorten_quiet, remove_quiet}

module _ (g : CardGeometry) (mem : Memory) (ms : Marks) (m : Model) (w : Knows g mem ms m) where
  pub create_call : (d : Kind) (f : Handle) (x : Name) → Call (create d f x) g mem m
  create_call d f x = record {
    quiet = create_quiet (sizes g) (card_view g mem) refl m.shown d f x;
    inside = λ p e n room. create_inside (sizes g) (card_view g mem) m.shown w.tied n room d f x p e;
    tied = λ p e. create_stays_tied (sizes g) (card_view g mem) m.shown d f x p w.tied e;
  }

  pub write_call : (h : Handle) (k : ℕ) (x : List ℕ) → Call (write h k x) g mem m
  write_call h k x = record {
    quiet = write_quiet (sizes g) (card_view g mem) refl m.shown h k x;
    inside = λ p e n room. write_inside (sizes g) (card_view g mem) m.shown w.tied n room h k x p e;
    tied = λ p e. write_stays_tied (sizes g) (card_view g mem) m.shown h k x p w.tied e;
  }

  pub shorten_call : (h : Handle) (k : ℕ) → Call (shorten h k) g mem m
  shorten_call h k = record {
    quiet = shorten_quiet (sizes g) (card_view g mem) refl m.shown h k;
    inside = λ p e n room. shorten_inside (sizes g) (card_view g mem) m.shown w.tied n room h k p e;
    tied = λ p e. shorten_stays_tied (sizes g) (card_view g mem) m.shown h k p w.tied e;
  }

  pub remove_call : (f : Handle) (x : Name) → Call (remove f x) g mem m
  remove_call f x = record {
    quiet = remove_quiet (sizes g) (card_view g mem) refl m.shown f x;
    inside = λ p e n room. remove_inside (sizes g) (card_view g mem) m.shown w.tied n room f x p e;
    tied = λ p e. remove_stays_tied (sizes g) (card_view g mem) m.shown f x p w.tied e;
  }

module _ {g : CardGeometry} {c : Kept} {mem : Memory} {ms : Marks} {m z : Model} where
  pub create_planning : {d : Kind} {f : Handle} {x : Name} {y : Answer (Accepted Created)} → (Grounded g m ms → Gives g y (create d f x (card_view g mem) m.shown) (CreatePlanned g m mem d f x) m z) → c ≡ Ok g → Known c mem ms m →
      Planning (create d f x) (CreatePlanned g m mem d f x) g c mem ms m y z
  create_planning gives is known = planning _ _ g c mem ms m _ z (λ w. create_call g mem ms m w _ _ _) is known gives

  pub write_planning : {h : Handle} {k : ℕ} {x : List ℕ} {y : Answer (Accepted (Option Gained))} → (Grounded g m ms → Gives g y (write h k x (card_view g mem) m.shown) (WritePlanned g m mem h k x) m z) → c ≡ Ok g → Known c mem ms m →
      Planning (write h k x) (WritePlanned g m mem h k x) g c mem ms m y z
  write_planning gives is known = planning _ _ g c mem ms m _ z (λ w. write_call g mem ms m w _ _ _) is known gives

  pub shorten_planning : {h : Handle} {k : ℕ} {y : Answer (Accepted Node)} → (Grounded g m ms → Gives g y (shorten h k (card_view g mem) m.shown) (ShortenPlanned g m mem h k) m z) → c ≡ Ok g → Known c mem ms m →
      Planning (shorten h k) (ShortenPlanned g m mem h k) g c mem ms m y z
  shorten_planning gives is known = planning _ _ g c mem ms m _ z (λ w. shorten_call g mem ms m w _ _) is known gives

  pub remove_planning : {f : Handle} {x : Name} {y : Answer (Accepted Node)} → (Grounded g m ms → Gives g y (remove f x (card_view g mem) m.shown) (RemovePlanned g m mem f x) m z) → c ≡ Ok g → Known c mem ms m →
      Planning (remove f x) (RemovePlanned g m mem f x) g c mem ms m y z
  remove_planning gives is known = planning _ _ g c mem ms m _ z (λ w. remove_call g mem ms m w _ _) is known gives
