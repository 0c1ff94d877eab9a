-- Changing calls that are refused before the device is called.
use Rattle.std.proofs.Common.{◌≡◌, ℕ, ◌<◌, ◌≤◌, leb, List, length, Ok, Err, ◌∙◌}
use Rattle.std.proofs.lemmas.Bool.{le-leb, lt-leb}
use Rattle.base.specs.declared.owner.Kind.{Kind}
use Rattle.base.specs.declared.owner.Handle.{Handle}
use Rattle.base.specs.declared.refusal.Refusal.{Refusal}
use Rattle.base.specs.declared.refusal.Refusal.TheVariants.{BadLength}
use Rattle.layout.specs.Format.{Name}
use Rattle.rule.specs.Agree.{Shown}
use Rattle.rule.specs.Card.{Card}
use Rattle.rule.specs.Changing.{create, write, shorten, remove}
use Rattle.rule.specs.Reading.{named}
use Rattle.walk.proofs.Stepping.{bind_ok, bind_err, check_ok, check_err}

module _ (c : Card) (shown : Shown) where
  pub shorten_unready : (h : Handle) (n : ℕ) (e : Refusal) → c.ready ≡ Err e → shorten h n c shown ≡ Err e
  unfolding shorten
  shorten_unready h n e r = bind_err _ _ e r

  pub write_long : (h : Handle) (k : ℕ) (x : List ℕ) → 496 < length x → write h k x c shown ≡ Err (BadLength (length x))
  unfolding write
  write_long h k x l = bind_err _ _ _ (check_err (leb (length x) 496) _ (lt-leb (length x) 496 l))

  pub write_unready : (h : Handle) (k : ℕ) (x : List ℕ) (e : Refusal) → length x ≤ 496 → c.ready ≡ Err e → write h k x c shown ≡ Err e
  unfolding write
  write_unready h k x e l r = bind_ok _ _ tt (check_ok (leb (length x) 496) _ (le-leb (length x) 496 l)) ∙ bind_err _ _ e r

  pub remove_bad : (f : Handle) (n : Name) (e : Refusal) → named n ≡ Err e → remove f n c shown ≡ Err e
  unfolding remove
  remove_bad f n e h = bind_err _ _ e h

  pub remove_unready : (f : Handle) (n : Name) (e : Refusal) → named n ≡ Ok tt → c.ready ≡ Err e → remove f n c shown ≡ Err e
  unfolding remove
  remove_unready f n e h r = bind_ok _ _ tt h ∙ bind_err _ _ e r

  pub create_bad : (d : Kind) (f : Handle) (n : Name) (e : Refusal) → named n ≡ Err e → create d f n c shown ≡ Err e
  unfolding create
  create_bad d f n e h = bind_err _ _ e h

  pub create_unready : (d : Kind) (f : Handle) (n : Name) (e : Refusal) → named n ≡ Ok tt → c.ready ≡ Err e → create d f n c shown ≡ Err e
  unfolding create
  create_unready d f n e h r = bind_ok _ _ tt h ∙ bind_err _ _ e r
