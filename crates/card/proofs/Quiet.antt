-- The rule itself never answers power gone.
use Rattle.std.proofs.Common.{◌≡◌, ℕ, suc, Bool, true, false, ltb, List, length, Some, None, Ok, Err, Option, Result, sym, refl, ap, ◌∙◌, subst, arith}
use Rattle.base.specs.Refusals.{number_of}
use Rattle.base.specs.declared.owner.Kind.{Kind}
use Rattle.base.specs.declared.owner.Kind.TheVariants.{File, Folder}
use Rattle.base.specs.declared.owner.Handle.{Handle}
use Rattle.base.specs.declared.refusal.Refusal.{Refusal}
use Rattle.base.specs.declared.refusal.Refusal.TheVariants.{NoSuchHandle, WrongKind, NoSuchName, NoSuchLeaf, LeafNotGood, NameTaken, BadName, BadLength, NoFreeBody, NoFreeSlot, FolderFull, IdentitiesSpent, FolderNotEmpty}
use Rattle.layout.specs.Format.{Geometry, Name, Cell, Slot, entry_of, cell, handle}
use Rattle.rule.specs.Agree.{View, Shown, seen, count, number, Place, found}
use Rattle.rule.specs.Card.{Card, block}
use Rattle.rule.specs.Changing.{changing, below_count, replaces, appends, write, shorten, remove, untaken, placed, open_place, create}
use Rattle.rule.specs.Check.{Answer, ◌>>=◌, check, demand}
use Rattle.rule.specs.Reading.{fits, kind_is, reading, step, named, child_of}

abbrev pub Quiet : {A : Type 0} → Answer A → Type 0
Quiet x = (e : Refusal) → x ≡ Err e → number_of e ≡ 1 → ⊥

no_ok : {A B E : Type 0} {a : B} {e : E} → Ok a ≡ Err e → A
no_ok q = let z : ◌≡◌ {A = ℕ} 0 1 = cc in absurd (omega arith)

same_err : {A E : Type 0} {d e : E} → ◌≡◌ {A = Result A E} (Err d) (Err e) → d ≡ e
same_err q = cc

pub ok_quiet : {A : Type 0} (a : A) → Quiet (Ok a)
ok_quiet a e q = no_ok q

pub err_quiet : {A : Type 0} (d : Refusal) → (number_of d ≡ 1 → ⊥) → Quiet {A = A} (Err d)
err_quiet d h e q n = h (ap number_of (same_err q) ∙ n)

pub check_quiet : (b : Bool) (d : Refusal) → (number_of d ≡ 1 → ⊥) → Quiet (check b d)
unfolding check
check_quiet true d h = ok_quiet tt
check_quiet false d h = err_quiet d h

pub demand_quiet : {A : Type 0} (o : Option A) (d : Refusal) → (number_of d ≡ 1 → ⊥) → Quiet (demand o d)
unfolding demand
demand_quiet (Some a) d h = ok_quiet a
demand_quiet None d h = err_quiet d h

pub bind_quiet : {A B : Type 0} (x : Answer A) (k : A → Answer B) → Quiet x → ((a : A) → Quiet (k a)) → Quiet (x >>= k)
unfolding ◌>>=◌
bind_quiet (Ok a) k h l = l a
bind_quiet (Err d) k h l = err_quiet d (h d refl)

pub fits_quiet : (g : Geometry) (v : View) (h : Handle) → Quiet (fits g v h)
unfolding fits
fits_quiet g v h = bind_quiet _ _ (demand_quiet _ (NoSuchHandle h.slot) (λ n. omega arith)) (λ r. bind_quiet _ _ (check_quiet _ (NoSuchHandle h.slot) (λ n. omega arith)) (λ u. ok_quiet r))

kind_quiet : (d : Kind) (h : Handle) (r : Slot) → Quiet (kind_is d h r)
unfolding kind_is
kind_quiet d h r = bind_quiet _ _ (check_quiet _ (WrongKind h.slot) (λ n. omega arith)) (λ u. ok_quiet r)

pub reading_quiet : (g : Geometry) (v : View) (d : Kind) (h : Handle) → Quiet (reading g v d h)
unfolding reading
reading_quiet g v d h = bind_quiet _ _ (fits_quiet g v h) (kind_quiet d h)

pub step_quiet : (g : Geometry) (v : View) (f : Handle) (n : Name) → Quiet (step g v f n)
unfolding step
step_quiet g v f n = bind_quiet _ _ (reading_quiet g v _ f) (λ r. bind_quiet _ _ (demand_quiet _ (NoSuchName f.slot) (λ n. omega arith)) (λ q. ok_quiet _))

-- ---- the plans, on a card that is ready

changing_quiet : (g : Geometry) (v : View) (d : Kind) (h : Handle) → Quiet (changing g v d h)
unfolding changing
changing_quiet g v d h = bind_quiet _ _ (fits_quiet g v h) (λ r. bind_quiet _ _ (check_quiet _ (NoSuchHandle h.slot) (λ n. omega arith)) (λ u. kind_quiet d h r))

named_quiet : (n : Name) → Quiet (named n)
unfolding named
named_quiet n = check_quiet _ (BadName (length n)) (λ n. omega arith)

module _ (g : Geometry) (c : Card) (ready : c.ready ≡ Ok g) (shown : Shown) where
  ready_quiet : Quiet c.ready
  ready_quiet = subst Quiet (sym ready) (ok_quiet g)

  pub shorten_quiet : (h : Handle) (n : ℕ) → Quiet (shorten h n c shown)
  unfolding shorten
  shorten_quiet h n = bind_quiet _ _ ready_quiet (λ g. bind_quiet _ _ (changing_quiet g (seen g shown) File h) (λ r.
      bind_quiet _ _ (check_quiet _ (NoSuchLeaf (record { 0 = n })) (λ n. omega arith)) (λ u. ok_quiet _)))

  replaces_quiet : (v : View) (h : Handle) (r : Slot) (k : ℕ) (x : List ℕ) → Quiet (replaces v c h r k x)
  unfolding replaces
  replaces_quiet v h r k x = bind_quiet _ _ (check_quiet _ (LeafNotGood (block (number r k))) (λ n. omega arith)) (λ u. ok_quiet _)

  appends_quiet : (g : Geometry) (v : View) (h : Handle) (r : Slot) (x : List ℕ) → Quiet (appends g v c h r x)
  unfolding appends
  appends_quiet g v h r x = bind_quiet _ _ (demand_quiet _ (NoFreeBody h.slot) (λ n. omega arith)) (λ b. ok_quiet _)

  below_quiet : (t : Bool) (g : Geometry) (v : View) (h : Handle) (r : Slot) (k : ℕ) (x : List ℕ) → Quiet (below_count t g v c h r k x)
  below_quiet true g v h r k x = replaces_quiet v h r k x
  below_quiet false g v h r k x = appends_quiet g v h r x

  pub write_quiet : (h : Handle) (k : ℕ) (x : List ℕ) → Quiet (write h k x c shown)
  unfolding write
  write_quiet h k x = bind_quiet _ _ (check_quiet _ (BadLength (length x)) (λ n. omega arith)) (λ u. bind_quiet _ _ ready_quiet (λ g.
      bind_quiet _ _ (changing_quiet g (seen g shown) File h) (λ r. bind_quiet _ _ (check_quiet _ (NoSuchLeaf (record { 0 = k })) (λ n. omega arith)) (λ w.
      below_quiet (ltb k (count r)) g (seen g shown) h r k x))))

  pub remove_quiet : (f : Handle) (n : Name) → Quiet (remove f n c shown)
  unfolding remove
  remove_quiet f n = bind_quiet _ _ (named_quiet n) (λ u. bind_quiet _ _ ready_quiet (λ g. bind_quiet _ _ (changing_quiet g (seen g shown) Folder f) (λ r.
      bind_quiet _ _ (demand_quiet _ (NoSuchName f.slot) (λ n. omega arith)) (λ q. bind_quiet _ _ (check_quiet _ (FolderNotEmpty (child_of (entry_of g q.cell)).slot) (λ n. omega arith)) (λ w. ok_quiet _)))))

  untaken_quiet : (g : Geometry) (o : Option Place) → Quiet (untaken g o)
  unfolding untaken
  untaken_quiet g None = ok_quiet tt
  untaken_quiet g (Some q) = err_quiet (NameTaken (child_of (entry_of g q.cell)).slot) (λ n. omega arith)

  placed_quiet : (g : Geometry) (v : View) (f : Handle) (r : Slot) (e : Cell) (o : Option Place) → Quiet (placed g v c f r e o)
  unfolding placed
  placed_quiet g v f r e (Some q) = ok_quiet _
  placed_quiet g v f r e None = bind_quiet _ _ (check_quiet _ (FolderFull f.slot) (λ n. omega arith)) (λ u. bind_quiet _ _ (demand_quiet _ (NoFreeBody f.slot) (λ n. omega arith)) (λ b. ok_quiet _))

  pub create_quiet : (d : Kind) (f : Handle) (n : Name) → Quiet (create d f n c shown)
  unfolding create
  create_quiet d f n = bind_quiet _ _ (named_quiet n) (λ u. bind_quiet _ _ ready_quiet (λ g. bind_quiet _ _ (changing_quiet g (seen g shown) Folder f) (λ r.
      bind_quiet _ _ (untaken_quiet g (found g (seen g shown) f r n)) (λ w. bind_quiet _ _ (demand_quiet _ (NoFreeSlot g.slots) (λ n. omega arith)) (λ s.
      bind_quiet _ _ (check_quiet _ IdentitiesSpent (λ n. omega arith)) (λ z. bind_quiet _ _ (placed_quiet g (seen g shown) f r (cell n (handle s (suc c.highest))) (open_place g (seen g shown) f r)) (λ y. ok_quiet _)))))))
