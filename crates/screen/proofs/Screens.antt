-- One leaf, check after check; and that a leaf number past 65,535 is refused as any past the count is.
use Rattle.std.proofs.Common.{◌≡◌, ℕ, ◌<◌, ◌≤◌, min, Bool, true, false, ltb, leb, List, length, Ok, Err, Result, sym, refl, ap, ◌∙◌, subst, inl, inr, arith}
use Rattle.std.proofs.lemmas.Bool.{lt-leb, le-leb, le-ltb, cases_lt}
use Rattle.base.specs.declared.owner.Kind.TheVariants.{File}
use Rattle.base.specs.declared.owner.Handle.{Handle}
use Rattle.base.specs.declared.refusal.Refusal.TheVariants.{BadLength, NoSuchLeaf}
use Rattle.base.specs.declared.refusal.PathRefusal.{PathRefusal}
use Rattle.layout.specs.Format.{Geometry, Slot}
use Rattle.rule.specs.Agree.{Shown, seen, count}
use Rattle.rule.specs.Card.{Ready}
use Rattle.rule.specs.Check.{Answer, ◌>>=◌, check}
use Rattle.rule.specs.Reading.{components, all_named, path, read, reading, read_into}
use Rattle.rule.proofs.Formed.{slot_formed, file_formed}
use Rattle.rule.proofs.Answered.{read_means, reading_ok}
use Rattle.walk.proofs.Stepping.{bind_ok, bind_err, check_ok, check_err}
use Rattle.screen.specs.Screen.{lower, leaf_at, told}

no_ok : {A B E : Type 0} {a : B} {e : E} → Err e ≡ Ok a → A
no_ok q = let z : ◌≡◌ {A = ℕ} 0 1 = cc in absurd (omega arith)

module _ (p : List ℕ) (k room : ℕ) (ready : Ready) (shown : Shown) where
  pub leaf_unnamed : (e : PathRefusal) → all_named 0 (components p) ≡ Err e → leaf_at p k room ready shown ≡ Err e.lower
  unfolding leaf_at
  leaf_unnamed e h = bind_err _ _ e.lower (ap lower h)

  module _ (named : all_named 0 (components p) ≡ Ok tt) where
    pub leaf_short : room < 496 → leaf_at p k room ready shown ≡ Err (BadLength room)
    unfolding leaf_at
    leaf_short l = bind_ok _ _ tt (ap lower named) ∙ bind_err _ _ _ (check_err (leb 496 room) _ (lt-leb 496 room l))

    module _ (enough : 496 ≤ room) where
      pub leaf_lost : (e : PathRefusal) → path p ready shown ≡ Err e → leaf_at p k room ready shown ≡ Err e.lower
      unfolding leaf_at
      leaf_lost e h = bind_ok _ _ tt (ap lower named) ∙ bind_ok _ _ tt (check_ok (leb 496 room) _ (le-leb 496 room enough)) ∙ bind_err _ _ e.lower (ap lower h)

      pub leaf_found : (h : Handle) → path p ready shown ≡ Ok h → leaf_at p k room ready shown ≡ read h k room ready shown
      unfolding leaf_at
      leaf_found h q = bind_ok _ _ tt (ap lower named) ∙ bind_ok _ _ tt (check_ok (leb 496 room) _ (le-leb 496 room enough)) ∙ bind_ok _ _ h (ap lower q)

-- ---- a leaf has at most 496 bytes

bind_last : {A B E : Type 0} (x : Result A E) (f : A → Result B E) (b : B) → (x >>= f) ≡ Ok b → (a : A) × (f a ≡ Ok b)
unfolding ◌>>=◌
bind_last (Ok a) f b h = (a, h)
bind_last (Err e) f b h = no_ok h

read_few : (h : Handle) (k room : ℕ) (ready : Ready) (shown : Shown) (x : List ℕ) → read h k room ready shown ≡ Ok x → length x ≤ 496
unfolding read ◌>>=◌
read_few h k room (Ok g) shown x e = let w = ((read_means h k room g shown x).0 e).1 in (file_formed g _ _ _ x w.body).1
read_few h k room (Err d) shown x e = go (leb 496 room) refl e
  where
    go : (t : Bool) → leb 496 room ≡ t → read h k room (Err d) shown ≡ Ok x → length x ≤ 496
    go true q e = no_ok (sym (bind_ok _ _ tt (check_ok (leb 496 room) _ q)) ∙ e)
    go false q e = no_ok (sym (bind_err _ _ _ (check_err (leb 496 room) _ q)) ∙ e)

pub leaf_few : (p : List ℕ) (k room : ℕ) (ready : Ready) (shown : Shown) (x : List ℕ) → leaf_at p k room ready shown ≡ Ok x → length x ≤ 496
unfolding leaf_at
leaf_few p k room ready shown x e =
    let a = bind_last _ _ x e in
    let b = bind_last _ _ x a.1 in
    let c = bind_last _ _ x b.1 in
    read_few c.0 k room ready shown x c.1

-- ---- leaf numbers past the count

-- two answers that a caller in C cannot tell apart
pub record Same (a b : Answer (List ℕ)) : Type 0 where
  pub told : told a ≡ told b
  pub into : (z : List ℕ) → read_into z a ≡ read_into z b

same : (a : Answer (List ℕ)) → Same a a
same a = record { told = refl; into = λ z. refl }

bind_same : {A : Type 0} (x : Answer A) (f g : A → Answer (List ℕ)) → ((a : A) → x ≡ Ok a → Same (f a) (g a)) → Same (x >>= f) (x >>= g)
unfolding ◌>>=◌
bind_same (Ok a) f g h = h a refl
bind_same (Err e) f g h = same (Err e)

past_same : (s t : Bool) (i j : ℕ) (f g : Unit {0} → Answer (List ℕ)) → s ≡ false → t ≡ false → Same (check s (NoSuchLeaf (record { 0 = i })) >>= f) (check t (NoSuchLeaf (record { 0 = j })) >>= g)
unfolding ◌>>=◌ check
past_same true t i j f g p q = no_true p
  where
    no_true : {A : Type 0} → true ≡ false → A
    no_true e = let z : ◌≡◌ {A = ℕ} 0 1 = cc in absurd (omega arith)
past_same false true i j f g p q = no_true q
  where
    no_true : {A : Type 0} → true ≡ false → A
    no_true e = let z : ◌≡◌ {A = ℕ} 0 1 = cc in absurd (omega arith)
past_same false false i j f g p q = record { told = refl; into = λ z. refl }

reading_count : (g : Geometry) (shown : Shown) (h : Handle) (r : Slot) → reading g (seen g shown) File h ≡ Ok r → count r ≤ 64
reading_count g shown h r e = (slot_formed g _ _ r (reading_ok g (seen g shown) File h r e).0.holds).count

module _ (i j : ℕ) (far : 64 ≤ i) (far' : 64 ≤ j) where
  read_past : (h : Handle) (room : ℕ) (ready : Ready) (shown : Shown) → Same (read h i room ready shown) (read h j room ready shown)
  unfolding read
  read_past h room ready shown =
      bind_same _ _ _ (λ _ _. bind_same _ _ _ (λ g _. bind_same _ _ _ (λ r e. let few = reading_count g shown h r e in past_same (ltb i (count r)) (ltb j (count r)) i j _ _ (le-ltb i (count r) (omega (arith, few, far))) (le-ltb j (count r) (omega (arith, few, far'))))))

  leaf_past : (p : List ℕ) (room : ℕ) (ready : Ready) (shown : Shown) → Same (leaf_at p i room ready shown) (leaf_at p j room ready shown)
  unfolding leaf_at
  leaf_past p room ready shown = bind_same _ _ _ (λ _ _. bind_same _ _ _ (λ _ _. bind_same _ _ _ (λ h _. read_past h room ready shown)))

-- a number past 65,535 does as 65,535 does
pub narrowed : (p : List ℕ) (k n room : ℕ) (ready : Ready) (shown : Shown) → n ≡ min k 65535 → Same (leaf_at p n room ready shown) (leaf_at p k room ready shown)
narrowed p k n room ready shown e = elim (cases_lt k 65536) [
  | inl l ↦ subst (λ (z : ℕ). Same (leaf_at p n room ready shown) (leaf_at p z room ready shown)) (omega (arith, e, l)) (same _)
  | inr l ↦ leaf_past n k (omega (arith, e, l)) (omega (arith, l)) p room ready shown
]
