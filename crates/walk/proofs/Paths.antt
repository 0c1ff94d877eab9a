-- A path, name by name.
use Rattle.std.proofs.Common.{◌≡◌, ℕ, suc, ◌+◌, ◌<◌, ◌≤◌, Bool, true, false, cond, eqb, leb, List, [], ◌∷◌, length, take, drop, Ok, Err, Some, None, Option, Result, sym, refl, ap, ◌∙◌, subst, inl, inr, add-one, arith, MatchResult}
use denote.Ref.{Bor}
use Rattle.std.specs.Slice.{IsGetRangeResult}
use Rattle.std.proofs.lemmas.List.{take_rest}
use Rattle.std.proofs.lemmas.Bool.{cases_lt, cond-true, cond-false, le-leb, lt-leb}
use Rattle.base.specs.declared.owner.Handle.{Handle}
use Rattle.base.specs.declared.refusal.Refusal.{Refusal}
use Rattle.base.specs.declared.refusal.PathRefusal.{PathRefusal}
use Rattle.device.specs.Model.{Model}
use Rattle.layout.specs.Format.{Name, Geometry, Slot}
use Rattle.layout.specs.declared.geometry.Geometry.{Geometry as CardGeometry}
use Rattle.rule.specs.Agree.{Shown, View, seen, root}
use Rattle.rule.specs.Check.{Answer}
use Rattle.rule.specs.Reading.{fits, step, named, longer, parted, components, at_component, all_named, walk}
use Rattle.walk.specs.Paths.{name_end, names_in}
use Rattle.walk.specs.Still.{Still, Gives, PathGives, PathRefused}
use Rattle.walk.specs.Stepping.{entered, Enters}
use Rattle.walk.specs.Copies.{copied}
use Rattle.walk.specs.declared.entry.Found.{Found}
use Rattle.walk.proofs.Stills.{still_then, failed_then}
use Rattle.walk.proofs.Stepping.{bind_ok, bind_err, step_ok, step_err}

-- ---- the names that are left

leb_as : (a b c d : ℕ) → (a ≤ b → c ≤ d) → (c ≤ d → a ≤ b) → leb a b ≡ leb c d
leb_as a b c d f g = elim (cases_lt b a) [
  | inl l ↦ lt-leb a b l ∙ sym (elim (cases_lt d c) [ inl k ↦ lt-leb c d k | inr k ↦ absurd (omega (arith, g k)) ])
  | inr l ↦ le-leb a b l ∙ sym (le-leb c d (f l))
]

-- the first name, and the rest after its '/'
abbrev rest_of : List ℕ → List Name
rest_of z = cond (leb (suc (name_end z)) (length z)) (parted (drop (suc (name_end z)) z)) []

parted_more : (z : List ℕ) → parted z ≡ take (name_end z) z ∷ rest_of z
parted_more [] = refl
parted_more (x ∷ xs) = go (eqb x 47) (parted_more xs)
  where
    go : (b : Bool) → parted xs ≡ take (name_end xs) xs ∷ rest_of xs →
        cond b ([] ∷ parted xs) (longer x (parted xs)) ≡ take (cond b 0 (suc (name_end xs))) (x ∷ xs) ∷ cond (leb (suc (cond b 0 (suc (name_end xs)))) (suc (length xs))) (parted (drop (suc (cond b 0 (suc (name_end xs)))) (x ∷ xs))) []
    go true h = ap (λ (b : Bool). [] ∷ cond b (parted xs) []) (sym (le-leb 1 (suc (length xs)) (omega arith)))
    go false h =
        ap (longer x) h
        ∙ ap (λ (b : Bool). (x ∷ take (name_end xs) xs) ∷ cond b (parted (drop (suc (name_end xs)) xs)) []) (leb_as (suc (name_end xs)) (length xs) (suc (suc (name_end xs))) (suc (length xs)) (λ l. omega arith) (λ l. omega arith))

-- the name that comes next, and what is left after its '/'
pub names_next : (z : List ℕ) (e : ℕ) (o : Option (Bor (List ℕ))) → e ≡ name_end z → IsGetRangeResult z (e + 1) (length z) o → parted z ≡ take e z ∷ names_in o
names_next z e o q w =
    parted_more z ∙ ap (λ (ns : List Name). take (name_end z) z ∷ ns) (left o w) ∙ ap (λ (i : ℕ). take i z ∷ names_in o) (sym q)
  where
    after : suc (name_end z) ≡ e + 1
    after = omega (arith, q)

    left : (o : Option (Bor (List ℕ))) → IsGetRangeResult z (e + 1) (length z) o → rest_of z ≡ names_in o
    left None w = elim w.0 [
      | inl l ↦ cond-false (leb (suc (name_end z)) (length z)) _ _ (lt-leb (suc (name_end z)) (length z) (omega (arith, l, q)))
      | inr l ↦ absurd (omega (arith, l))
    ]
    left (Some y) w =
        cond-true (leb (suc (name_end z)) (length z)) _ _ (le-leb (suc (name_end z)) (length z) (omega (arith, w.0.0, q)))
        ∙ ap (λ (i : ℕ). parted (drop i z)) after ∙ ap parted (sym (w.0.2 ∙ take_rest z (e + 1)))

length_longer : (x : ℕ) (ns : List Name) (k : ℕ) → length ns ≤ k → length (longer x ns) ≤ suc k
length_longer x [] k l = omega arith
length_longer x (n ∷ ns) k l = omega arith

-- at most one name more than there are bytes
pub length_parted : (z : List ℕ) → length (parted z) ≤ suc (length z)
length_parted [] = omega arith
length_parted (x ∷ xs) = go (eqb x 47) (length_parted xs)
  where
    go : (b : Bool) → length (parted xs) ≤ suc (length xs) → length (cond b ([] ∷ parted xs) (longer x (parted xs))) ≤ suc (suc (length xs))
    go true l = omega arith
    go false l = length_longer x (parted xs) (suc (length xs)) l

-- ---- components

pub component_ok : {A : Type 0} (i : ℕ) (x : Answer A) (a : A) → x ≡ Ok a → at_component i x ≡ Ok a
unfolding at_component
component_ok i x a e = ap (at_component i) e

pub component_err : {A : Type 0} (i : ℕ) (x : Answer A) (r : Refusal) → x ≡ Err r → at_component i x ≡ Err (record { lower = r; component = i })
unfolding at_component
component_err i x r e = ap (at_component i) e

pub all_named_ok : (i : ℕ) (n : Name) (ns : List Name) → named n ≡ Ok tt → all_named i (n ∷ ns) ≡ all_named (i + 1) ns
unfolding all_named
all_named_ok i n ns e = bind_ok _ _ tt (component_ok i (named n) tt e) ∙ ap (λ (j : ℕ). all_named j ns) (sym (add-one i))

pub all_named_err : (i : ℕ) (n : Name) (ns : List Name) (r : PathRefusal) → at_component i (named n) ≡ Err r → all_named i (n ∷ ns) ≡ Err r
unfolding all_named
all_named_err i n ns r e = bind_err _ _ r e

pub all_named_none : (i : ℕ) → all_named i [] ≡ Ok tt
unfolding all_named
all_named_none i = refl

module _ (g : Geometry) (v : View) where
  pub walk_ok : (i : ℕ) (f c : Handle) (n : Name) (ns : List Name) → step g v f n ≡ Ok c → walk g v i f (n ∷ ns) ≡ walk g v (i + 1) c ns
  unfolding walk
  walk_ok i f c n ns e = bind_ok _ _ c (component_ok i (step g v f n) c e) ∙ ap (λ (j : ℕ). walk g v j c ns) (sym (add-one i))

  pub walk_err : (i : ℕ) (f : Handle) (n : Name) (ns : List Name) (r : PathRefusal) → at_component i (step g v f n) ≡ Err r → walk g v i f (n ∷ ns) ≡ Err r
  unfolding walk
  walk_err i f n ns r e = bind_err _ _ r e

  pub walk_none : (i : ℕ) (f : Handle) → walk g v i f [] ≡ Ok f
  unfolding walk
  walk_none i f = refl

-- what is given at a component
pub path_gives : {A B : Type 0} (g : CardGeometry) (i : ℕ) (r : Result A Refusal) (s : Result A PathRefusal) (x : Answer B) (P : A → Type 0) (m n : Model) → s ≡ at_component i r → Gives g r x P m n → PathGives g s (at_component i x) P m n
unfolding at_component
path_gives g i (Ok a) s x P m n e h = subst (λ (z : Result _ _). PathGives g z (at_component i x) P m n) (sym e) h
path_gives g i (Err d) s x P m n e (inl h) = subst (λ (z : Result _ _). PathGives g z (at_component i x) P m n) (sym e) (inl (h.0, component_err i x d h.1))
path_gives g i (Err d) s x P m n e (inr h) = subst (λ (z : Result _ _). PathGives g z (at_component i x) P m n) (sym e) (inr h)

pub path_refused : {A B : Type 0} (g : CardGeometry) (x : Result A PathRefusal) (y : Result B PathRefusal) (m k n : Model) (e : PathRefusal) → Still m k → (x ≡ Err e → y ≡ Err e) → PathRefused g x k n e → PathRefused g y m n e
path_refused g x y m k n e s f (inl h) = inl (still_then m k n s h.0, f h.1)
path_refused g x y m k n e s f (inr h) = inr (h.0, h.1, failed_then g m k n h.0 s h.2)

pub path_exit : {B C : Type 0} (g : CardGeometry) (m n : Model) (r : Result C PathRefusal) (y : Result B PathRefusal) (Q : C → Type 0) (d e : PathRefusal) → r ≡ Err d → d ≡ e → PathRefused g y m n e → PathGives g r y Q m n
path_exit g m n r y Q d e p q h = subst (λ (z : Result _ _). PathGives g z y Q m n) (sym (p ∙ ap Err q)) h

pub names_empty : (p : List ℕ) → length p ≡ 0 → components p ≡ []
names_empty [] l = refl
names_empty (x ∷ xs) l = absurd (omega arith)

pub checked_exit : {A : Type 0} (r : Result A PathRefusal) (x : Result (Unit {0}) PathRefusal) (d e : PathRefusal) → r ≡ Err d → d ≡ e → x ≡ Err e → MatchResult r (λ _. x ≡ Ok tt) (λ f. x ≡ Err f)
checked_exit r x d e p q h = subst (λ (z : Result _ _). MatchResult z (λ _. x ≡ Ok tt) (λ f. x ≡ Err f)) (sym (p ∙ ap Err q)) h

-- a step of the walk, after reads that left what is shown as it was: w is the walk so far, ns the names left
module _ (g : Geometry) (was shown : Shown) where
  module _ (w : Result Handle PathRefusal) (ns : List Name) (i : ℕ) (f : Handle) (r : Slot) (n : Name) (more : List Name) (same : shown ≡ was) (fit : fits g (seen g was) f ≡ Ok r) (so : w ≡ walk g (seen g was) i f ns) (is : ns ≡ n ∷ more) where
    pub walk_out : (e : PathRefusal) → at_component i (entered g (seen g shown) f n r) ≡ Err e → w ≡ Err e
    walk_out e q =
        so ∙ ap (walk g (seen g was) i f) is
        ∙ walk_err g (seen g was) i f n more e (ap (at_component i) (step_ok g (seen g was) f n r fit) ∙ subst (λ (s : Shown). at_component i (entered g (seen g s) f n r) ≡ Err e) same q)

    pub walk_in : (a : Found) → Enters g (seen g shown) (entered g (seen g shown) f n r) a → w ≡ walk g (seen g was) (i + 1) a.child.handle more
    walk_in a q =
        so ∙ ap (walk g (seen g was) i f) is
        ∙ walk_ok g (seen g was) i f a.child.handle n more (step_ok g (seen g was) f n r fit ∙ subst (λ (s : Shown). entered g (seen g s) f n r ≡ Ok a.child.handle) same q.child)

  pub walk_fits : (x : Answer Handle) (a : Found) → shown ≡ was → Enters g (seen g shown) x a → fits g (seen g was) a.child.handle ≡ Ok (copied a.child.slot)
  walk_fits x a same q = subst (λ (s : Shown). fits g (seen g s) a.child.handle ≡ Ok (copied a.child.slot)) same q.slot

no_ok : {A B E : Type 0} {a : B} {e : E} → Ok a ≡ Err e → A
no_ok q = let z : ◌≡◌ {A = ℕ} 0 1 = cc in absurd (omega arith)

step_out : (g : Geometry) (v : View) (f : Handle) (n : Name) (i : ℕ) (e : PathRefusal) → at_component i (fits g v f) ≡ Err e → at_component i (step g v f n) ≡ Err e
unfolding at_component
step_out g v f n i e q = go (fits g v f) refl q
  where
    go : (x : Answer Slot) → fits g v f ≡ x → at_component i x ≡ Err e → at_component i (step g v f n) ≡ Err e
    go (Ok r) h q = no_ok q
    go (Err d) h q =
        let s : ◌≡◌ {A = PathRefusal} (record { lower = d; component = i }) e = cc in
        component_err i (step g v f n) d (step_err g v f n d h) ∙ ap Err s

-- a root whose slot does not fit stops a walk at component 0
pub walk_root : (g : Geometry) (v : View) (p : List ℕ) → 0 < length p → (e : PathRefusal) → at_component 0 (fits g v root) ≡ Err e → walk g v 0 root (components p) ≡ Err e
walk_root g v p l e q =
    ap (walk g v 0 root) (names_some p l) ∙ walk_err g v 0 root _ _ e (step_out g v root _ 0 e q)
  where
    names_some : (p : List ℕ) → 0 < length p → components p ≡ take (name_end p) p ∷ rest_of p
    names_some [] l = absurd (omega arith)
    names_some (x ∷ xs) l = parted_more (x ∷ xs)

-- the whole walk after reads that left what is shown as it was
pub path_then : (g : CardGeometry) (r : Result Handle PathRefusal) (x y : Result Handle PathRefusal) (m k n : Model) → Still m k → x ≡ y → PathGives g r x (λ h. x ≡ Ok h) k n → PathGives g r y (λ h. y ≡ Ok h) m n
path_then g (Ok h) x y m k n s e w = (still_then m k n s w.0, sym e ∙ w.1)
path_then g (Err d) x y m k n s e w = path_refused g x y m k n d s (λ q. sym e ∙ q) w
