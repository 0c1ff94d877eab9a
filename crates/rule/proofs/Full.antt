-- A call that is refused for want of a free body or slot finds every one taken.
use Rattle.std.proofs.Common.{◌≡◌, ℕ, ◌<◌, Bool, true, false, ◌||◌, ltb, ◌⊎◌, List, Some, None, Ok, Err, Option, Result, sym, refl, ap, ◌∙◌, subst, inl, inr, arith}
use Rattle.std.proofs.lemmas.Bool.{le-ltb, or_from}
use Rattle.base.specs.declared.number.SlotNo.{SlotNo}
use Rattle.base.specs.declared.owner.Kind.{Kind}
use Rattle.base.specs.declared.owner.Kind.TheVariants.{File, Folder}
use Rattle.base.specs.declared.owner.Handle.{Handle}
use Rattle.base.specs.declared.refusal.Refusal.{Refusal}
use Rattle.base.specs.declared.refusal.Refusal.TheVariants.{NameTaken, NoFreeBody, NoFreeSlot}
use Rattle.base.specs.Refusals.{number_of}
use Rattle.layout.specs.Format.{Name, Cell, Geometry, Slot, entry_of}
use Rattle.rule.specs.Agree.{Shown, View, seen, count, Place}
use Rattle.rule.specs.Check.{Answer, ◌>>=◌, check, demand}
use Rattle.rule.specs.Card.{Card}
use Rattle.rule.specs.Reading.{fits, kind_is, named, child_of}
use Rattle.rule.specs.Changing.{changing, untaken, placed, create, replaces, appends, below_count, write}
use Rattle.rule.specs.Calls.{AllHeld, AllReached, WriteFull, CreateNoBody, CreateNoSlot}
use Rattle.rule.proofs.Free.{no_free_slot, no_free_body}
use Rattle.rule.proofs.Plans.{ok_same}
use Rattle.rule.proofs.Steps.{clash}

clash_err : {A B E : Type 0} {a : A} {r : E} → Ok a ≡ Err r → B
clash_err e = let z : ◌≡◌ {A = ℕ} 0 1 = cc in absurd (omega arith)

-- the first check that fails, or what comes after it
bind_err : {A B E : Type 0} (e : Result A E) (k : A → Result B E) (r : E) → (e >>= k) ≡ Err r → (e ≡ Err r) ⊎ ((a : A) × (e ≡ Ok a) × (k a ≡ Err r))
unfolding ◌>>=◌
bind_err (Ok a) k r e = inr (a, refl, e)
bind_err (Err q) k r e = let s : q ≡ r = cc in inl (ap {B = Result _ _} Err s)

check_err : (t : Bool) (q r : Refusal) → check t q ≡ Err r → number_of r ≡ number_of q
unfolding check
check_err true q r e = clash_err e
check_err false q r e = let s : q ≡ r = cc in ap number_of (sym s)

demand_err : {A : Type 0} (o : Option A) (q r : Refusal) → demand o q ≡ Err r → (o ≡ None) × (number_of r ≡ number_of q)
unfolding demand
demand_err (Some a) q r e = clash_err e
demand_err None q r e = let s : q ≡ r = cc in (refl, ap number_of (sym s))

-- the handle's refusals are 5 and 6
changing_err : (g : Geometry) (v : View) (d : Kind) (h : Handle) (r : Refusal) → changing g v d h ≡ Err r → (number_of r ≡ 5) ⊎ (number_of r ≡ 6)
unfolding changing fits kind_is
changing_err g v d h r e = elim (bind_err _ _ r e) [
  | inl a ↦ elim (bind_err _ _ r a) [
    | inl b ↦ inl (demand_err _ _ r b).1
    | inr b ↦ elim (bind_err _ _ r b.2) [ inl c ↦ inl (check_err _ _ r c) | inr c ↦ clash_err c.2 ]
  ]
  | inr a ↦ elim (bind_err _ _ r a.2) [
    | inl b ↦ inl (check_err _ _ r b)
    | inr b ↦ elim (bind_err _ _ r b.2) [ inl c ↦ inr (check_err _ _ r c) | inr c ↦ clash_err c.2 ]
  ]
]

ready_err : {A : Type 0} (a : Answer Geometry) (g : Geometry) (r : Refusal) → a ≡ Ok g → a ≡ Err r → A
ready_err a g r x y = clash_err (sym x ∙ y)

-- the refusal is neither 5 nor 6
other : {A : Type 0} (n : ℕ) → 6 < n → (n ≡ 5) ⊎ (n ≡ 6) → A
other n l (inl e) = absurd (omega (arith, e))
other n l (inr e) = absurd (omega (arith, e))

unlike : {A : Type 0} (m n : ℕ) → m ≡ n → ltb m n || ltb n m ≡ true → A
unlike m n e l = clash (sym (or_from (ltb m n) (ltb n m) (le-ltb m n (omega (arith, e))) (le-ltb n m (omega (arith, e)))) ∙ l)

append_full : (g : Geometry) (v : View) (c : Card) (h : Handle) (r : Slot) (k : ℕ) (x : List ℕ) (s : SlotNo) (t : Bool) → below_count t g v c h r k x ≡ Err (NoFreeBody s) → AllHeld g v
unfolding replaces appends
append_full g v c h r k x s true e = elim (bind_err _ _ (NoFreeBody s) e) [ inl a ↦ unlike 13 8 (check_err _ _ (NoFreeBody s) a) refl | inr a ↦ clash_err a.2 ]
append_full g v c h r k x s false e = elim (bind_err _ _ (NoFreeBody s) e) [ inl a ↦ (no_free_body g v c.next_body).0 (demand_err _ _ (NoFreeBody s) a).0 | inr a ↦ clash_err a.2 ]

pub write_full : WriteFull
unfolding write
write_full h k x c shown g s ready e = elim (bind_err _ _ (NoFreeBody s) e) [
  | inl a ↦ unlike 13 12 (check_err _ _ (NoFreeBody s) a) refl
  | inr a ↦ elim (bind_err _ _ (NoFreeBody s) a.2) [
    | inl b ↦ ready_err c.ready g (NoFreeBody s) ready b
    | inr b ↦ subst (λ (z : Geometry). AllHeld z (seen z shown)) (ok_same (sym b.1 ∙ ready)) (elim (bind_err _ _ (NoFreeBody s) b.2) [
      | inl d ↦ other 13 (omega arith) (changing_err b.0 (seen b.0 shown) File h (NoFreeBody s) d)
      | inr d ↦ elim (bind_err _ _ (NoFreeBody s) d.2) [
        | inl f ↦ unlike 13 7 (check_err _ _ (NoFreeBody s) f) refl
        | inr f ↦ append_full b.0 (seen b.0 shown) c h d.0 k x s (ltb k (count d.0)) f.2
      ]
    ])
  ]
]

untaken_err : (g : Geometry) (o : Option Place) (r : Refusal) → untaken g o ≡ Err r → number_of r ≡ 10
unfolding untaken
untaken_err g None r e = clash_err e
untaken_err g (Some q) r e = let s : NameTaken (child_of (entry_of g q.cell)).slot ≡ r = cc in ap number_of (sym s)

placed_err : (g : Geometry) (v : View) (c : Card) (f : Handle) (r : Slot) (e : Cell) (o : Option Place) (q : Refusal) → placed g v c f r e o ≡ Err q → (number_of q ≡ 15) ⊎ ((number_of q ≡ 13) × AllHeld g v)
unfolding placed
placed_err g v c f r e (Some p) q h = clash_err h
placed_err g v c f r e None q h = elim (bind_err _ _ q h) [
  | inl a ↦ inl (check_err _ _ q a)
  | inr a ↦ elim (bind_err _ _ q a.2) [
    | inl b ↦ (let w = demand_err _ _ q b in inr (w.1, (no_free_body g v c.next_body).0 w.0))
    | inr b ↦ clash_err b.2
  ]
]

-- why a create on a ready card is refused with 13 or 14
create_err : (d : Kind) (f : Handle) (n : Name) (c : Card) (shown : Shown) (g : Geometry) (q : Refusal) → c.ready ≡ Ok g → create d f n c shown ≡ Err q → 12 < number_of q → number_of q < 15 →
    ((number_of q ≡ 13) × AllHeld g (seen g shown)) ⊎ ((number_of q ≡ 14) × AllReached g (seen g shown))
unfolding create named
create_err d f n c shown g q ready e low high = elim (bind_err _ _ q e) [
  | inl a ↦ absurd (omega (arith, check_err _ _ q a))
  | inr a ↦ elim (bind_err _ _ q a.2) [
    | inl b ↦ ready_err c.ready g q ready b
    | inr b ↦ subst (λ (z : Geometry). ((number_of q ≡ 13) × AllHeld z (seen z shown)) ⊎ ((number_of q ≡ 14) × AllReached z (seen z shown))) (ok_same (sym b.1 ∙ ready)) (elim (bind_err _ _ q b.2) [
      | inl k ↦ other (number_of q) (omega arith) (changing_err b.0 (seen b.0 shown) Folder f q k)
      | inr k ↦ elim (bind_err _ _ q k.2) [
        | inl t ↦ absurd (omega (arith, untaken_err b.0 _ q t))
        | inr t ↦ elim (bind_err _ _ q t.2) [
          | inl s ↦ (let w = demand_err _ _ q s in inr (w.1, (no_free_slot b.0 (seen b.0 shown) c.next_slot).0 w.0))
          | inr s ↦ elim (bind_err _ _ q s.2) [
            | inl i ↦ absurd (omega (arith, check_err _ _ q i))
            | inr i ↦ elim (bind_err _ _ q i.2) [
              | inl w ↦ elim (placed_err b.0 (seen b.0 shown) c f k.0 _ _ q w) [ inl z ↦ absurd (omega (arith, z)) | inr z ↦ inl z ]
              | inr w ↦ clash_err w.2
            ]
          ]
        ]
      ]
    ])
  ]
]

pub create_no_body : CreateNoBody
create_no_body d f n c shown g s ready e = elim (create_err d f n c shown g (NoFreeBody s) ready e (omega arith) (omega arith)) [ inl w ↦ w.1 | inr w ↦ unlike 13 14 w.0 refl ]

pub create_no_slot : CreateNoSlot
create_no_slot d f n c shown g s ready e = elim (create_err d f n c shown g (NoFreeSlot s) ready e (omega arith) (omega arith)) [ inl w ↦ unlike 14 13 w.0 refl | inr w ↦ w.1 ]
