-- The lines of a list and of the damage.
use Rattle.std.proofs.Common.{◌≡◌, ℕ, zero, suc, ◌+◌, ◌<◌, ◌≤◌, Bool, true, false, cond, not, ◌⊎◌, List, [], ◌∷◌, ◌++◌, map, length, get_or, Some, None, Ok, Option, sym, refl, ap, ◌∙◌, subst, inl, inr, zero-add, arith}
use Rattle.std.proofs.lemmas.Bool.{cases_lt, not-true, not_from_false}
use Rattle.base.specs.declared.owner.Kind.TheVariants.{Folder}
use Rattle.base.specs.declared.owner.Handle.{Handle}
use Rattle.device.specs.Model.{In}
use Rattle.layout.specs.Format.{Name, Cell, Geometry, handle, Slot, entry_of}
use Rattle.rule.specs.Agree.{View, seen, slot_at, those, from, count, good, Place, places_of, places_over, places, sound, reached, slots_of}
use Rattle.rule.specs.Reading.{reading, EntryLine, entry_line, list, DamageLine, bad_leaves_of, bad_leaves, damage}
use Rattle.rule.specs.Meaning.{Fits, Sound}
use Rattle.rule.specs.Readings.{ListMeans, Damaged, DamageMeans}
use Rattle.rule.proofs.Steps.{clash}
use Rattle.rule.proofs.Places.{at, cells_at}
use Rattle.rule.proofs.Means.{agrees_true, leaf_is, sound_listed, fits_at, fits_from, good_is_good, reached_fits, reached_from}
use Rattle.rule.proofs.Plans.{bind_ok, ok_same}
use Rattle.rule.proofs.Answered.{reading_ok}

-- ---- members

in_left : {A : Type 0} (x : A) (xs ys : List A) → In x xs → In x (xs ++ ys)
unfolding In
in_left x [] ys w = absurd w
in_left x (z ∷ xs) ys (inl e) = inl e
in_left x (z ∷ xs) ys (inr w) = inr (in_left x xs ys w)

in_right : {A : Type 0} (x : A) (xs ys : List A) → In x ys → In x (xs ++ ys)
unfolding In
in_right x [] ys w = w
in_right x (z ∷ xs) ys w = inr (in_right x xs ys w)

in_append : {A : Type 0} (x : A) (xs ys : List A) → In x (xs ++ ys) → In x xs ⊎ In x ys
unfolding In
in_append x [] ys w = inr w
in_append x (z ∷ xs) ys (inl e) = inl (inl e)
in_append x (z ∷ xs) ys (inr w) = elim (in_append x xs ys w) [ inl a ↦ inl (inr a) | inr a ↦ inr a ]

in_map : {A B : Type 0} (f : A → B) (y : B) (xs : List A) → In y (map f xs) → (x : A) × In x xs × (y ≡ f x)
unfolding In
in_map f y [] w = absurd w
in_map f y (z ∷ xs) (inl e) = (z, inl refl, e)
in_map f y (z ∷ xs) (inr w) = let a = in_map f y xs w in (a.0, inr a.1, a.2)

map_in : {A B : Type 0} (f : A → B) (x : A) (xs : List A) → In x xs → In (f x) (map f xs)
unfolding In
map_in f x [] w = absurd w
map_in f x (z ∷ xs) (inl e) = inl (ap f e)
map_in f x (z ∷ xs) (inr w) = inr (map_in f x xs w)

in_those : {A : Type 0} (p : A → Bool) (x : A) (xs : List A) → In x (those p xs) → In x xs × (p x ≡ true)
unfolding In
in_those p x [] w = absurd w
in_those p x (z ∷ xs) w = go (p z) refl w (in_those p x xs)
  where
    go : (b : Bool) → p z ≡ b → In x (cond b (z ∷ those p xs) (those p xs)) → (In x (those p xs) → In x xs × (p x ≡ true)) → ((x ≡ z) ⊎ In x xs) × (p x ≡ true)
    go true h (inl e) rest = (inl e, ap p e ∙ h)
    go true h (inr w) rest = let a = rest w in (inr a.0, a.1)
    go false h w rest = let a = rest w in (inr a.0, a.1)

those_in : {A : Type 0} (p : A → Bool) (x : A) (xs : List A) → In x xs → p x ≡ true → In x (those p xs)
unfolding In
those_in p x [] w e = absurd w
those_in p x (z ∷ xs) w e = go (p z) refl w (those_in p x xs)
  where
    go : (b : Bool) → p z ≡ b → (x ≡ z) ⊎ In x xs → (In x xs → p x ≡ true → In x (those p xs)) → In x (cond b (z ∷ those p xs) (those p xs))
    go true h (inl q) rest = inl q
    go true h (inr w) rest = inr (rest w e)
    go false h (inl q) rest = clash (sym h ∙ sym (ap p q) ∙ e)
    go false h (inr w) rest = rest w e

in_from : (x i n : ℕ) → In x (from i n) → (i ≤ x) × (x < i + n)
unfolding In
in_from x i zero w = absurd w
in_from x i (suc n) (inl e) = (omega (arith, e), omega (arith, e))
in_from x i (suc n) (inr w) = let a = in_from x (suc i) n w in (omega (arith, a.0), omega (arith, a.1))

from_in : (x i n : ℕ) → i ≤ x → x < i + n → In x (from i n)
unfolding In
from_in x i zero a l = absurd (omega arith)
from_in x i (suc n) a l = elim (cases_lt i x) [ inl d ↦ inr (from_in x (suc i) n d (omega arith)) | inr d ↦ inl (omega arith) ]

-- ---- places

in_cells : (q : Place) (k i : ℕ) (es : List Cell) → In q (places_of k i es) → (j : ℕ) × (j < length es) × (q ≡ at k (i + j) (get_or es j []))
unfolding In
in_cells q k i [] w = absurd w
in_cells q k i (e ∷ es) (inl s) = (0, omega arith, s ∙ ap (λ (n : ℕ). at k n e) (omega arith))
in_cells q k i (e ∷ es) (inr w) = let a = in_cells q k (suc i) es w in (suc a.0, omega (arith, a.1), a.2 ∙ ap (λ (n : ℕ). at k n (get_or es a.0 [])) (omega arith))

cells_in_places : (k i j : ℕ) (es : List Cell) → j < length es → In (at k (i + j) (get_or es j [])) (places_of k i es)
unfolding In
cells_in_places k i j [] l = absurd (omega arith)
cells_in_places k i zero (e ∷ es) l = inl (ap (λ (n : ℕ). at k n e) (omega arith))
cells_in_places k i (suc j) (e ∷ es) l = inr (subst (λ (n : ℕ). In (at k n (get_or es j [])) (places_of k (suc i) es)) (omega arith) (cells_in_places k (suc i) j es (omega arith)))

in_over : (v : View) (h : Handle) (r : Slot) (q : Place) (ks : List ℕ) → In q (places_over v h r ks) → (k : ℕ) × In k ks × (good v h r k ≡ true) × In q (places_of k 0 (cells_at v r k))
unfolding In
in_over v h r q [] w = absurd w
in_over v h r q (k ∷ ks) w = go (good v h r k) refl (in_append q (cond (good v h r k) (places_of k 0 (cells_at v r k)) []) (places_over v h r ks) w) (in_over v h r q ks)
  where
    go : (b : Bool) → good v h r k ≡ b → In q (cond b (places_of k 0 (cells_at v r k)) []) ⊎ In q (places_over v h r ks) →
        (In q (places_over v h r ks) → (m : ℕ) × In m ks × (good v h r m ≡ true) × In q (places_of m 0 (cells_at v r m))) →
        (m : ℕ) × ((m ≡ k) ⊎ In m ks) × (good v h r m ≡ true) × In q (places_of m 0 (cells_at v r m))
    go true e (inl a) rest = (k, inl refl, e, a)
    go false e (inl a) rest = absurd a
    go b e (inr a) rest = let s = rest a in (s.0, inr s.1, s.2, s.3)

over_in : (v : View) (h : Handle) (r : Slot) (q : Place) (k : ℕ) (ks : List ℕ) → In k ks → good v h r k ≡ true → In q (places_of k 0 (cells_at v r k)) → In q (places_over v h r ks)
unfolding In
over_in v h r q k [] w e a = absurd w
over_in v h r q k (m ∷ ks) (inl s) e a =
    in_left q (cond (good v h r m) (places_of m 0 (cells_at v r m)) []) (places_over v h r ks)
    (subst (λ (b : Bool). In q (cond b (places_of m 0 (cells_at v r m)) [])) (sym (sym (ap (good v h r) s) ∙ e)) (subst (λ (z : ℕ). In q (places_of z 0 (cells_at v r z))) s a))
over_in v h r q k (m ∷ ks) (inr w) e a = in_right q (cond (good v h r m) (places_of m 0 (cells_at v r m)) []) (places_over v h r ks) (over_in v h r q k ks w e a)

-- ---- list

pub list_means : ListMeans
unfolding list
list_means f g shown ls e n c = (says, lists)
  where
    v : View
    v = seen g shown

    slot : (r : Slot) × (reading g (seen g shown) Folder f ≡ Ok r) × (map (λ q. entry_line (entry_of g q.cell)) (those (sound g (seen g shown) f) (places (seen g shown) f r)) ≡ ls)
    slot =
        let a = bind_ok _ _ ls e in
        let b = bind_ok _ _ ls a.2 in
        let same : g ≡ a.0 = ok_same a.1 in
        subst (λ (z : Geometry). (r : Slot) × (reading z (seen z shown) Folder f ≡ Ok r) × (map (λ q. entry_line (entry_of z q.cell)) (those (sound z (seen z shown) f) (places (seen z shown) f r)) ≡ ls)) (sym same) (b.0, b.1, ok_same b.2)

    r : Slot
    r = slot.0

    fit : Fits g (seen g shown) f r
    fit = (reading_ok g v Folder f r slot.1).0

    kind : r.kind ≡ Folder
    kind = (reading_ok g v Folder f r slot.1).1

    says : In (record { name = n; child = c }) ls → (k : ℕ) × (p : ℕ) × Sound g v f k p n c
    says w =
        let a = in_map (λ q. entry_line (entry_of g q.cell)) (record { name = n; child = c }) (those (sound g v f) (places v f r)) (subst (In (record { name = n; child = c })) (sym slot.2) w) in
        let b = in_those (sound g v f) a.0 (places v f r) a.1 in
        let k = in_over v f r a.0 (from 0 (count r)) b.0 in
        let j = in_cells a.0 k.0 0 (cells_at v r k.0) k.3 in
        let d = leaf_is v f r k.0 j.0 k.2 j.1 in
        let t = agrees_true g v f (entry_of g a.0.cell) b.1 in
        let line : record { name = n; child = c } ≡ record { name = t.name; child = t.leads } = a.2 ∙ ap entry_line t.is in
        let same_name : t.name ≡ n = sym (ap (λ (z : EntryLine). z.name) line) in
        let same_child : t.leads ≡ c = sym (ap (λ (z : EntryLine). z.child) line) in (
          k.0,
          j.0,
          subst (λ (z : Handle). Sound g v f k.0 j.0 n z) same_child (subst (λ (z : Name). Sound g v f k.0 j.0 z t.leads) same_name (record {
            slot = r;
            fits = fit;
            kind = kind;
            below = d.below;
            cells = d.cells;
            body = d.body;
            here = ap (entry_of g) (sym d.here ∙ sym (ap (λ (z : Place). z.cell) j.2)) ∙ t.is;
            child = t.child;
            child_fits = t.holds;
            parent = t.parent;
          })),
        )

    lists : (k : ℕ) × (p : ℕ) × Sound g v f k p n c → In (record { name = n; child = c }) ls
    lists (k, p, s) =
        let l = sound_listed g v f r k p n c fit s in
        let q = at k p (get_or (cells_at v r k) p []) in
        let here : In q (places v f r) = over_in v f r q k (from 0 (count r)) (from_in k 0 (count r) (omega arith) (omega (arith, l.below))) l.fine (subst (λ (z : ℕ). In (at k z (get_or (cells_at v r k) p [])) (places_of k 0 (cells_at v r k))) (zero-add p) (cells_in_places k 0 p (cells_at v r k) l.inside)) in
        subst (In (record { name = n; child = c })) slot.2
        (subst (λ (z : EntryLine). In z (map (λ q. entry_line (entry_of g q.cell)) (those (sound g v f) (places v f r)))) (ap entry_line l.here)
        (map_in (λ q. entry_line (entry_of g q.cell)) q (those (sound g v f) (places v f r)) (those_in (sound g v f) q (places v f r) here l.agreed)))

-- ---- damage

in_bad : (g : Geometry) (v : View) (l : DamageLine) (ss : List ℕ) → In l (bad_leaves g v ss) → (s : ℕ) × In s ss × In l (bad_leaves_of v s (slot_at g v s))
unfolding In
in_bad g v l [] w = absurd w
in_bad g v l (s ∷ ss) w = elim (in_append l (bad_leaves_of v s (slot_at g v s)) (bad_leaves g v ss) w) [
  | inl a ↦ (s, inl refl, a)
  | inr a ↦ (let b = in_bad g v l ss a in (b.0, inr b.1, b.2))
]

bad_in : (g : Geometry) (v : View) (l : DamageLine) (s : ℕ) (ss : List ℕ) → In s ss → In l (bad_leaves_of v s (slot_at g v s)) → In l (bad_leaves g v ss)
unfolding In
bad_in g v l s [] w a = absurd w
bad_in g v l s (t ∷ ss) (inl e) a = in_left l (bad_leaves_of v t (slot_at g v t)) (bad_leaves g v ss) (subst (λ (z : ℕ). In l (bad_leaves_of v z (slot_at g v z))) e a)
bad_in g v l s (t ∷ ss) (inr w) a = in_right l (bad_leaves_of v t (slot_at g v t)) (bad_leaves g v ss) (bad_in g v l s ss w a)

abbrev bad_at : View → ℕ → Slot → ℕ → Bool
bad_at v s r k = not (good v (handle s r.identity) r k)

abbrev line : ℕ → ℕ → DamageLine
line s k = record { slot = s; leaf = k }

record BadLeaf (v : View) (s k t : ℕ) (o : Option Slot) : Type 0 where
  pub slot : Slot
  pub is : o ≡ Some slot
  pub here : s ≡ t
  pub below : k < count slot
  pub bad : good v (handle t slot.identity) slot k ≡ false

bad_leaf : (v : View) (s k t : ℕ) (o : Option Slot) → In (line s k) (bad_leaves_of v t o) → BadLeaf v s k t o
unfolding In
bad_leaf v s k t None w = absurd w
bad_leaf v s k t (Some r) w =
    let a = in_map (line t) (line s k) (those (bad_at v t r) (from 0 (count r))) w in
    let b = in_those (bad_at v t r) a.0 (from 0 (count r)) a.1 in
    let same : k ≡ a.0 = ap (λ (l : DamageLine). l.leaf) a.2 in
    record {
      slot = r;
      is = refl;
      here = ap (λ (l : DamageLine). l.slot) a.2;
      below = omega (arith, same, (in_from a.0 0 (count r) b.0).1);
      bad = ap (good v (handle t r.identity) r) same ∙ not-true _ b.1;
    }

pub damage_means : DamageMeans
unfolding damage
damage_means g shown ls rooted e s k = (says, lists)
  where
    v : View
    v = seen g shown

    lines : bad_leaves g (seen g shown) (those (reached g (seen g shown)) (slots_of g)) ≡ ls
    lines = let a = bind_ok _ _ ls e in let same : g ≡ a.0 = ok_same a.1 in subst (λ (z : Geometry). bad_leaves z (seen z shown) (those (reached z (seen z shown)) (slots_of z)) ≡ ls) (sym same) (ok_same a.2)

    says : In (line s k) ls → Damaged g v s k
    says w =
        let a = in_bad g v (line s k) (those (reached g v) (slots_of g)) (subst (In (line s k)) (sym lines) w) in
        let b = in_those (reached g v) a.0 (slots_of g) a.1 in
        let d = bad_leaf v s k a.0 (slot_at g v a.0) a.2 in
        let h = handle a.0 d.slot.identity in
        let fit : Fits g v h d.slot = fits_from g v h d.slot d.is refl in
        record {
          owner = h;
          here = sym d.here;
          reached = reached_fits g v h d.slot rooted fit b.1;
          slot = d.slot;
          fits = fit;
          below = d.below;
          bad = λ z. clash (sym d.bad ∙ (good_is_good g v h d.slot k fit).1 z);
        }

    lists : Damaged g v s k → In (line s k) ls
    lists d =
        let t = d.owner.slot.0 in
        let r = d.slot in
        let in_slots : In t (those (reached g v) (slots_of g)) = those_in (reached g v) t (slots_of g) (from_in t 0 g.slots (omega arith) (omega (arith, d.fits.inside))) (reached_from g v d.owner d.reached) in
        let same : handle t r.identity ≡ d.owner = ap (handle t) d.fits.same in
        let is_bad : good v (handle t r.identity) r k ≡ false = ap (λ (h : Handle). good v h r k) same ∙ not_good (good v d.owner r k) (λ z. d.bad ((good_is_good g v d.owner r k d.fits).0 z)) in
        let here : In (line t k) (bad_leaves_of v t (Some r)) = map_in (line t) k (those (bad_at v t r) (from 0 (count r))) (those_in (bad_at v t r) k (from 0 (count r)) (from_in k 0 (count r) (omega arith) (omega (arith, d.below))) (not_from_false _ is_bad)) in
        subst (In (line s k)) lines (bad_in g v (line s k) t (those (reached g v) (slots_of g)) in_slots
        (subst (λ (z : ℕ). In (line z k) (bad_leaves_of v t (slot_at g v t))) d.here (subst (λ (o : Option Slot). In (line t k) (bad_leaves_of v t o)) (sym (fits_at g v d.owner r d.fits)) here)))
      where
        not_good : (b : Bool) → (b ≡ true → ⊥) → b ≡ false
        not_good true n = absurd (n refl)
        not_good false n = refl
