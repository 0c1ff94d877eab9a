-- What joins the reached slots and the held bodies, step by step, and as tests.
use Rattle.std.proofs.Common.{◌≡◌, ℕ, suc, ◌-◌, ◌<◌, ◌≤◌, Bool, true, false, not, ◌&&◌, ◌||◌, eqb, ◌⊎◌, List, [], ◌∷◌, length, get_or, set, Some, sym, refl, ap, ◌∙◌, subst, inl, inr, arith}
use Rattle.std.proofs.lemmas.Bool.{cases_Bool, cases_eq, cases_lt, both_ways, and_from, and_parts, or_cases, or_left, or_right, not_from_true, not_from_false, eqb-true, eq-eqb}
use Rattle.std.proofs.lemmas.List.{get_or-set_same, get_or-append_right}
use Rattle.base.specs.declared.owner.Kind.{Kind}
use Rattle.base.specs.declared.owner.Kind.TheVariants.{File, Folder}
use Rattle.base.specs.declared.owner.Handle.{Handle}
use Rattle.base.specs.declared.owner.Back.{Back}
use Rattle.layout.specs.Format.{Name, Cell, Geometry, handle, back, Slot, Content, slotted, folder_body, entry, entry_of}
use Rattle.rule.specs.Agree.{View, count, number, back_in, reached, held, first, those, round, slots_of, bodies_of}
use Rattle.rule.specs.Changing.{grown}
use Rattle.rule.specs.Meaning.{Fits, Body, Good, Sound, Reached, under, Held, Rooted}
use Rattle.rule.specs.Calls.{SoundAt}
use Rattle.rule.proofs.Means.{reached_is_reached, held_is_held, same_slot}
use Rattle.history.proofs.Parsed.{entry_child, slotted_same}
use Rattle.history.proofs.Puts.{grown_below, grown_count}
use Rattle.moves.specs.Moves.{MarksServe}
use Rattle.moves.proofs.Views.{upd, upd_here, upd_else, Framed, fits_else, Moves, Nothing, reached_on, reached_back, held_on, held_back}
use Rattle.moves.proofs.Steps.{body_fits, body_fits_back, cell_written}
use Rattle.moves.proofs.Slots.{Longer, reached_up, reached_down, held_up, held_down, extra_held}

-- ---- tests

pub same_test : (x y : Bool) → (x ≡ true → y ≡ true) → (y ≡ true → x ≡ true) → x ≡ y
same_test true true a b = refl
same_test true false a b = sym (a refl)
same_test false true a b = b refl
same_test false false a b = refl

pub or_test : (x y z : Bool) → (x ≡ true → (y ≡ true) ⊎ (z ≡ true)) → (y ≡ true → x ≡ true) → (z ≡ true → x ≡ true) → x ≡ (y || z)
or_test x y z a b c = same_test x (y || z) (λ e. elim (a e) [ inl p ↦ or_left y z p | inr p ↦ or_right y z p ]) (λ e. elim (or_cases y z e) [ inl p ↦ b p | inr p ↦ c p ])

pub but_test : (x y z : Bool) → (x ≡ true → (y ≡ true) × (z ≡ true → ⊥)) → (y ≡ true → (x ≡ true) ⊎ (z ≡ true)) → x ≡ (y && not z)
but_test x y z a b = same_test x (y && not z)
    (λ e. and_from y (not z) (a e).0 (elim (cases_Bool z) [ inl p ↦ absurd ((a e).1 p) | inr p ↦ not_from_false z p ]))
    (λ e. let w = and_parts y (not z) e in elim (b w.0) [ inl p ↦ p | inr p ↦ absurd (both_ways (not z) (not_from_true z p) w.1) ])

-- ---- what joins

pub record Gained (g : Geometry) (v w : View) (New : Handle → Type 0) (Taken : ℕ → Type 0) : Type 0 where
  pub on : (h : Handle) → Reached g v h → Reached g w h
  pub back : (h : Handle) → Reached g w h → Reached g v h ⊎ New h
  pub new : (h : Handle) → New h → Reached g w h
  pub held_on : (x : ℕ) → Held g v x → Held g w x
  pub held_back : (x : ℕ) → Held g w x → Held g v x ⊎ Taken x
  pub taken : (x : ℕ) → Taken x → Held g w x

abbrev pub NoneTaken : ℕ → Type 0
NoneTaken x = ⊥

pub nothing_gained : (g : Geometry) (v w : View) → Moves g v w Nothing → Gained g v w Nothing NoneTaken
nothing_gained g v w m = record {
  on = reached_on g v w Nothing m;
  back = reached_back g v w Nothing m;
  new = λ h n. absurd n;
  held_on = held_on g v w Nothing m;
  held_back = λ x h. inl (held_back g v w Nothing m x h);
  taken = λ x n. absurd n;
}

-- after a step by which nothing joins
pub then_gained : (g : Geometry) (u v w : View) (New : Handle → Type 0) (Taken : ℕ → Type 0) → Gained g u v Nothing NoneTaken → Gained g v w New Taken → Gained g u w New Taken
then_gained g u v w New Taken a b = record {
  on = λ h r. b.on h (a.on h r);
  back = λ h r. elim (b.back h r) [ inl z ↦ elim (a.back h z) [ inl y ↦ inl y | inr y ↦ absurd y ] | inr z ↦ inr z ];
  new = b.new;
  held_on = λ x r. b.held_on x (a.held_on x r);
  held_back = λ x r. elim (b.held_back x r) [ inl z ↦ elim (a.held_back x z) [ inl y ↦ inl y | inr y ↦ absurd y ] | inr z ↦ inr z ];
  taken = b.taken;
}

-- first a body joins, then a slot
pub both_gained : (g : Geometry) (u v w : View) (New : Handle → Type 0) (Taken : ℕ → Type 0) → Gained g u v Nothing Taken → Gained g v w New NoneTaken → Gained g u w New Taken
both_gained g u v w New Taken a b = record {
  on = λ h r. b.on h (a.on h r);
  back = λ h r. elim (b.back h r) [ inl z ↦ elim (a.back h z) [ inl y ↦ inl y | inr y ↦ absurd y ] | inr z ↦ inr z ];
  new = b.new;
  held_on = λ x r. b.held_on x (a.held_on x r);
  held_back = λ x r. elim (b.held_back x r) [ inl z ↦ a.held_back x z | inr z ↦ absurd z ];
  taken = λ x t. b.held_on x (a.taken x t);
}

module _ (g : Geometry) (v w : View) (before : Rooted g v) (after : Rooted g w) where
  pub reached_same : ((h : Handle) → Reached g v h → Reached g w h) → ((h : Handle) → Reached g w h → Reached g v h) → (s : ℕ) → reached g w s ≡ reached g v s
  reached_same on off s = same_test (reached g w s) (reached g v s)
      (λ e. let a = (reached_is_reached g w after s).0 e in (reached_is_reached g v before s).1 (a.0, off (handle s a.0) a.1))
      (λ e. let a = (reached_is_reached g v before s).0 e in (reached_is_reached g w after s).1 (a.0, on (handle s a.0) a.1))

  pub slots_same : (Taken : ℕ → Type 0) → Gained g v w Nothing Taken → (s : ℕ) → reached g w s ≡ reached g v s
  slots_same Taken m = reached_same m.on (λ h r. elim (m.back h r) [ inl z ↦ z | inr z ↦ absurd z ])

  pub slot_joins : (a : Handle) (Taken : ℕ → Type 0) → Gained g v w (λ h. h ≡ a) Taken → (s : ℕ) → reached g w s ≡ (reached g v s || eqb s a.slot.0)
  slot_joins a Taken m s = or_test (reached g w s) (reached g v s) (eqb s a.slot.0)
      (λ e. let r = (reached_is_reached g w after s).0 e in elim (m.back (handle s r.0) r.1) [
        | inl z ↦ inl ((reached_is_reached g v before s).1 (r.0, z))
        | inr z ↦ inr (eq-eqb s a.slot.0 (ap (λ (h : Handle). h.slot.0) z))
      ])
      (λ e. let r = (reached_is_reached g v before s).0 e in (reached_is_reached g w after s).1 (r.0, m.on (handle s r.0) r.1))
      (λ e. (reached_is_reached g w after s).1 (a.identity.0, subst (λ (i : ℕ). Reached g w (handle i a.identity.0)) (sym (eqb-true s a.slot.0 e)) (m.new a refl)))

  pub bodies_join : (New : Handle → Type 0) (Taken : ℕ → Type 0) (test : ℕ → Bool) → ((x : ℕ) → Taken x → test x ≡ true) → ((x : ℕ) → test x ≡ true → Taken x) → Gained g v w New Taken → (x : ℕ) → held g w x ≡ (held g v x || test x)
  bodies_join New Taken test tests taken m x = or_test (held g w x) (held g v x) (test x)
      (λ e. elim (m.held_back x ((held_is_held g w after x).0 e)) [ inl z ↦ inl ((held_is_held g v before x).1 z) | inr z ↦ inr (tests x z) ])
      (λ e. (held_is_held g w after x).1 (m.held_on x ((held_is_held g v before x).0 e)))
      (λ e. (held_is_held g w after x).1 (m.taken x (taken x e)))

-- ---- bodies and their back lines

pub body_name : (d : Kind) (o : Back) (y : Content) → Body d o y → back_in y ≡ Some o
body_name d o y (inl (x, k, e)) = ap back_in e
body_name d o y (inr (x, k, e)) = ap back_in e

-- a file is no folder
pub no_folder : {X : Type 0} {d : Kind} → d ≡ File → d ≡ Folder → X
no_folder p q = let z : ◌≡◌ {A = ℕ} 0 1 = cc in absurd (omega arith)

pub some_same : {A : Type 0} {a b : A} → Some a ≡ Some b → a ≡ b
some_same e = cc

pub one_name : (d e : Kind) (o p : Back) (y : Content) → Body d o y → Body e p y → o ≡ p
one_name d e o p y a b = some_same (sym (body_name d o y a) ∙ body_name e p y b)

-- a body that names the leaf after the last is a leaf of nothing
pub past_last : (g : Geometry) (v : View) (h : Handle) (r : Slot) (y : Content) → Fits g v h r → back_in y ≡ Some (back h (count r)) →
    (a : Handle) (t : Slot) (k : ℕ) → Fits g v a t → k < count t → Body t.kind (back a k) y → ⊥
past_last g v h r y f e a t k fit l b =
    let same : back a k ≡ back h (count r) = some_same (sym (body_name t.kind (back a k) y b) ∙ e) in
    let slot : t ≡ r = same_slot g v h t r (subst (λ (o : Back). Fits g v o.owner t) same fit) f in
    let leaf : k ≡ count r = ap (λ (o : Back). o.leaf.0) same in
    let num : count t ≡ count r = ap count slot in
    omega (arith, leaf, num, l)

-- ---- a slot written again

pub slot_framed : (g : Geometry) (v : View) (s : ℕ) (u : Slot) → Framed g v → ((k : ℕ) → k < count u → g.slots < number u k) → Framed g (upd v (suc s) (slotted u))
slot_framed g v s u frame own h r k f l = elim (cases_eq (suc h.slot.0) (suc s)) [
  | inr ne ↦ frame h r k (fits_else g (upd v (suc s) (slotted u)) v (suc s) (λ i n. sym (upd_else v (suc s) (slotted u) i n)) h r f ne) l
  | inl e ↦
      (let same : u ≡ r = slotted_same (sym (upd_here v (suc s) (slotted u)) ∙ ap (upd v (suc s) (slotted u)) (sym e) ∙ f.holds) in
      subst (λ (x : Slot). g.slots < number x k) same (own k (subst (λ (x : Slot). k < count x) (sym same) l)))
]

pub grown_last : (r : Slot) (b : ℕ) → number (grown r b) (count r) ≡ b
grown_last r b = let z : count r - count r ≡ 0 = omega arith in get_or-append_right r.numbers (b ∷ []) (count r) (count r) 0 refl (omega arith) ∙ ap (λ (i : ℕ). get_or (b ∷ []) i 0) z

-- the slot of a reached h gains a leaf: a body that names it and has no entry
module _ (g : Geometry) (v : View) (h : Handle) (r : Slot) (b : ℕ) (frame : Framed g v) (fit : Fits g v h r) (stands : Reached g v h) (above : g.slots < b)
    (body : Body r.kind (back h (count r)) (v b))
    (bare : (p : ℕ) (es : List Cell) (n : Name) (c : Handle) → r.kind ≡ Folder → v b ≡ folder_body (back h (count r)) es → entry_of g (get_or es p []) ≡ entry n c → ⊥) where
  abbrev longer_view : View
  longer_view = upd v (suc h.slot.0) (slotted (grown r b))

  leaf_one : (k : ℕ) → count r ≤ k → k < count (grown r b) → k ≡ count r
  leaf_one k a l = let c = grown_count r b in omega arith

  own_numbers : (k : ℕ) → k < count (grown r b) → g.slots < number (grown r b) k
  own_numbers k l = elim (cases_lt k (count r)) [
    | inl low ↦ subst (λ (x : ℕ). g.slots < x) (sym (grown_below r b k low)) (frame h r k fit low)
    | inr far ↦ subst (λ (x : ℕ). g.slots < x) (sym (ap (number (grown r b)) (leaf_one k far l) ∙ grown_last r b)) above
  ]

  pub grown_framed : Framed g longer_view
  grown_framed = slot_framed g v h.slot.0 (grown r b) frame own_numbers

  pub grown_fits : Fits g longer_view h (grown r b)
  grown_fits = record { inside = fit.inside; holds = upd_here v (suc h.slot.0) (slotted (grown r b)); same = fit.same }

  longer : Longer r (grown r b)
  longer = record { own = refl; parent = refl; kind = refl; fewer = (let c = grown_count r b in omega arith); numbers = grown_below r b }

  bare_leaf : (k p : ℕ) (es : List Cell) (n : Name) (c : Handle) → count r ≤ k → k < count (grown r b) → r.kind ≡ Folder → v (number (grown r b) k) ≡ folder_body (back h k) es → entry_of g (get_or es p []) ≡ entry n c → ⊥
  bare_leaf k p es n c a l d e q =
      let k_is = leaf_one k a l in
      bare p es n c d (sym (ap (λ (x : ℕ). v (number (grown r b) x)) k_is ∙ ap v (grown_last r b)) ∙ e ∙ ap (λ (x : ℕ). folder_body (back h x) es) k_is) q

  others : (i : ℕ) → (i ≡ suc h.slot.0 → ⊥) → longer_view i ≡ v i
  others = upd_else v (suc h.slot.0) (slotted (grown r b))

  stands_now : longer_view (suc h.slot.0) ≡ slotted (grown r b)
  stands_now = upd_here v (suc h.slot.0) (slotted (grown r b))

  pub leaf_gained : Gained g v longer_view Nothing (λ x. x ≡ b)
  leaf_gained = record {
    on = reached_up g v longer_view h r (grown r b) others fit stands_now longer frame grown_framed bare_leaf;
    back = λ a w. inl (reached_down g v longer_view h r (grown r b) others fit stands_now longer frame grown_framed bare_leaf a w);
    new = λ a n. absurd n;
    held_on = held_up g v longer_view h r (grown r b) others fit stands_now longer frame grown_framed bare_leaf;
    held_back = λ x w. elim (held_down g v longer_view h r (grown r b) others fit stands_now longer frame grown_framed bare_leaf x w) [
      | inl z ↦ inl z
      | inr z ↦ inr (sym z.here ∙ ap (number (grown r b)) (leaf_one z.leaf z.from z.below) ∙ grown_last r b)
    ];
    taken = λ x e. extra_held g v longer_view h r (grown r b) others fit stands_now longer frame grown_framed bare_leaf x stands (record {
      leaf = count r;
      from = omega arith;
      below = (let c = grown_count r b in omega arith);
      here = grown_last r b ∙ sym e;
      body = subst (λ (i : ℕ). Body r.kind (back h (count r)) (v i)) (sym e) body;
    });
  }

-- ---- an entry for a child without leaves

module _ (g : Geometry) (v : View) (f : Handle) (r : Slot) (k p b : ℕ) (es : List Cell) (e : Cell) (n : Name) (a : Handle) (t : Slot)
    (frame : Framed g v) (fit : Fits g v f r) (stands : Reached g v f) (kind : r.kind ≡ Folder) (below : k < count r) (at : number r k ≡ b) (above : g.slots < b)
    (stood : v b ≡ folder_body (back f k) es) (inside : p < length es) (unsound : SoundAt g v f k p → ⊥)
    (leads : entry_of g e ≡ entry n a) (child : Fits g v a t) (parent : t.parent ≡ f) (leafless : count t ≡ 0) where
  abbrev entered : View
  entered = upd v b (folder_body (back f k) (set es p e))

  moves : Moves g v entered (λ h. h ≡ a)
  moves = cell_written g v b f k es p e above frame stood unsound (λ h. h ≡ a) (λ m c q. entry_child (sym q ∙ leads)) hollow
    where
      hollow : (h : Handle) (j : ℕ) → h ≡ a → Good g entered h j → ⊥
      hollow h j q w =
          let old : Fits g v a w.slot = subst (λ (x : Handle). Fits g v x w.slot) q (body_fits_back g v b _ above frame h w.slot w.fits) in
          let same : count w.slot ≡ count t = ap count (same_slot g v a w.slot t old child) in
          let l = w.below in
          omega (arith, same, l, leafless)

  new_sound : Sound g entered f k p n a
  new_sound = record {
    slot = r;
    fits = body_fits g v b _ above frame f r fit;
    kind = kind;
    below = below;
    cells = set es p e;
    body = ap entered at ∙ upd_here v b (folder_body (back f k) (set es p e));
    here = ap (entry_of g) (get_or-set_same es p e [] inside) ∙ leads;
    child = t;
    child_fits = body_fits g v b _ above frame a t child;
    parent = parent;
  }

  pub entry_gained : Gained g v entered (λ h. h ≡ a) NoneTaken
  entry_gained = record {
    on = reached_on g v entered (λ h. h ≡ a) moves;
    back = reached_back g v entered (λ h. h ≡ a) moves;
    new = λ h q. subst (Reached g entered) (sym q) (under (reached_on g v entered (λ h. h ≡ a) moves f stands) new_sound);
    held_on = held_on g v entered (λ h. h ≡ a) moves;
    held_back = λ x w. inl (held_back g v entered (λ h. h ≡ a) moves x w);
    taken = λ x q. absurd q;
  }

-- ---- marks in place of the blocks

pub marks_serve : MarksServe
marks_serve g v slots bodies m = (
  (λ at. ap (λ (p : ℕ → Bool). first p (round 0 g.slots at)) free_s),
  (λ at. ap (λ (p : ℕ → Bool). first p (round (suc g.slots) g.blocks at)) free_b),
  ap (λ (p : ℕ → Bool). length (those p (slots_of g))) free_s,
  ap (λ (p : ℕ → Bool). length (those p (bodies_of g))) free_b,
)
  where
    free_s : ◌≡◌ {A = ℕ → Bool} (λ s. not (reached g v s)) (λ s. not (slots s))
    free_s = λ i s. not (m.reached s i)

    free_b : ◌≡◌ {A = ℕ → Bool} (λ b. not (held g v b)) (λ b. not (bodies b))
    free_b = λ i b. not (m.held b i)
