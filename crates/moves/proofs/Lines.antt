-- What the marks say of one slot and of one body, before and after a call.
use Rattle.std.proofs.Common.{◌≡◌, ℕ, suc, ◌<◌, ◌≤◌, Bool, true, false, cond, not, ◌&&◌, ◌||◌, eqb, ltb, List, [], ◌∷◌, length, get_or, set, Some, None, Option, sym, refl, ap, ◌∙◌, subst, inl, inr, length-set}
use lib.ListN.{get_or-eq_default}
use Rattle.std.specs.Option.{option_map}
use Rattle.std.proofs.lemmas.Bool.{cases_Bool, cases_eq, cases_lt, and_from, and_parts, and_right, or_right, eqb-true, eq-eqb, ne_eqb, ltb-true, cond-true, cond-false}
use Rattle.std.proofs.lemmas.List.{get_or-set_same, get_or-set_other, set_past}
use Rattle.base.specs.declared.owner.Handle.{Handle}
use Rattle.base.specs.declared.owner.Back.{Back}
use Rattle.layout.specs.Format.{Geometry, back, Slot, Content}
use Rattle.rule.specs.Agree.{View, slot_in, slot_at, number, good, some_is, same_back, reached, held, back_in}
use Rattle.rule.specs.Meaning.{Fits, Body, Good, Held, Rooted}
use Rattle.rule.proofs.Steps.{clash_none, back_true, back_same}
use Rattle.rule.proofs.Means.{same_slot, good_from, held_is_held}
use Rattle.marks.specs.declared.mark.SlotMark.{SlotMark}
use Rattle.marks.specs.declared.mark.Marks.{Marks}
use Rattle.marks.specs.Marks.{slot_line, slot_mark, body_mark, is_leaf, with_slot, with_body, released, without, with_gained}
use Rattle.moves.specs.Moves.{good_among}
use Rattle.moves.specs.Marking.{Room, RoomStaysAlways}
use Rattle.moves.proofs.Views.{upd, upd_here, upd_else}
use Rattle.moves.proofs.Gained.{same_test, body_name, some_same}
use Rattle.moves.proofs.Leaves.{good_body}

-- ---- room

room_slot : (g : Geometry) (ms : Marks) → Room g ms → (s : ℕ) (x : Option SlotMark) → Room g (with_slot ms s x)
room_slot g ms w s x = (subst (λ (n : ℕ). g.slots ≤ n) (sym (length-set ms.slots s x)) w.0, w.1)

room_body : (g : Geometry) (ms : Marks) → Room g ms → (b : ℕ) (x : Option Back) → Room g (with_body ms b x)
room_body g ms w b x = (w.0, subst (λ (n : ℕ). g.blocks ≤ n) (sym (length-set ms.bodies b x)) w.1)

room_leaf : (g : Geometry) (ms : Marks) → Room g ms → (b : ℕ) (x : Back) → Room g (released ms b x)
room_leaf g ms w b x = go (is_leaf ms b x)
  where
    go : (t : Bool) → Room g (cond t (with_body ms b None) ms)
    go true = room_body g ms w b None
    go false = w

room_leaves : (g : Geometry) (ms : Marks) → Room g ms → (h : Handle) (r : Slot) (ks : List ℕ) → Room g (without ms h r ks)
room_leaves g ms w h r [] = w
room_leaves g ms w h r (k ∷ ks) = room_leaves g (released ms (number r k) (back h k)) (room_leaf g ms w (number r k) (back h k)) h r ks

room_gained : (g : Geometry) (ms : Marks) → Room g ms → (o : Option ℕ) (x : Back) → Room g (with_gained ms o x)
room_gained g ms w None x = w
room_gained g ms w (Some b) x = room_body g ms w b (Some x)

pub room_stays : RoomStaysAlways
room_stays g ms w = record { slot = room_slot g ms w; body = room_body g ms w; leaf = room_leaf g ms w; leaves = room_leaves g ms w; gained = room_gained g ms w }

-- ---- contents that are marked alike

-- as a slot and as a body, y is marked as x is
pub record Alike (y x : Content) : Type 0 where
  pub slot : option_map slot_line (slot_in y) ≡ option_map slot_line (slot_in x)
  pub body : back_in y ≡ back_in x

pub alike_same : {x y : Content} → y ≡ x → Alike y x
alike_same e = record { slot = ap (λ (c : Content). option_map slot_line (slot_in c)) e; body = ap back_in e }

pub alike_then : {x y z : Content} → Alike z y → Alike y x → Alike z x
alike_then a b = record { slot = a.slot ∙ b.slot; body = a.body ∙ b.body }

-- what stood in block b is written over by what is marked alike
pub alike_upd : (v : View) (b : ℕ) (x y : Content) → v b ≡ x → Alike y x → (i : ℕ) → Alike (upd v b y i) (v i)
alike_upd v b x y stood a i = elim (cases_eq i b) [
  | inl e ↦ subst (λ (j : ℕ). Alike (upd v b y j) (v j)) (sym e) (alike_then (alike_same (upd_here v b y)) (alike_then a (alike_same (sym stood))))
  | inr ne ↦ alike_same (upd_else v b y i ne)
]

-- ---- marks that stay

line_cond : (t : Bool) (x y : Option Slot) → (t ≡ true → option_map slot_line y ≡ option_map slot_line x) → option_map slot_line (cond t y None) ≡ option_map slot_line (cond t x None)
line_cond true x y e = e refl
line_cond false x y e = refl

pub slot_mark_same : (g : Geometry) (v w : View) (s : ℕ) → reached g w s ≡ reached g v s → (s < g.slots → Alike (w (suc s)) (v (suc s))) → slot_mark g w s ≡ slot_mark g v s
slot_mark_same g v w s r a =
    ap (λ (t : Bool). cond t (option_map slot_line (slot_at g w s)) None) r
    ∙ ap (λ (o : Option SlotMark). cond (reached g v s) o None) (line_cond (ltb s g.slots) (slot_in (v (suc s))) (slot_in (w (suc s))) (λ e. (a (ltb-true s g.slots e)).slot))

pub body_mark_same : (g : Geometry) (v w : View) (b : ℕ) → held g w b ≡ held g v b → (held g v b ≡ true → back_in (w b) ≡ back_in (v b)) → body_mark g w b ≡ body_mark g v b
body_mark_same g v w b h a = ap (λ (t : Bool). cond t (back_in (w b)) None) h ∙ go (held g v b) a
  where
    go : (t : Bool) → (t ≡ true → back_in (w b) ≡ back_in (v b)) → cond t (back_in (w b)) None ≡ cond t (back_in (v b)) None
    go true e = e refl
    go false e = refl

-- ---- a body that is gained

pub or_none : (x : Bool) → (x || false) ≡ x
or_none true = refl
or_none false = refl

pub and_all : (x : Bool) → (x && true) ≡ x
and_all true = refl
and_all false = refl

pub gained_slots : (ms : Marks) (o : Option ℕ) (c : Back) → (with_gained ms o c).slots ≡ ms.slots
gained_slots ms None c = refl
gained_slots ms (Some b) c = refl

module _ (g : Geometry) (v w : View) (ms : Marks) (c : Back) (before : (b : ℕ) → get_or ms.bodies b None ≡ body_mark g v b) where
  pub gained_bodies : (o : Option ℕ) → ((b : ℕ) → held g w b ≡ (held g v b || some_is o (eqb b))) → ((b : ℕ) → (o ≡ Some b → ⊥) → held g v b ≡ true → back_in (w b) ≡ back_in (v b)) →
      ((b : ℕ) → o ≡ Some b → (back_in (w b) ≡ Some c) × (b < length ms.bodies)) → (b : ℕ) → get_or (with_gained ms o c).bodies b None ≡ body_mark g w b
  gained_bodies None moved stays new b = before b ∙ sym (body_mark_same g v w b (moved b ∙ or_none (held g v b)) (stays b (λ e. clash_none e)))
  gained_bodies (Some n) moved stays new b = elim (cases_eq b n) [
    | inl e ↦ subst (λ (i : ℕ). get_or (set ms.bodies n (Some c)) i None ≡ body_mark g w i) (sym e)
        (get_or-set_same ms.bodies n (Some c) None (new n refl).1
        ∙ sym (cond-true (held g w n) (back_in (w n)) None (moved n ∙ or_right (held g v n) (eqb n n) (eq-eqb n n refl)) ∙ (new n refl).0))
    | inr ne ↦ get_or-set_other ms.bodies n b (Some c) None ne ∙ before b
        ∙ sym (body_mark_same g v w b (moved b ∙ ap (λ (t : Bool). held g v b || t) (ne_eqb b n ne) ∙ or_none (held g v b)) (stays b (λ e. ne (sym (some_same e)))))
  ]

-- ---- bodies that are free again

-- block b is one of these leaves of h, by what it is marked as
abbrev marked_among : Option Back → Handle → Slot → ℕ → List ℕ → Bool
marked_among m h r b [] = false
marked_among m h r b (k ∷ ks) = (some_is m (same_back (back h k)) && eqb b (number r k)) || marked_among m h r b ks

pub set_none : {A : Type 0} (xs : List (Option A)) (i : ℕ) → get_or (set xs i None) i None ≡ None
set_none {A} xs i = elim (cases_lt i (length xs)) [
  | inl l ↦ get_or-set_same xs i None None l
  | inr l ↦ ap (λ (ys : List (Option A)). get_or ys i None) (set_past xs i None l) ∙ get_or-eq_default xs None l
]

released_at : (ms : Marks) (n : ℕ) (c : Back) (b : ℕ) →
    get_or (released ms n c).bodies b None ≡ cond (some_is (get_or ms.bodies b None) (same_back c) && eqb b n) None (get_or ms.bodies b None)
released_at ms n c b = elim (cases_eq b n) [
  | inl e ↦ subst (λ (i : ℕ). get_or (released ms i c).bodies b None ≡ cond (some_is m (same_back c) && eqb b i) None m) e
      (here (some_is m (same_back c)) ∙ ap (λ (t : Bool). cond (some_is m (same_back c) && t) None m) (sym (eq-eqb b b refl)))
  | inr ne ↦ other ne (is_leaf ms n c) ∙ sym (cond-false (some_is m (same_back c) && eqb b n) None m (and_right (some_is m (same_back c)) (eqb b n) (ne_eqb b n ne)))
]
  where
    m : Option Back
    m = get_or ms.bodies b None

    here : (t : Bool) → get_or (cond t (with_body ms b None) ms).bodies b None ≡ cond (t && true) None m
    here true = set_none ms.bodies b
    here false = refl

    other : (b ≡ n → ⊥) → (t : Bool) → get_or (cond t (with_body ms n None) ms).bodies b None ≡ m
    other ne true = get_or-set_other ms.bodies n b None None ne
    other ne false = refl

none_left : (t : Bool) → ◌≡◌ {A = Option Back} (cond t None None) None
none_left true = refl
none_left false = refl

without_at : (h : Handle) (r : Slot) (b : ℕ) (ks : List ℕ) (ms : Marks) →
    get_or (without ms h r ks).bodies b None ≡ cond (marked_among (get_or ms.bodies b None) h r b ks) None (get_or ms.bodies b None)
without_at h r b [] ms = refl
without_at h r b (k ∷ ks) ms =
    without_at h r b ks (released ms (number r k) (back h k))
    ∙ ap (λ (x : Option Back). cond (marked_among x h r b ks) None x) (released_at ms (number r k) (back h k) b)
    ∙ go (some_is m (same_back (back h k)) && eqb b (number r k))
  where
    m : Option Back
    m = get_or ms.bodies b None

    go : (t : Bool) → cond (marked_among (cond t None m) h r b ks) None (cond t None m) ≡ cond (t || marked_among m h r b ks) None m
    go true = none_left (marked_among None h r b ks)
    go false = refl

pub without_slots : (h : Handle) (r : Slot) (ks : List ℕ) (ms : Marks) → (without ms h r ks).slots ≡ ms.slots
without_slots h r [] ms = refl
without_slots h r (k ∷ ks) ms = without_slots h r ks (released ms (number r k) (back h k)) ∙ go (is_leaf ms (number r k) (back h k))
  where
    go : (t : Bool) → (cond t (with_body ms (number r k) None) ms).slots ≡ ms.slots
    go true = refl
    go false = refl

-- of a held body its mark tells whether it is a good leaf of h
module _ (g : Geometry) (v : View) (rooted : Rooted g v) (h : Handle) (r : Slot) (fit : Fits g v h r) where
  marked_good : (b k : ℕ) → Held g v b → some_is (back_in (v b)) (same_back (back h k)) ≡ true → good v h r k ≡ true
  marked_good b k a e =
      let name : back_in (v b) ≡ Some (back a.owner a.leaf) = body_name a.good.slot.kind (back a.owner a.leaf) (v b) (subst (λ (i : ℕ). Body a.good.slot.kind (back a.owner a.leaf) (v i)) a.here a.good.body) in
      let same : back h k ≡ back a.owner a.leaf = back_true (back h k) (back a.owner a.leaf) (sym (ap (λ (o : Option Back). some_is o (same_back (back h k))) name) ∙ e) in
      let mine : Good g v h k = subst (λ (o : Back). Good g v o.owner o.leaf.0) (sym same) a.good in
      subst (λ (t : Slot). good v h t k ≡ true) (same_slot g v h mine.slot r mine.fits fit) (good_from v h mine.slot k mine.below mine.body)

  good_marked : (b k : ℕ) → good v h r k ≡ true → b ≡ number r k → some_is (back_in (v b)) (same_back (back h k)) ≡ true
  good_marked b k e at =
      let w = good_body g v h r k b fit e at in
      ap (λ (o : Option Back). some_is o (same_back (back h k))) (body_name w.0 (back h k) (v b) w.1) ∙ back_same (back h k) (back h k) refl

  among_same : (b : ℕ) → Held g v b → (ks : List ℕ) → marked_among (back_in (v b)) h r b ks ≡ good_among v h r b ks
  among_same b a [] = refl
  among_same b a (k ∷ ks) = λ i. one i || among_same b a ks i
    where
      one : (some_is (back_in (v b)) (same_back (back h k)) && eqb b (number r k)) ≡ (good v h r k && eqb b (number r k))
      one = same_test (some_is (back_in (v b)) (same_back (back h k)) && eqb b (number r k)) (good v h r k && eqb b (number r k))
          (λ e. let w = and_parts (some_is (back_in (v b)) (same_back (back h k))) (eqb b (number r k)) e in and_from (good v h r k) (eqb b (number r k)) (marked_good b k a w.0) w.1)
          (λ e. let w = and_parts (good v h r k) (eqb b (number r k)) e in and_from (some_is (back_in (v b)) (same_back (back h k))) (eqb b (number r k)) (good_marked b k w.0 (eqb-true b (number r k) w.1)) w.1)

  module _ (w : View) (ms : Marks) (ks : List ℕ) (before : (b : ℕ) → get_or ms.bodies b None ≡ body_mark g v b)
      (moved : (b : ℕ) → held g w b ≡ (held g v b && not (good_among v h r b ks))) (stays : (b : ℕ) → back_in (w b) ≡ back_in (v b)) where
    freed : (b : ℕ) → cond (marked_among (body_mark g v b) h r b ks) None (body_mark g v b) ≡ body_mark g w b
    freed b = elim (cases_Bool (held g v b)) [
      | inr e ↦
          (let was : body_mark g v b ≡ None = cond-false (held g v b) (back_in (v b)) None e in
          let is : body_mark g w b ≡ None = cond-false (held g w b) (back_in (w b)) None (moved b ∙ ap (λ (t : Bool). t && not (good_among v h r b ks)) e) in
          ap (λ (x : Option Back). cond (marked_among x h r b ks) None x) was ∙ none_left (marked_among None h r b ks) ∙ sym is)
      | inl e ↦
          (let was : body_mark g v b ≡ back_in (v b) = cond-true (held g v b) (back_in (v b)) None e in
          let is : held g w b ≡ not (good_among v h r b ks) = moved b ∙ ap (λ (t : Bool). t && not (good_among v h r b ks)) e in
          ap (λ (x : Option Back). cond (marked_among x h r b ks) None x) was
          ∙ ap (λ (t : Bool). cond t None (back_in (v b))) (among_same b ((held_is_held g v rooted b).0 e) ks)
          ∙ turn (good_among v h r b ks) (back_in (v b))
          ∙ sym (ap (λ (t : Bool). cond t (back_in (w b)) None) is ∙ ap (λ (x : Option Back). cond (not (good_among v h r b ks)) x None) (stays b)))
    ]
      where
        turn : (t : Bool) (x : Option Back) → cond t None x ≡ cond (not t) x None
        turn true x = refl
        turn false x = refl

    pub left_bodies : (b : ℕ) → get_or (without ms h r ks).bodies b None ≡ body_mark g w b
    left_bodies b = without_at h r b ks ms ∙ ap (λ (x : Option Back). cond (marked_among x h r b ks) None x) (before b) ∙ freed b
