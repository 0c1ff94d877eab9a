-- What marks that agree with the blocks tell.
use Rattle.std.proofs.Common.{◌≡◌, ℕ, suc, ◌<◌, Bool, true, false, cond, not, ◌&&◌, eqb, ◌⊎◌, List, [], ◌∷◌, length, get_or, is_some, Some, None, Option, sym, refl, ap, ◌∙◌, subst, inl, inr}
use Rattle.std.specs.Option.{option_map}
use Rattle.std.proofs.lemmas.Bool.{and_from}
use Rattle.base.specs.declared.owner.Kind.{Kind}
use Rattle.base.specs.declared.owner.Handle.{Handle}
use Rattle.base.specs.declared.owner.Back.{Back}
use Rattle.device.specs.Model.{In}
use Rattle.layout.specs.Format.{Name, Geometry, Slot, Content, back, handle, entry, entry_of}
use Rattle.rule.specs.Agree.{View, same_handle, same_back, first, those, some_is, slot_at, count, number, good, Place, places, agrees, sound, leads_to, reached, held, back_in, slots_of, bodies_of, round}
use Rattle.rule.specs.Meaning.{Fits, Body, Good, Reached, the_root, under, Held, Rooted}
use Rattle.rule.proofs.Steps.{clash, clash_none, some_is_true, handle_same, back_true, back_same}
use Rattle.rule.proofs.Means.{fits_at, leads_true, FirstSound, first_sound, reached_from, reached_fits, reached_is_reached, held_is_held, good_is_good}
use Rattle.marks.specs.declared.mark.SlotMark.{SlotMark}
use Rattle.marks.specs.declared.mark.Marks.{Marks}
use Rattle.marks.specs.Marks.{Agree, slot_line, slot_taken, body_taken, is_leaf, is_child}
use Rattle.marks.specs.Laws.{MarksTell}

-- ---- tests

same_test : (x y : Bool) → (x ≡ true → y ≡ true) → (y ≡ true → x ≡ true) → x ≡ y
same_test true true a b = refl
same_test true false a b = sym (a refl)
same_test false true a b = b refl
same_test false false a b = refl

-- a mark is there if its test passes and there is what it is of
mark_there : {A : Type 0} (t : Bool) (o : Option A) → (t ≡ true → (a : A) × (o ≡ Some a)) → is_some (cond t o None) ≡ t
mark_there true o h = ap is_some (h refl).1
mark_there false o h = refl

mark_some : {A : Type 0} (t : Bool) (o : Option A) (a : A) → cond t o None ≡ Some a → (t ≡ true) × (o ≡ Some a)
mark_some true o a e = (refl, e)
mark_some false o a e = clash_none e

first_there : {A : Type 0} (p : A → Bool) (q : A) (xs : List A) → In q xs → p q ≡ true → (x : A) × (first p xs ≡ Some x)
unfolding In
first_there p q [] w e = absurd w
first_there p q (x ∷ xs) w e = go (p x) refl w (first_there p q xs)
  where
    go : (b : Bool) → p x ≡ b → (q ≡ x) ⊎ In q xs → (In q xs → p q ≡ true → (y : _) × (first p xs ≡ Some y)) → (y : _) × (cond b (Some x) (first p xs) ≡ Some y)
    go true h w rest = (x, refl)
    go false h (inl s) rest = clash (sym h ∙ sym (ap p s) ∙ e)
    go false h (inr w) rest = rest w e

-- ---- what is reached or held is there

slot_there : (g : Geometry) (v : View) (h : Handle) → Rooted g v → Reached g v h → (r : Slot) × (slot_at g v h.slot.0 ≡ Some r)
slot_there g v h rooted the_root = (rooted.0, fits_at g v _ rooted.0 rooted.1)
slot_there g v h rooted (under {f} {c} w s) = (s.child, fits_at g v c s.child s.child_fits)

body_there : (d : Kind) (b : Back) (c : Content) → Body d b c → back_in c ≡ Some b
body_there d b c (inl (x, k, e)) = ap back_in e
body_there d b c (inr (x, k, e)) = ap back_in e

held_names : (g : Geometry) (v : View) (b : ℕ) (h : Held g v b) → back_in (v b) ≡ Some (back h.owner h.leaf)
held_names g v b h = ap (λ (x : ℕ). back_in (v x)) (sym h.here) ∙ body_there h.good.slot.kind _ (v (number h.good.slot h.leaf)) h.good.body

some_same : {A : Type 0} {a b : A} → Some a ≡ Some b → a ≡ b
some_same e = cc

-- a sound entry of a reached folder leads to a reached slot
entry_leads : (g : Geometry) (v : View) (f : Handle) (r : Slot) (q : Place) (n : Name) (c : Handle) → Rooted g v → Fits g v f r → reached g v f.slot.0 ≡ true →
    In q (places v f r) → entry_of g q.cell ≡ entry n c → agrees g v f (entry n c) ≡ true → reached g v c.slot.0 ≡ true
entry_leads g v f r q n c rooted fit up there is ok =
    let w = first_there (λ z. leads_to c (entry_of g z.cell) && sound g v f z) q (places v f r) there
    (and_from _ _ (ap (leads_to c) is ∙ handle_same c c refl) (ap (agrees g v f) is ∙ ok)) in
    let s : FirstSound g v f r fit (leads_to c) w.0 = first_sound g v f r fit (leads_to c) w.0 w.1 in
    let same : c ≡ s.leads = leads_true c (entry_of g w.0.cell) s.name s.leads s.is s.right in
    subst (λ (h : Handle). reached g v h.slot.0 ≡ true) (sym same) (reached_from g v s.leads (under (reached_fits g v f r rooted fit up) s.sound))

abbrev says : Handle → Handle → SlotMark → Bool
says f c m = eqb m.identity.0 c.identity.0 && same_handle m.parent f

line_says : (f c : Handle) (o : Option Slot) → some_is o (λ r. eqb r.identity c.identity.0 && same_handle r.parent f) ≡ some_is (option_map slot_line o) (says f c)
line_says f c None = refl
line_says f c (Some r) = refl

module _ (g : Geometry) (v : View) (ms : Marks) (rooted : Rooted g v) (ok : Agree g v ms) where
  slots_tell : (s : ℕ) → slot_taken ms s ≡ reached g v s
  slots_tell s = ap is_some (ok.slots s) ∙ mark_there (reached g v s) (option_map slot_line (slot_at g v s))
      (λ e. let w = (reached_is_reached g v rooted s).0 e in let r = slot_there g v (handle s w.0) rooted w.1 in (slot_line r.0, ap (option_map slot_line) r.1))

  bodies_tell : (b : ℕ) → body_taken ms b ≡ held g v b
  bodies_tell b = ap is_some (ok.bodies b) ∙ mark_there (held g v b) (back_in (v b))
      (λ e. let w = (held_is_held g v rooted b).0 e in (back w.owner w.leaf, held_names g v b w))

  leaves_tell : (h : Handle) (r : Slot) (k : ℕ) → Fits g v h r → reached g v h.slot.0 ≡ true → k < count r → good v h r k ≡ is_leaf ms (number r k) (back h k)
  leaves_tell h r k fit up l = same_test (good v h r k) (is_leaf ms (number r k) (back h k)) there back_there
    where
      there : good v h r k ≡ true → is_leaf ms (number r k) (back h k) ≡ true
      there e =
          let w : Good g v h k = (good_is_good g v h r k fit).0 e in
          let num : number w.slot k ≡ number r k = ap (λ (z : Slot). number z k) (some_same (sym (fits_at g v h w.slot w.fits) ∙ fits_at g v h r fit)) in
          let own : Held g v (number r k) = record { owner = h; leaf = k; reached = reached_fits g v h r rooted fit up; good = w; here = num } in
          ap (λ (o : Option Back). some_is o (same_back (back h k))) (ok.bodies (number r k) ∙ ap (λ (t : Bool). cond t (back_in (v (number r k))) None) ((held_is_held g v rooted (number r k)).1 own) ∙ held_names g v (number r k) own)
          ∙ back_same (back h k) (back h k) refl

      back_there : is_leaf ms (number r k) (back h k) ≡ true → good v h r k ≡ true
      back_there e =
          let a = some_is_true (get_or ms.bodies (number r k) None) (same_back (back h k)) e in
          let m = mark_some (held g v (number r k)) (back_in (v (number r k))) a.0 (sym (ok.bodies (number r k)) ∙ a.1) in
          let w = (held_is_held g v rooted (number r k)).0 m.0 in
          let same : back w.owner w.leaf ≡ back h k = some_same (sym (held_names g v (number r k) w) ∙ m.1) ∙ sym (back_true (back h k) a.0 a.2) in
          (good_is_good g v h r k fit).1 (subst (λ (o : Back). Good g v o.owner o.leaf.0) same w.good)

  entries_tell : (f : Handle) (r : Slot) (q : Place) (n : Name) (c : Handle) → Fits g v f r → reached g v f.slot.0 ≡ true →
      In q (places v f r) → entry_of g q.cell ≡ entry n c → agrees g v f (entry n c) ≡ is_child ms f c
  entries_tell f r q n c fit up there is = go (reached g v c.slot.0) refl (agrees g v f (entry n c)) refl ∙ sym (ap (λ (o : Option SlotMark). some_is o (says f c)) (ok.slots c.slot.0))
    where
      go : (t : Bool) → reached g v c.slot.0 ≡ t → (a : Bool) → agrees g v f (entry n c) ≡ a → agrees g v f (entry n c) ≡ some_is (cond t (option_map slot_line (slot_at g v c.slot.0)) None) (says f c)
      go true e a s = line_says f c (slot_at g v c.slot.0)
      go false e true s = clash (sym e ∙ entry_leads g v f r q n c rooted fit up there is s)
      go false e false s = s

  free_slots_tell : ◌≡◌ {A = ℕ → Bool} (λ s. not (reached g v s)) (λ s. not (slot_taken ms s))
  free_slots_tell = λ i s. not (sym (slots_tell s) i)

  free_bodies_tell : ◌≡◌ {A = ℕ → Bool} (λ b. not (held g v b)) (λ b. not (body_taken ms b))
  free_bodies_tell = λ i b. not (sym (bodies_tell b) i)

pub marks_tell : MarksTell
marks_tell g v ms rooted ok = record {
  slot_is = slots_tell g v ms rooted ok;
  body_is = bodies_tell g v ms rooted ok;
  leaf_is = leaves_tell g v ms rooted ok;
  entry_is = entries_tell g v ms rooted ok;
  slot_next = λ at. ap (λ (p : ℕ → Bool). first p (round 0 g.slots at)) (free_slots_tell g v ms rooted ok);
  body_next = λ at. ap (λ (p : ℕ → Bool). first p (round (suc g.slots) g.blocks at)) (free_bodies_tell g v ms rooted ok);
  slots_count = ap (λ (p : ℕ → Bool). length (those p (slots_of g))) (free_slots_tell g v ms rooted ok);
  bodies_count = ap (λ (p : ℕ → Bool). length (those p (bodies_of g))) (free_bodies_tell g v ms rooted ok);
}
