-- A call of which the relation holds is accepted, with that plan.
use Rattle.std.proofs.Common.{◌≡◌, ℕ, suc, ◌<◌, ◌≤◌, Bool, true, false, cond, not, ◌&&◌, eqb, ltb, leb, ◌⊎◌, List, [], ◌∷◌, length, set, Some, None, Ok, Option, sym, refl, ap, ◌∙◌, inl, inr, arith}
use Rattle.std.proofs.lemmas.Bool.{and_from, eq-eqb, ne_eqb, le-leb, lt-ltb, le-ltb, not_from_false, cases_order, cond-true, cond-false}
use Rattle.base.specs.declared.owner.Kind.{Kind}
use Rattle.base.specs.declared.owner.Kind.TheVariants.{File, Folder}
use Rattle.base.specs.declared.owner.Handle.{Handle}
use Rattle.device.specs.declared.put.Put.{Put}
use Rattle.layout.specs.Format.{Name, Cell, Geometry, handle, back, Slot, blank, file_body, folder_body, entry, entry_of, good_name, cell, blank_cell, leaf_limit}
use Rattle.rule.specs.Agree.{View, seen, same_kind, count, number, good, Place, places, sound, found, first, free_slot, free_body, reached, some_is}
use Rattle.rule.specs.Card.{Card, Plan}
use Rattle.rule.specs.Reading.{kind_is, named, child_of}
use Rattle.rule.specs.Changing.{store, store_slot, changing, with_cell, open_place, untaken, placed, create, new_slot, grown, cut_to, keeps, replaces, appends, below_count, write, shorten, has_entries, remove, last_identity}
use Rattle.rule.specs.Meaning.{Fits, Sound, Finds}
use Rattle.rule.specs.Calls.{Standing, SoundAt, InPlace, OnNewLeaf, Replaces, Appends, CreateAccepted, WriteAccepted, ShortenAccepted, RemoveAccepted}
use Rattle.rule.proofs.Means.{fits_at, good_from, found_is_found, first_sound, reached_from}
use Rattle.rule.proofs.Plans.{in_place, all_sound, found_cell}
use Rattle.rule.proofs.Answered.{bind_from, check_from, demand_from, kind_same, fits_answers, found_once}

changing_answers : (g : Geometry) (v : View) (d : Kind) (h : Handle) (r : Slot) → Standing g v d h r → changing g v d h ≡ Ok r
unfolding changing kind_is
changing_answers g v d h r w =
    bind_from _ _ r (fits_answers g v h r w.fits)
    ∙ bind_from _ _ tt (check_from (reached g v h.slot.0) _ (reached_from g v h w.reached))
    ∙ bind_from _ _ tt (check_from (same_kind r.kind d) _ (kind_same r.kind d w.kind))

-- a plan is its answer, its blocks and its card
plan_is : {A : Type 0} (p : Plan A) (a : A) (ws : List Put) (c : Card) → p.answer ≡ a → p.puts ≡ ws → p.card ≡ c → record { answer = a; puts = ws; card = c } ≡ p
plan_is p a ws c x y z = λ i. record { answer = sym x i; puts = sym y i; card = sym z i }

-- ---- write and shorten

pub write_accepted : WriteAccepted
unfolding write replaces appends
write_accepted h k x c shown g p ready w =
    bind_from _ _ tt (check_from (leb (length x) 496) _ (le-leb (length x) 496 w.size))
    ∙ bind_from _ _ g ready
    ∙ bind_from _ _ r (changing_answers g v File h r w.standing)
    ∙ bind_from _ _ tt (check_from (leb k (count r) && ltb k leaf_limit) _ (and_from (leb k (count r)) (ltb k leaf_limit) (le-leb k (count r) (at_most w.blocks)) (lt-ltb k leaf_limit w.leaf)))
    ∙ which w.blocks
  where
    v : View
    v = seen g shown

    r : Slot
    r = w.slot

    at_most : Replaces v c h r k x p ⊎ Appends g v c h r k x p → k ≤ count r
    at_most (inl i) = omega (arith, i.below)
    at_most (inr i) = omega (arith, i.last)

    which : Replaces v c h r k x p ⊎ Appends g v c h r k x p → below_count (ltb k (count r)) g v c h r k x ≡ Ok p
    which (inl i) =
        ap (λ (b : Bool). below_count b g v c h r k x) (lt-ltb k (count r) i.below)
        ∙ bind_from _ _ tt (check_from (good v h r k) _ (good_from v h r k i.below (inl (i.old, w.standing.kind, i.body))))
        ∙ ap Ok (plan_is p tt (store (number r k) (file_body (back h k) x) ∷ []) c refl i.blocks i.after)
    which (inr i) =
        ap (λ (b : Bool). below_count b g v c h r k x) (le-ltb k (count r) (omega (arith, i.last)))
        ∙ bind_from _ _ i.block (demand_from (free_body g v c.next_body) _ i.block i.next)
        ∙ ap Ok (plan_is p tt (store i.block (file_body (back h (count r)) x) ∷ store_slot h.slot.0 (grown r i.block) ∷ []) (keeps c c.highest c.next_slot (suc i.block)) refl
        (i.blocks ∙ ap (λ (z : ℕ). store i.block (file_body (back h z) x) ∷ store_slot h.slot.0 (grown r i.block) ∷ []) i.last) i.after)

pub shorten_accepted : ShortenAccepted
unfolding shorten
shorten_accepted h n c shown g p ready w =
    bind_from _ _ g ready
    ∙ bind_from _ _ w.slot (changing_answers g (seen g shown) File h w.slot w.standing)
    ∙ bind_from _ _ tt (check_from (leb n (count w.slot)) _ (le-leb n (count w.slot) w.fewer))
    ∙ ap Ok (plan_is p tt (cond (eqb n (count w.slot)) [] (store_slot h.slot.0 (cut_to w.slot n) ∷ [])) c refl (which w.blocks) w.after)
  where
    which : ((n ≡ count w.slot) × (p.puts ≡ [])) ⊎ ((n < count w.slot) × (p.puts ≡ store_slot h.slot.0 (cut_to w.slot n) ∷ [])) → p.puts ≡ cond (eqb n (count w.slot)) [] (store_slot h.slot.0 (cut_to w.slot n) ∷ [])
    which (inl (a, e)) = e ∙ sym (cond-true (eqb n (count w.slot)) [] (store_slot h.slot.0 (cut_to w.slot n) ∷ []) (eq-eqb n (count w.slot) a))
    which (inr (a, e)) = e ∙ sym (cond-false (eqb n (count w.slot)) [] (store_slot h.slot.0 (cut_to w.slot n) ∷ []) (ne_eqb n (count w.slot) (λ z. absurd (omega (arith, a, z)))))

-- ---- create

-- only one place is the first that is not sound
module _ (g : Geometry) (v : View) (f : Handle) (r : Slot) (fit : Fits g v f r) (folder : r.kind ≡ Folder) (c : Card) (e : Cell) where
  same_place : (ws us : List Put) (m n : ℕ) (a : InPlace g v c f r e ws m) (b : InPlace g v c f r e us n) → (a.leaf ≡ b.leaf) × (a.place ≡ b.place)
  same_place ws us m n a b = elim (cases_order a.leaf b.leaf) [
    | inr (inl l) ↦ absurd (a.unsound (b.earlier a.leaf a.place (inl l) a.here))
    | inr (inr l) ↦ absurd (b.unsound (a.earlier b.leaf b.place (inl l) b.here))
    | inl s ↦ elim (cases_order a.place b.place) [
      | inr (inl l) ↦ absurd (a.unsound (b.earlier a.leaf a.place (inr (s, l)) a.here))
      | inr (inr l) ↦ absurd (b.unsound (a.earlier b.leaf b.place (inr (sym s, l)) b.here))
      | inl q ↦ (s, q)
    ]
  ]

  same_cells : {k j : ℕ} {x y : List Cell} → folder_body (back f k) x ≡ folder_body (back f j) y → x ≡ y
  same_cells e = cc

  same_blocks : (ws us : List Put) (m n : ℕ) → InPlace g v c f r e ws m → InPlace g v c f r e us n → ws ≡ us
  same_blocks ws us m n a b =
      let s = same_place ws us m n a b in
      let cells : a.here.cells ≡ b.here.cells = same_cells (sym a.here.body ∙ ap (λ (k : ℕ). v (number r k)) s.0 ∙ b.here.body) in
      a.blocks
      ∙ ap (λ (k : ℕ). store (number r k) (folder_body (back f k) (set a.here.cells a.place e)) ∷ []) s.0
      ∙ ap (λ (k : ℕ). store (number r b.leaf) (folder_body (back f b.leaf) (set a.here.cells k e)) ∷ []) s.1
      ∙ ap (λ (es : List Cell). store (number r b.leaf) (folder_body (back f b.leaf) (set es b.place e)) ∷ []) cells
      ∙ sym b.blocks

  placed_answers : (ws : List Put) (next : ℕ) → InPlace g v c f r e ws next ⊎ OnNewLeaf g v c f r e ws next → placed g v c f r e (open_place g v f r) ≡ Ok (ws, next)
  unfolding placed
  placed_answers ws next (inl i) = go (open_place g v f r) refl
    where
      go : (o : Option Place) → open_place g v f r ≡ o → placed g v c f r e o ≡ Ok (ws, next)
      go None h = absurd (i.unsound (all_sound g v f r fit folder h i.leaf i.place i.here))
      go (Some q) h =
          let same = same_blocks (with_cell v f r q e ∷ []) ws c.next_body next (in_place g v f r fit folder c e q h) i in
          ap Ok (λ j. (same j, sym i.cursor j))
  placed_answers ws next (inr i) = go (open_place g v f r) refl
    where
      go : (o : Option Place) → open_place g v f r ≡ o → placed g v c f r e o ≡ Ok (ws, next)
      go None h =
          bind_from _ _ tt (check_from (ltb (count r) leaf_limit) _ (lt-ltb (count r) leaf_limit i.room))
          ∙ bind_from _ _ i.block (demand_from (free_body g v c.next_body) _ i.block i.first)
          ∙ ap Ok (λ j. (sym i.blocks j, sym i.cursor j))
      go (Some q) h = let a = in_place g v f r fit folder c e q h in absurd (a.unsound (i.full a.leaf a.place a.here))

untaken_answers : (g : Geometry) (v : View) (f : Handle) (r : Slot) (n : Name) → Fits g v f r → ((j q : ℕ) (a : Handle) → Sound g v f j q n a → ⊥) → untaken g (found g v f r n) ≡ Ok tt
unfolding untaken
untaken_answers g v f r n fit none = go (found g v f r n) refl
  where
    go : (o : Option Place) → found g v f r n ≡ o → untaken g o ≡ Ok tt
    go None e = refl
    go (Some q) e = let w = (found_is_found g v f r n fit).0 q e in absurd (none w.2.leaf w.2.place w.0 w.2.sound)

pub create_accepted : CreateAccepted
unfolding create named
create_accepted d f n c shown g p ready w =
    bind_from _ _ tt (check_from (good_name n) _ w.name)
    ∙ bind_from _ _ g ready
    ∙ bind_from _ _ r (changing_answers g v Folder f r w.standing)
    ∙ bind_from _ _ tt (untaken_answers g v f r n w.standing.fits w.untaken)
    ∙ bind_from _ _ s (demand_from (free_slot g v c.next_slot) _ s w.first)
    ∙ bind_from _ _ tt (check_from (ltb c.highest last_identity) _ (lt-ltb c.highest last_identity w.narrow))
    ∙ bind_from _ _ (w.rest, w.next) (ap (λ (h : Handle). placed g v c f r (cell n h) (open_place g v f r)) (sym whole) ∙ placed_answers g v f r w.standing.fits w.standing.kind c (cell n p.answer) w.rest w.next w.placed)
    ∙ ap Ok (plan_is p (handle s (suc c.highest)) (store_slot s (new_slot d f (suc c.highest)) ∷ w.rest) (keeps c (suc c.highest) (suc s) w.next) whole
    (w.blocks ∙ ap (λ (i : ℕ). store_slot s (new_slot d f i) ∷ w.rest) w.fresh)
    (w.after ∙ ap (λ (i : ℕ). keeps c i (suc s) w.next) w.fresh))
  where
    v : View
    v = seen g shown

    r : Slot
    r = w.slot

    s : ℕ
    s = p.answer.slot.0

    whole : p.answer ≡ handle p.answer.slot.0 (suc c.highest)
    whole = ap (handle p.answer.slot.0) w.fresh

-- ---- remove

-- only one place is found
found_place : (g : Geometry) (v : View) (f : Handle) (n : Name) (c d : Handle) (a : Finds g v f n c) (b : Finds g v f n d) → (a.leaf ≡ b.leaf) × (a.place ≡ b.place)
found_place g v f n c d a b = elim (cases_order a.leaf b.leaf) [
  | inr (inl l) ↦ absurd (b.first a.leaf a.place c (inl l) a.sound)
  | inr (inr l) ↦ absurd (a.first b.leaf b.place d (inl l) b.sound)
  | inl e ↦ elim (cases_order a.place b.place) [
    | inr (inl l) ↦ absurd (b.first a.leaf a.place c (inr (e, l)) a.sound)
    | inr (inr l) ↦ absurd (a.first b.leaf b.place d (inr (sym e, l)) b.sound)
    | inl q ↦ (e, q)
  ]
]

-- the child has no sound entry
no_entries : (g : Geometry) (v : View) (h : Handle) (r : Slot) → Fits g v h r → ((k q : ℕ) → SoundAt g v h k q → ⊥) → has_entries g v h ≡ false
no_entries g v h r fit hollow = ap (λ (o : Option Slot). some_is o (λ r. some_is (first (sound g v h) (places v h r)) (λ q. true))) (fits_at g v h r fit) ∙ go (first (sound g v h) (places v h r)) refl
  where
    go : (o : Option Place) → first (sound g v h) (places v h r) ≡ o → some_is o (λ q. true) ≡ false
    go None e = refl
    go (Some q) e = let w = first_sound g v h r fit (λ x. true) q e in absurd (hollow q.leaf q.place (w.name, w.leads, w.sound))

pub remove_accepted : RemoveAccepted
unfolding remove named
remove_accepted f n c shown g child p ready w =
    bind_from _ _ tt (check_from (good_name n) _ w.name)
    ∙ bind_from _ _ g ready
    ∙ bind_from _ _ r (changing_answers g v Folder f r w.standing)
    ∙ bind_from _ _ q.0 (demand_from (found g v f r n) _ q.0 q.1)
    ∙ bind_from _ _ tt (check_from (not (has_entries g v (child_of (entry_of g q.0.cell)))) _ (not_from_false _ (ap (has_entries g v) is ∙ no_entries g v child w.found.sound.child w.found.sound.child_fits w.hollow)))
    ∙ ap Ok (plan_is p tt (with_cell v f r q.0 blank_cell ∷ store (suc (child_of (entry_of g q.0.cell)).slot.0) blank ∷ []) c refl
    (w.blocks
    ∙ ap (λ (x : Put). x ∷ store (suc child.slot.0) blank ∷ []) (sym (found_cell g v f r n child q.0 blank_cell w.standing.fits w.found place.0 place.1))
    ∙ ap (λ (h : Handle). with_cell v f r q.0 blank_cell ∷ store (suc h.slot.0) blank ∷ []) (sym is))
    w.after)
  where
    v : View
    v = seen g shown

    r : Slot
    r = w.slot

    q : (q : Place) × (found g v f r n ≡ Some q)
    q = go (found g v f r n) refl
      where
        go : (o : Option Place) → found g v f r n ≡ o → (q : Place) × (found g v f r n ≡ Some q)
        go None e = absurd ((found_is_found g v f r n w.standing.fits).1 e w.found.leaf w.found.place child w.found.sound)
        go (Some q) e = (q, e)

    means : (c : Handle) × (entry_of g q.0.cell ≡ entry n c) × (s : Finds g v f n c) × (q.0.leaf ≡ s.leaf) × (q.0.place ≡ s.place)
    means = (found_is_found g v f r n w.standing.fits).0 q.0 q.1

    is : child_of (entry_of g q.0.cell) ≡ child
    is = ap child_of means.1 ∙ found_once g v f n means.0 child means.2 w.found

    place : (q.0.leaf ≡ w.found.leaf) × (q.0.place ≡ w.found.place)
    place = let s = found_place g v f n means.0 child means.2 w.found in (means.3 ∙ s.0, means.4 ∙ s.1)
