-- Shorten and remove: what leaves.
use Rattle.std.proofs.Common.{◌≡◌, ℕ, zero, suc, ◌+◌, ◌-◌, ◌<◌, ◌≤◌, Bool, true, false, cond, not, ◌&&◌, ◌||◌, eqb, ◌⊎◌, List, [], ◌∷◌, get_or, set, Some, Ok, sym, refl, ap, ◌∙◌, subst, inl, inr, arith, length-take}
use Rattle.std.proofs.lemmas.Bool.{cases_eq, and_from, and_parts, or_cases, or_left, or_right, eqb-true, eq-eqb, cond-true}
use Rattle.std.proofs.lemmas.List.{get_or-take}
use Rattle.base.specs.declared.owner.Kind.{Kind}
use Rattle.base.specs.declared.owner.Kind.TheVariants.{Folder}
use Rattle.base.specs.declared.owner.Handle.{Handle}
use Rattle.base.specs.declared.owner.Back.{Back}
use Rattle.device.specs.Model.{put}
use Rattle.device.specs.declared.put.Put.{Put}
use Rattle.device.specs.Effect.{puts}
use Rattle.layout.specs.Format.{Name, Cell, Geometry, handle, back, Slot, Content, blank, slotted, folder_body, entry, entry_of, blank_cell, encode}
use Rattle.rule.specs.Agree.{Shown, View, seen, slot_at, count, number, good, Place, found, from, reached, held}
use Rattle.rule.specs.Card.{Card, Plan}
use Rattle.rule.specs.Reading.{child_of}
use Rattle.rule.specs.Changing.{store_slot, cut_to, remove}
use Rattle.rule.specs.Meaning.{Fits, Body, Sound, Reached, Held, Rooted}
use Rattle.rule.specs.Calls.{SoundAt, Shortens, Removes}
use Rattle.rule.proofs.Means.{fits_at, same_slot, good_parts, good_from, reached_is_reached, held_is_held, found_is_found}
use Rattle.rule.proofs.Answered.{found_once}
use Rattle.history.proofs.Parsed.{blank_entry, folder_cells, entry_child, no_such_entry}
use Rattle.moves.specs.Tied.{Tied}
use Rattle.moves.specs.Moves as specs
use Rattle.moves.specs.Moves.{Marked, good_among, ShortenMoves, RemoveMoves}
use Rattle.moves.proofs.Views.{upd, upd_here, upd_else, Framed, Nothing}
use Rattle.moves.proofs.Steps.{cell_written}
use Rattle.moves.proofs.Slots.{Longer, reached_up, reached_down, held_up, held_down, blank_framed, no_fit, sound_unblank, reached_blank, reached_unblank, held_blank, held_unblank}
use Rattle.moves.proofs.Lands.{seen_put, rooted, framed, cut_lands}
use Rattle.moves.proofs.Stays.{shorten_tied, remove_tied, above_root, hole_lands, gone_lands, shortens, removes}
use Rattle.moves.proofs.Gained.{or_test, some_same, no_folder, Gained, NoneTaken, nothing_gained, but_test, reached_same, one_name, slot_framed}

-- ---- a good leaf from some leaf on, as a test

module _ (v : View) (h : Handle) (r : Slot) (b : ℕ) where
  pub among_true : (i m : ℕ) → good_among v h r b (from i m) ≡ true → (k : ℕ) × (i ≤ k) × (k < i + m) × (good v h r k ≡ true) × (b ≡ number r k)
  among_true i zero e = let z : ◌≡◌ {A = ℕ} 0 1 = cc in absurd (omega arith)
  among_true i (suc m) e = elim (or_cases (good v h r i && eqb b (number r i)) (good_among v h r b (from (suc i) m)) e) [
    | inl q ↦ (let w = and_parts (good v h r i) (eqb b (number r i)) q in (i, omega arith, omega arith, w.0, eqb-true b (number r i) w.1))
    | inr q ↦ (let w = among_true (suc i) m q in (w.0, (let a = w.1 in omega arith), (let a = w.2 in omega arith), w.3, w.4))
  ]

  pub among_from : (i m k : ℕ) → i ≤ k → k < i + m → good v h r k ≡ true → b ≡ number r k → good_among v h r b (from i m) ≡ true
  among_from i zero k up low d e = absurd (omega arith)
  among_from i (suc m) k up low d e = elim (cases_eq k i) [
    | inl q ↦ or_left (good v h r i && eqb b (number r i)) (good_among v h r b (from (suc i) m))
        (subst (λ (j : ℕ). (good v h r j && eqb b (number r j)) ≡ true) q (and_from (good v h r k) (eqb b (number r k)) d (eq-eqb b (number r k) e)))
    | inr ne ↦ or_right (good v h r i && eqb b (number r i)) (good_among v h r b (from (suc i) m)) (among_from (suc i) m k (omega arith) (omega arith) d e)
  ]

-- one leaf more, at the end
pub among_more : (v : View) (h : Handle) (r : Slot) (b i m : ℕ) → good_among v h r b (from i (suc m)) ≡ (good_among v h r b (from i m) || (good v h r (i + m) && eqb b (number r (i + m))))
among_more v h r b i m = or_test (good_among v h r b (from i (suc m))) (good_among v h r b (from i m)) (good v h r (i + m) && eqb b (number r (i + m)))
    (λ e. let w = among_true v h r b i (suc m) e in elim (cases_eq w.0 (i + m)) [
      | inl q ↦ inr (subst (λ (k : ℕ). (good v h r k && eqb b (number r k)) ≡ true) q (and_from (good v h r w.0) (eqb b (number r w.0)) w.3 (eq-eqb b (number r w.0) w.4)))
      | inr ne ↦ inl (among_from v h r b i m w.0 w.1 (let l = w.2 in omega arith) w.3 w.4)
    ])
    (λ e. let w = among_true v h r b i m e in among_from v h r b i (suc m) w.0 w.1 (let l = w.2 in omega arith) w.3 w.4)
    (λ e. let w = and_parts (good v h r (i + m)) (eqb b (number r (i + m))) e in among_from v h r b i (suc m) (i + m) (omega arith) (omega arith) w.0 (eqb-true b (number r (i + m)) w.1))

-- such a leaf names h
pub good_body : (g : Geometry) (v : View) (h : Handle) (r : Slot) (k b : ℕ) → Fits g v h r → good v h r k ≡ true → b ≡ number r k → (d : Kind) × Body d (back h k) (v b)
good_body g v h r k b f e at =
    let w = good_parts g v h r k f e in
    let same : w.slot ≡ r = same_slot g v h w.slot r w.fits f in
    (w.slot.kind, subst (λ (i : ℕ). Body w.slot.kind (back h k) (v i)) (ap (λ (t : Slot). number t k) same ∙ sym at) w.body)

-- ---- shorten

module _ (g : Geometry) (c : Card) (shown : Shown) (tied : Tied g c shown) (h : Handle) (n : ℕ) (p : Plan (Unit {0})) (w : Shortens g (seen g shown) c h n p) where
  abbrev v : View
  v = seen g shown

  abbrev r : Slot
  r = w.slot

  abbrev after : View
  after = seen g (puts shown p.puts)

  fit : Fits g v h r
  fit = w.standing.fits

  abbrev Result : Type 0
  Result = Marked g after (reached g v) (λ b. held g v b && not (specs.good_from v h r n b))

  and_none : (x y : Bool) → y ≡ false → x ≡ (x && not y)
  and_none true y e = ap not (sym e)
  and_none false y e = refl

  -- nothing is written
  nothing_left : n ≡ count r → p.puts ≡ [] → Result
  nothing_left e q =
      let is : after ≡ v = ap (λ (l : List Put). seen g (puts shown l)) q in
      let z : count r - n ≡ 0 = omega arith in
      record {
        reached = λ s. ap (λ (u : View). reached g u s) is;
        held = λ b. ap (λ (u : View). held g u b) is ∙ and_none (held g v b) (specs.good_from v h r n b) (ap (λ (m : ℕ). good_among v h r b (from n m)) z);
      }

  -- the slot is cut
  module _ (less : n < count r) (blocks : p.puts ≡ store_slot h.slot.0 (cut_to r n) ∷ []) where
    abbrev cut : View
    cut = upd v (suc h.slot.0) (slotted (cut_to r n))

    pub cut_seen : after ≡ cut
    cut_seen = ap (λ (l : List Put). seen g (puts shown l)) blocks
        ∙ seen_put g shown (suc h.slot.0) (encode (slotted (cut_to r n))) (slotted (cut_to r n)) (cut_lands g c shown tied h r n fit).parses

    cut_count : count (cut_to r n) ≡ n
    cut_count = length-take n r.numbers ∙ omega arith

    cut_number : (k : ℕ) → k < count (cut_to r n) → number r k ≡ number (cut_to r n) k
    cut_number k l = sym (get_or-take n r.numbers k 0 (let e = cut_count in omega arith))

    others : (i : ℕ) → (i ≡ suc h.slot.0 → ⊥) → v i ≡ cut i
    others i ne = sym (upd_else v (suc h.slot.0) (slotted (cut_to r n)) i ne)

    cut_fits : Fits g cut h (cut_to r n)
    cut_fits = record { inside = fit.inside; holds = upd_here v (suc h.slot.0) (slotted (cut_to r n)); same = fit.same }

    longer : Longer (cut_to r n) r
    longer = record { own = refl; parent = refl; kind = refl; fewer = (let e = cut_count in omega arith); numbers = cut_number }

    cut_framed : Framed g cut
    cut_framed = slot_framed g v h.slot.0 (cut_to r n) (framed g c shown tied) (λ k l. subst (λ (i : ℕ). g.slots < i) (cut_number k l) (framed g c shown tied h r k fit (let e = cut_count in omega arith)))

    bare : (k i : ℕ) (es : List Cell) (m : Name) (a : Handle) → count (cut_to r n) ≤ k → k < count r → (cut_to r n).kind ≡ Folder → cut (number r k) ≡ folder_body (back h k) es → entry_of g (get_or es i []) ≡ entry m a → ⊥
    bare k i es m a up low d e z = no_folder w.standing.kind d

    was_rooted : Rooted g v
    was_rooted = rooted g c shown tied

    is_rooted : Rooted g cut
    is_rooted = subst (Rooted g) cut_seen (rooted g p.card (puts shown p.puts) (shorten_tied g c shown tied h n p w))

    up : (x : ℕ) → Held g cut x → Held g v x
    up = held_up g cut v h (cut_to r n) r others cut_fits fit.holds longer cut_framed (framed g c shown tied) bare

    -- what is held after is no leaf that was cut off
    kept : (x : ℕ) → Held g cut x → specs.good_from v h r n x ≡ true → ⊥
    kept x a e =
        let k = among_true v h r x n (count r - n) e in
        let b = good_body g v h r k.0 x fit k.3 k.4 in
        let far : g.slots < x = subst (λ (i : ℕ). g.slots < i) a.here (cut_framed a.owner a.good.slot a.leaf a.good.fits a.good.below) in
        let there : v x ≡ cut x = others x (λ q. let l = fit.inside in omega arith) in
        let mine : Body a.good.slot.kind (back a.owner a.leaf) (v x) = subst (Body a.good.slot.kind (back a.owner a.leaf)) (ap cut a.here ∙ sym there) a.good.body in
        let same : back a.owner a.leaf ≡ back h k.0 = one_name a.good.slot.kind b.0 (back a.owner a.leaf) (back h k.0) (v x) mine b.1 in
        let slot : a.good.slot ≡ cut_to r n = same_slot g cut h a.good.slot (cut_to r n) (subst (λ (o : Back). Fits g cut o.owner a.good.slot) same a.good.fits) cut_fits in
        let leaf : a.leaf ≡ k.0 = ap (λ (o : Back). o.leaf.0) same in
        let num : count a.good.slot ≡ n = ap count slot ∙ cut_count in
        omega (arith, leaf, num, a.good.below, k.1)

    left : (x : ℕ) → Held g v x → Held g cut x ⊎ (specs.good_from v h r n x ≡ true)
    left x a = elim (held_down g cut v h (cut_to r n) r others cut_fits fit.holds longer cut_framed (framed g c shown tied) bare x a) [
      | inl z ↦ inl z
      | inr z ↦ inr (among_from v h r x n (count r - n) z.leaf (let a = z.from in let e = cut_count in omega arith) (let l = z.below in omega arith)
          (good_from v h r z.leaf z.below (subst (Body r.kind (back h z.leaf)) (sym (others (number r z.leaf) (λ q. let l = fit.inside in let m = framed g c shown tied h r z.leaf fit z.below in omega arith) ∙ ap cut z.here)) z.body))
          (sym z.here))
    ]

    cut_marks : Marked g cut (reached g v) (λ b. held g v b && not (specs.good_from v h r n b))
    cut_marks = record {
      reached = reached_same g v cut was_rooted is_rooted
          (reached_down g cut v h (cut_to r n) r others cut_fits fit.holds longer cut_framed (framed g c shown tied) bare)
          (reached_up g cut v h (cut_to r n) r others cut_fits fit.holds longer cut_framed (framed g c shown tied) bare);
      held = λ x. but_test (held g cut x) (held g v x) (specs.good_from v h r n x)
          (λ e. let a = (held_is_held g cut is_rooted x).0 e in ((held_is_held g v was_rooted x).1 (up x a), kept x a))
          (λ e. elim (left x ((held_is_held g v was_rooted x).0 e)) [ inl z ↦ inl ((held_is_held g cut is_rooted x).1 z) | inr z ↦ inr z ]);
    }

  shortened : Result
  shortened = elim w.blocks [
    | inl q ↦ nothing_left q.0 q.1
    | inr q ↦ subst (λ (u : View). Marked g u (reached g v) (λ b. held g v b && not (specs.good_from v h r n b))) (sym (cut_seen q.0 q.1)) (cut_marks q.0 q.1)
  ]

pub shorten_moves : ShortenMoves
shorten_moves g c shown h n p r tied e at =
    let w = shortens g c shown tied h n p e in
    let same : w.slot ≡ r = some_same (sym (fits_at g (seen g shown) h w.slot w.standing.fits) ∙ at) in
    subst (λ (t : Slot). Marked g (seen g (puts shown p.puts)) (reached g (seen g shown)) (λ b. held g (seen g shown) b && not (specs.good_from (seen g shown) h t n b))) same
    (shortened g c shown tied h n p w)

-- ---- remove

swap_upd : (v : View) (b i : ℕ) (y z : Content) → (b ≡ i → ⊥) → upd (upd v b y) i z ≡ upd (upd v i z) b y
swap_upd v b i y z ne = λ j n. at n j
  where
    at : (n : ℕ) → upd (upd v b y) i z n ≡ upd (upd v i z) b y n
    at n = elim (cases_eq n b) [
      | inl e ↦ upd_else (upd v b y) i z n (λ q. ne (sym e ∙ q)) ∙ cond-true (eqb n b) y (v n) (eq-eqb n b e) ∙ sym (cond-true (eqb n b) y (upd v i z n) (eq-eqb n b e))
      | inr q ↦ ap (λ (x : Content). cond (eqb n i) z x) (upd_else v b y n q) ∙ sym (upd_else (upd v i z) b y n q)
    ]

-- one place has one entry
one_entry : (g : Geometry) (v : View) (f a b : Handle) (k p : ℕ) (m n : Name) → Sound g v f k p m a → Sound g v f k p n b → a ≡ b
one_entry g v f a b k p m n s t =
    let slot : s.slot ≡ t.slot = same_slot g v f s.slot t.slot s.fits t.fits in
    let cells : s.cells ≡ t.cells = folder_cells (sym s.body ∙ ap (λ (x : Slot). v (number x k)) slot ∙ t.body) in
    entry_child (sym s.here ∙ ap (λ (l : List Cell). entry_of g (get_or l p [])) cells ∙ t.here)

module _ (g : Geometry) (c : Card) (shown : Shown) (tied : Tied g c shown) (f : Handle) (n : Name) (a : Handle) (p : Plan (Unit {0})) (w : Removes g (seen g shown) c f n a p) where
  abbrev u : View
  u = seen g shown

  abbrev later : View
  later = seen g (puts shown p.puts)

  abbrev s : Sound g u f w.found.leaf w.found.place n a
  s = w.found.sound

  abbrev t : Slot
  t = w.found.sound.child

  abbrev b : ℕ
  b = number w.found.sound.slot w.found.leaf

  abbrev hole : Content
  hole = folder_body (back f w.found.leaf) (set w.found.sound.cells w.found.place blank_cell)

  -- the child's slot is blanked
  abbrev v1 : View
  v1 = upd u (suc a.slot.0) blank

  above : 0 < a.slot.0
  above = above_root g c shown tied f n a p w

  behind : g.slots < b
  behind = framed g c shown tied f s.slot w.found.leaf s.fits s.below

  elsewhere : b ≡ suc a.slot.0 → ⊥
  elsewhere e = let l = s.child_fits.inside in let m = behind in omega arith

  framed1 : Framed g v1
  framed1 = blank_framed g u a t s.child_fits above w.hollow (framed g c shown tied)

  stood1 : v1 b ≡ folder_body (back f w.found.leaf) s.cells
  stood1 = upd_else u (suc a.slot.0) blank b elsewhere ∙ s.body

  -- the entry is not sound any more
  unsound1 : SoundAt g v1 f w.found.leaf w.found.place → ⊥
  unsound1 z =
      let same : z.1 ≡ a = one_entry g u f z.1 a w.found.leaf w.found.place z.0 n (sound_unblank g u a t s.child_fits above w.hollow (framed g c shown tied) f z.1 w.found.leaf w.found.place z.0 z.2) s in
      no_fit g u a t s.child_fits above w.hollow (framed g c shown tied) z.1 z.2.child z.2.child_fits (ap (λ (h : Handle). suc h.slot.0) same)

  pub gone_seen : later ≡ upd v1 b hole
  gone_seen =
      ap (λ (l : List Put). seen g (puts shown l)) w.blocks
      ∙ seen_put g (put shown b (encode hole)) (suc a.slot.0) (encode blank) blank (gone_lands g c shown tied f n a p w).parses
      ∙ ap (λ (x : View). upd x (suc a.slot.0) blank) (seen_put g shown b (encode hole) hole (hole_lands g c shown tied f n a p w).parses)
      ∙ swap_upd u b (suc a.slot.0) hole blank elsewhere

  -- then nothing moves
  still : Gained g v1 later Nothing NoneTaken
  still = subst (λ (x : View). Gained g v1 x Nothing NoneTaken) (sym gone_seen)
      (nothing_gained g v1 (upd v1 b hole) (cell_written g v1 b f w.found.leaf s.cells w.found.place blank_cell behind framed1 stood1 unsound1 Nothing (λ m x e. no_such_entry (blank_entry g) e) (λ h j x y. x)))

  root_before : Rooted g u
  root_before = rooted g c shown tied

  root_after : Rooted g later
  root_after = rooted g p.card (puts shown p.puts) (remove_tied g c shown tied f n a p w)

  off : (h : Handle) → Reached g later h → Reached g u h × (h.slot.0 ≡ a.slot.0 → ⊥)
  off h r = elim (still.back h r) [ inl z ↦ reached_unblank g u a t s.child_fits above w.hollow (framed g c shown tied) h z | inr z ↦ absurd z ]

  on : (h : Handle) → Reached g u h → Reached g later h ⊎ (h ≡ a)
  on h r = elim (reached_blank g u a t s.child_fits above w.hollow (framed g c shown tied) h r) [ inl z ↦ inl (still.on h z) | inr z ↦ inr z ]

  slots_left : (x : ℕ) → reached g later x ≡ (reached g u x && not (eqb x a.slot.0))
  slots_left x = but_test (reached g later x) (reached g u x) (eqb x a.slot.0)
      (λ e. let r = (reached_is_reached g later root_after x).0 e in let z = off (handle x r.0) r.1 in ((reached_is_reached g u root_before x).1 (r.0, z.0), λ q. z.1 (eqb-true x a.slot.0 q)))
      (λ e. let r = (reached_is_reached g u root_before x).0 e in elim (on (handle x r.0) r.1) [
        | inl z ↦ inl ((reached_is_reached g later root_after x).1 (r.0, z))
        | inr z ↦ inr (eq-eqb x a.slot.0 (ap (λ (h : Handle). h.slot.0) z))
      ])

  held_off : (x : ℕ) → Held g later x → Held g u x × (specs.good_from u a t 0 x ≡ true → ⊥)
  held_off x y = elim (still.held_back x y) [
    | inr z ↦ absurd z
    | inl z ↦
        (let o = held_unblank g u a t s.child_fits above w.hollow (framed g c shown tied) x z in
        let d = o.0 in (
          d,
          λ e.
              let k = among_true u a t x 0 (count t - 0) e in
              let m = good_body g u a t k.0 x s.child_fits k.3 k.4 in
              let same : back d.owner d.leaf ≡ back a k.0 = one_name d.good.slot.kind m.0 (back d.owner d.leaf) (back a k.0) (u x)
              (subst (λ (i : ℕ). Body d.good.slot.kind (back d.owner d.leaf) (u i)) d.here d.good.body) m.1 in
              o.1 (ap (λ (q : Back). q.owner.slot.0) same),
        ))
  ]

  held_keeps : (x : ℕ) → Held g u x → Held g later x ⊎ (specs.good_from u a t 0 x ≡ true)
  held_keeps x y = elim (held_blank g u a t s.child_fits above w.hollow (framed g c shown tied) x y) [
    | inl z ↦ inl (still.held_on x z)
    | inr z ↦
        (let same : z.1.slot ≡ t = same_slot g u a z.1.slot t z.1.fits s.child_fits in
        let low : z.0 < count t = subst (λ (i : Slot). z.0 < count i) same z.1.below in
        inr (among_from u a t x 0 (count t - 0) z.0 (omega arith) (omega arith)
        (subst (λ (i : Slot). good u a i z.0 ≡ true) same (good_from u a z.1.slot z.0 z.1.below z.1.body))
        (sym z.2 ∙ ap (λ (i : Slot). number i z.0) same)))
  ]

  bodies_left : (x : ℕ) → held g later x ≡ (held g u x && not (specs.good_from u a t 0 x))
  bodies_left x = but_test (held g later x) (held g u x) (specs.good_from u a t 0 x)
      (λ e. let z = held_off x ((held_is_held g later root_after x).0 e) in ((held_is_held g u root_before x).1 z.0, z.1))
      (λ e. elim (held_keeps x ((held_is_held g u root_before x).0 e)) [ inl z ↦ inl ((held_is_held g later root_after x).1 z) | inr z ↦ inr z ])

  removed : Marked g later (λ x. reached g u x && not (eqb x a.slot.0)) (λ x. held g u x && not (specs.good_from u a t 0 x))
  removed = record { reached = slots_left; held = bodies_left }

-- the child that is removed is the one that find takes
pub removes_child : (g : Geometry) (c : Card) (shown : Shown) (f : Handle) (n : Name) (p : Plan (Unit {0})) (r : Slot) (q : Place) (a : Handle) → Tied g c shown → remove f n c shown ≡ Ok p →
    slot_at g (seen g shown) f.slot.0 ≡ Some r → found g (seen g shown) f r n ≡ Some q → child_of (entry_of g q.cell) ≡ a → Removes g (seen g shown) c f n a p
removes_child g c shown f n p r q a tied e at is child = own (removes g c shown tied f n p e)
  where
    v : View
    v = seen g shown

    own : (w : (h : Handle) × Removes g v c f n h p) → Removes g v c f n a p
    own (h, w) =
        let fit : w.slot ≡ r = some_same (sym (fits_at g v f w.slot w.standing.fits) ∙ at) in
        let m = (found_is_found g v f r n (subst (Fits g v f) fit w.standing.fits)).0 q is in
        let same : h ≡ a = found_once g v f n h m.0 w.found m.2 ∙ sym (ap child_of m.1) ∙ child in
        subst (λ (x : Handle). Removes g v c f n x p) same w

pub remove_moves : RemoveMoves
remove_moves g c shown f n p r q a t tied e at is child slot =
    let w = removes_child g c shown f n p r q a tied e at is child in
    let same : w.found.sound.child ≡ t = some_same (sym (fits_at g (seen g shown) a w.found.sound.child w.found.sound.child_fits) ∙ slot) in
    subst (λ (y : Slot). Marked g (seen g (puts shown p.puts)) (λ s. reached g (seen g shown) s && not (eqb s a.slot.0)) (λ b. held g (seen g shown) b && not (specs.good_from (seen g shown) a y 0 b))) same
    (removed g c shown tied f n a p w)
