-- The work goes on.
use Rattle.std.proofs.Common.{◌≡◌, ℕ, zero, suc, ◌+◌, ◌<◌, ◌≤◌, Bool, true, false, List, [], length, get_or, Some, Result, sym, refl, ap, ◌∙◌, subst, inl, inr, arith}
use Rattle.std.proofs.Math.Bool.{Bool-set}
use Rattle.std.proofs.Math.Logic.{∥∥₁_elim}
use Rattle.std.proofs.lemmas.Bool.{cases_eq, and_from, eq-eqb, eqb-true}
use Rattle.base.specs.declared.number.SlotNo.{SlotNo}
use Rattle.base.specs.declared.owner.Handle.{Handle}
use Rattle.device.specs.Model.{Model}
use Rattle.device.specs.declared.fault.Fault.{Fault}
use Rattle.layout.specs.Format.{Geometry, Name, Cell, Slot, entry, entry_of, handle}
use Rattle.layout.specs.Sizes.{sizes}
use Rattle.layout.specs.declared.geometry.Geometry.{Geometry as CardGeometry}
use Rattle.rule.specs.Agree.{Shown, View, seen, slot_at, agrees, good, number, count, cells_in, parent_of, climbs, reached}
use Rattle.rule.specs.Meaning.{Fits}
use Rattle.rule.proofs.Steps.{clash, handle_true}
use Rattle.rule.proofs.Walks.{climbs_root, climbs_up, climbs_parts, climbs_within}
use Rattle.rule.proofs.Means.{fits_at, agrees_true, leaf_is, sound_listed, parent_parts, parent_from, up_below}
use Rattle.walk.specs.Still.{Still, shows}
use Rattle.walk.proofs.Stills.{says_then}
use Rattle.tours.specs.Ticks.{Marked, queued, InQueue}
use Rattle.tours.specs.Marks.{MarksReached, Chain, top, below, Entered, Handed, Chained, Grew, Onward, Worked, CellDone, CellsDone, CellsChained, LeafDone, LeavesDone, Done, Underway, Open}
use Rattle.tours.specs.declared.work.Work.{Work}
use Rattle.tours.proofs.Ticks.{ticks_few, queue_room, marked_new, marked_old, queued_old, queued_new}

-- ---- one slot more

pub grew_none : (w : Work) → Grew w w
grew_none w = record { more = λ t h. h; longer = omega arith; front = λ i h. refl; head = refl }

pub grew_then : (w x y : Work) → Grew w x → Grew x y → Grew w y
grew_then w x y p q = record {
  more = λ t h. q.more t (p.more t h);
  longer = (let a = p.longer in let b = q.longer in omega arith);
  front = λ i h. q.front i (let a = p.longer in omega arith) ∙ p.front i h;
  head = q.head ∙ p.head;
}

module _ (g : Geometry) (v : View) (w w' : Work) (at : SlotNo) (chained : Chained g v w) (small : at.0 < 256) (way : Chain g v at.0) where
  pub entered : Entered at w w' → Onward g v w w' × Marked w'.marks at.0
  entered (inl (e, et, em, eq, eh)) = (
    record {
      chained = λ i h. subst (Chain g v) (ap (λ (ss : List SlotNo). queued ss i) (sym eq)) (chained i (omega (arith, et, h)));
      grew = record { more = λ t h. ap (λ (ms : List Bool). get_or ms t false) em ∙ h; longer = omega (arith, et); front = λ i h. ap (λ (ss : List SlotNo). queued ss i) eq; head = eh };
    },
    ap (λ (ms : List Bool). get_or ms at.0 false) em ∙ e,
  )
  entered (inr (free, et, em, eq, eh)) =
      let in_marks : at.0 < length w.marks = omega (arith, w.slots) in
      let room : w.tail < length w.queue = omega (arith, w.room, queue_room w.marks w.tail at.0 w.slots w.counted small free) in
      let front = λ (i : ℕ) (h : i < w.tail). ap (λ (ss : List SlotNo). queued ss i) eq ∙ queued_old w.queue w.tail at i h in
      let last : queued w'.queue w.tail ≡ at.0 = ap (λ (ss : List SlotNo). queued ss w.tail) eq ∙ queued_new w.queue w.tail at room in (
        record {
          chained = λ i h. elim (cases_eq i w.tail) [
            | inl e ↦ subst (Chain g v) (sym (ap (queued w'.queue) e ∙ last)) way
            | inr ne ↦ (let low : i < w.tail = omega (arith, et, h) in subst (Chain g v) (sym (front i low)) (chained i low))
          ];
          grew = record { more = λ t h. ap (λ (ms : List Bool). get_or ms t false) em ∙ marked_old w.marks at.0 in_marks t h; longer = omega (arith, et); front = front; head = eh };
        },
        ap (λ (ms : List Bool). get_or ms at.0 false) em ∙ marked_new w.marks at.0 in_marks,
      )

-- ---- after reads

module _ (P : Shown → Type 0) (m k : Model) (s : Still m k) where
  pub moved : P m.shown → P k.shown
  moved h = subst P (sym s.kept.shown) h

  pub moved_back : P k.shown → P m.shown
  moved_back h = subst P s.kept.shown h

pub onward_none : (g : Geometry) (v : View) (w : Work) → Chained g v w → Onward g v w w
onward_none g v w h = record { chained = h; grew = grew_none w }

pub onward_then : (z : Geometry) (m k : Model) (w x y : Work) → Still m k → Onward z (seen z m.shown) w x → Onward z (seen z k.shown) x y → Onward z (seen z m.shown) w y
onward_then z m k w x y s p q = record {
  chained = moved_back (λ (sh : Shown). Chained z (seen z sh) y) m k s q.chained;
  grew = grew_then w x y p.grew q.grew;
}

-- the work of a callee
pub worked_then : (g : CardGeometry) (r : Result (Unit {0}) Fault) (Q Q' : List Bool → Type 0) (m k n : Model) (w w' : Work) →
    Still m k → (Q w'.marks → Q' w'.marks) → Worked g r Q k n w w' → Worked g r Q' m n w w'
worked_then g r Q Q' m k n w w' s q h =
    says_then g r (λ _. Onward (sizes g) (shows g k) w w' × Q w'.marks) (λ _. Onward (sizes g) (shows g m) w w' × Q' w'.marks) m k n s
    (λ _ x. (moved_back (λ (sh : Shown). Onward (sizes g) (seen (sizes g) sh) w w') m k s x.0, q x.1)) h

-- ---- entries and leaves

-- one more cell, one more leaf
pub cells_more : (z : Geometry) (m l : Model) (f : Handle) (es : List Cell) (k : ℕ) (ms ms' : List Bool) → Still m l →
    ((t : ℕ) → Marked ms t → Marked ms' t) → CellsDone z (seen z m.shown) f es k ms → CellDone z (seen z l.shown) f (get_or es k []) ms' → CellsDone z (seen z m.shown) f es (k + 1) ms'
cells_more z m l f es k ms ms' s more done here j h n c e a = elim (cases_eq j k) [
  | inl q ↦ moved_back (λ (sh : Shown). CellDone z (seen z sh) f (get_or es k []) ms') m l s here n c (ap (λ (i : ℕ). entry_of z (get_or es i [])) (sym q) ∙ e) a
  | inr ne ↦ more c.slot.0 (done j (omega arith) n c e a)
]

pub leaves_more : (z : Geometry) (m l : Model) (f : Handle) (r : Slot) (k : ℕ) (ms ms' : List Bool) → Still m l →
    ((t : ℕ) → Marked ms t → Marked ms' t) → LeavesDone z (seen z m.shown) f r k ms → LeafDone z (seen z l.shown) f r k ms' → LeavesDone z (seen z m.shown) f r (k + 1) ms'
leaves_more z m l f r k ms ms' s more done here j h = elim (cases_eq j k) [
  | inl q ↦ subst (λ (i : ℕ). LeafDone z (seen z m.shown) f r i ms') (sym q) (moved_back (λ (sh : Shown). LeafDone z (seen z sh) f r k ms') m l s here)
  | inr ne ↦ (λ fine i low n c e a. more c.slot.0 (done j (omega arith) fine i low n c e a))
]

module _ (g : Geometry) (v : View) (f : Handle) where
  pub one_done : (e : Cell) (n : Name) (c : Handle) (ms : List Bool) → entry n c ≡ entry_of g e → Marked ms c.slot.0 → CellDone g v f e ms
  one_done e n c ms q h n' c' q' a = let same : c ≡ c' = cc in subst (λ (x : Handle). Marked ms x.slot.0) same h

  module _ (r : Slot) where
    -- what a good leaf of a folder names, a chain leads to
    pub leaf_chained : (k : ℕ) → Open g v f r → good v f r k ≡ true → CellsChained g v f (cells_in (v (number r k)))
    leaf_chained k o fine j low n c e a =
        let d = leaf_is v f r k j fine low in
        let w = agrees_true g v f (entry n c) a in
        let same : w.leads ≡ c = (let q = w.is in cc) in
        below {f = f} {c = c} {k = k} {p = j} {n = n} o.chained (record {
          slot = r;
          fits = o.fits;
          kind = o.kind;
          below = d.below;
          cells = d.cells;
          body = d.body;
          here = ap (entry_of g) (sym d.here) ∙ e;
          child = w.child;
          child_fits = subst (λ (x : Handle). Fits g v x w.child) same w.holds;
          parent = w.parent;
        })

    pub leaf_done : (k : ℕ) (es : List Cell) (ms : List Bool) → es ≡ cells_in (v (number r k)) → CellsDone g v f es (length es) ms → LeafDone g v f r k ms
    leaf_done k es ms q done fine = subst (λ (x : List Cell). CellsDone g v f x (length x) ms) q done

-- ---- the folder in a slot

module _ (g : Geometry) (v : View) (s : ℕ) where
  slot_of : (r : Slot) → slot_at g v s ≡ Some r → (f : Handle) (q : Slot) → f.slot.0 ≡ s → Fits g v f q → q ≡ r
  slot_of r e f q fs fit = let a = fits_at g v f q fit in let b = ap (slot_at g v) fs in (cc)

  pub done_folder : (r : Slot) (ms : List Bool) → slot_at g v s ≡ Some r → LeavesDone g v (handle s r.identity) r (count r) ms → Done g v s ms
  done_folder r ms e done f c k p n fs snd =
      let q = slot_of r e f snd.slot fs snd.fits in
      let fit : Fits g v f r = subst (Fits g v f) q snd.fits in
      let l = sound_listed g v f r k p n c fit snd in
      let own : f ≡ handle s r.identity = handle_true f (handle s r.identity) (and_from _ _ (eq-eqb f.slot.0 s fs) (eq-eqb f.identity.0 r.identity (sym fit.same))) in
      subst (λ (h : Handle). LeavesDone g v h r (count r) ms) (sym own) done k l.below l.fine p l.inside n c l.here (sym (ap (agrees g v f) l.here) ∙ l.agreed)

-- ---- the work as a whole

pub begun : (g : Geometry) (v : View) (w x : Work) → w.tail ≡ 0 → w.head ≡ 0 → Entered (record { 0 = 0 }) w x → Underway g v x
begun g v w x et eh h =
    let q = entered g v w x (record { 0 = 0 }) (λ i l. absurd (omega arith)) (omega arith) top h in
    record { chained = q.0.chained; root = q.1; done = λ i l. absurd (omega (arith, q.0.grew.head)) }

pub few : (w : Work) → w.tail ≤ 256
few w = omega (arith, ticks_few w.marks, w.slots, w.counted)

-- one slot is handed out
module _ (z : Geometry) (w x : Work) (s : SlotNo) (out : Handed (Some s) w x) where
  same_queue : (i : ℕ) → queued x.queue i ≡ queued w.queue i
  same_queue i = ap (λ (ss : List SlotNo). queued ss i) out.1

  -- and its children are marked
  pub next_done : (m k : Model) (y : Work) → Still m k → Underway z (seen z m.shown) w → Onward z (seen z k.shown) x y → Done z (seen z k.shown) s.0 y.marks → Underway z (seen z m.shown) y
  next_done m k y st u on now = record {
    chained = moved_back (λ (sh : Shown). Chained z (seen z sh) y) m k st on.chained;
    root = more 0 u.root;
    done = λ i l f c kk p n fs snd. elim (cases_eq i w.head) [
      | inl e ↦ moved_back (λ (sh : Shown). Done z (seen z sh) s.0 y.marks) m k st now f c kk p n (fs ∙ ap (queued y.queue) e ∙ front w.head out.3.0 ∙ sym out.3.1) snd
      | inr ne ↦ (let low : i < w.head = omega (arith, on.grew.head, out.3.2) in more c.slot.0 (u.done i low f c kk p n (fs ∙ front i (omega (arith, out.3.0))) snd))
    ];
  }
    where
      more : (t : ℕ) → Marked w.marks t → Marked y.marks t
      more t h = on.grew.more t (ap (λ (ms : List Bool). get_or ms t false) out.0 ∙ h)

      front : (i : ℕ) → i < w.tail → queued y.queue i ≡ queued w.queue i
      front i l = on.grew.front i (omega (arith, out.2)) ∙ same_queue i

-- a chain is what it is to be reached
module _ (g : Geometry) (v : View) where
  chain_climbs : (s : ℕ) → Chain g v s → (m : ℕ) × (climbs (parent_of g v) m s ≡ true)
  chain_climbs s top = (0, refl)
  chain_climbs s (below {f} {c} {k} {p} {n} way snd) =
      let w = chain_climbs f.slot.0 way in
      (suc w.0, climbs_up (parent_of g v) w.0 c.slot.0 f.slot.0 (parent_from g v f c k p n snd) w.1)

  chain_reached : (s : ℕ) → Chain g v s → reached g v s ≡ true
  chain_reached s top = climbs_root (parent_of g v) g.slots 0 refl
  chain_reached s (below {f} {c} {k} {p} {n} way snd) =
      let w = chain_climbs f.slot.0 way in
      climbs_within (parent_of g v) g.slots (up_below g v) (suc w.0) c.slot.0 snd.child_fits.inside
      (climbs_up (parent_of g v) w.0 c.slot.0 f.slot.0 (parent_from g v f c k p n snd) w.1)

  climbs_chain : (m s : ℕ) → climbs (parent_of g v) m s ≡ true → Chain g v s
  climbs_chain zero s h = subst (Chain g v) (sym (eqb-true s 0 h)) top
  climbs_chain (suc m) s h = elim (climbs_parts (parent_of g v) m s h) [
    | inl e ↦ subst (Chain g v) (sym e) top
    | inr w ↦ (let q = parent_parts g v s w.0 w.1 in below {f = q.slot.parent} {c = handle s q.slot.identity} (subst (Chain g v) (sym q.is) (climbs_chain m w.0 w.2)) q.sound)
  ]

pub all_marked : (g : Geometry) (v : View) (w : Work) → Underway g v w → w.head ≡ w.tail → MarksReached g v w.marks
all_marked g v w u out s = go (get_or w.marks s false) (reached g v s) refl refl
  where
    there : Marked w.marks s → reached g v s ≡ true
    there k = ∥∥₁_elim (w.listed s k) (Bool-set _ _) (λ (q : InQueue w.queue w.tail s). chain_reached g v s (subst (Chain g v) q.is (u.chained q.place q.low)))

    complete : (t : ℕ) → Chain g v t → Marked w.marks t
    complete t top = u.root
    complete t (below {f} {c} {k} {p} {n = x} way snd) =
        ∥∥₁_elim (w.listed f.slot.0 (complete f.slot.0 way)) (Bool-set _ _) (λ (q : InQueue w.queue w.tail f.slot.0). u.done q.place (omega (arith, q.low, out)) f c k p x (sym q.is) snd)

    here : reached g v s ≡ true → Marked w.marks s
    here r = complete s (climbs_chain g v g.slots s r)

    go : (a b : Bool) → get_or w.marks s false ≡ a → reached g v s ≡ b → get_or w.marks s false ≡ reached g v s
    go true b ea eb = ea ∙ sym (there ea)
    go false true ea eb = clash (sym ea ∙ here eb)
    go false false ea eb = ea ∙ sym eb
