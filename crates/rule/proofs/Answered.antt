-- What opening, surveying and the reading calls answer is the relation.
use Rattle.std.proofs.Common.{◌≡◌, ℕ, zero, suc, ◌+◌, ◌-◌, ◌<◌, ◌≤◌, max, Bool, true, false, cond, ◌&&◌, eqb, ltb, leb, ◌⊎◌, List, [], ◌∷◌, get_or, Some, None, Ok, Err, Option, Result, sym, refl, ap, ◌∙◌, subst, inl, inr, arith}
use Rattle.std.proofs.lemmas.Bool.{and_parts, and_from, eqb-true, eq-eqb, leb-true, le-leb, ltb-true, lt-ltb, cases_order, cases_lt}
use Rattle.base.specs.declared.owner.Kind.{Kind}
use Rattle.base.specs.declared.owner.Kind.TheVariants.{File, Folder}
use Rattle.base.specs.declared.owner.Handle.{Handle}
use Rattle.base.specs.declared.refusal.Refusal.{Refusal}
use Rattle.base.specs.declared.refusal.Refusal.TheVariants.{NoSuchName}
use Rattle.device.specs.declared.put.Put.{Put}
use Rattle.layout.specs.Format.{Name, Cell, Geometry, back, Slot, Content, blank, cover, slotted, file_body, folder_body, ill_formed, entry, entry_of, good_name, in_limits, cell, cover_of}
use Rattle.layout.specs.Identities.{told}
use Rattle.rule.specs.Agree.{Shown, View, seen, same_kind, same_handle, slot_in, slot_at, from, count, number, good, Place, found, root}
use Rattle.rule.specs.Check.{Answer, ◌>>=◌, check, demand}
use Rattle.rule.specs.Card.{Ready, is_root, geometry_in, opening, opened, Surveying, examined, survey_step, highest_of, ended_by, surveyed}
use Rattle.rule.specs.Reading.{fits, kind_is, reading, child_of, step, named, find, components, at_component, all_named, walk, path, status, bytes_in, read}
use Rattle.rule.specs.Meaning.{Fits, Finds}
use Rattle.rule.specs.Calls.{InPlace, OnNewLeaf, Replaces, Appends}
use Rattle.rule.specs.Readings.{Opens, OpeningMeans, StepsAgree, Covers, SurveyCovers, InRange, CursorsStart, CreateKeepsRange, WriteKeepsRange, FindMeans, Leads, AllNames, PathMeans, Reads, ReadMeans, StatusMeans}
use Rattle.rule.proofs.Steps.{clash_none, some_is_true, handle_true, handle_same}
use Rattle.rule.proofs.Means.{slot_in_some, fits_at, good_from, same_slot, found_is_found}
use Rattle.rule.proofs.Formed.{cover_limits}
use Rattle.rule.proofs.Plans.{clash_ok, bind_ok, check_ok, demand_ok, ok_same, fits_ok, kind_true, file_leaf}

-- ---- a call whose checks pass

pub bind_from : {A B E : Type 0} (e : Result A E) (k : A → Result B E) (a : A) → e ≡ Ok a → (e >>= k) ≡ k a
unfolding ◌>>=◌
bind_from e k a p = ap (λ x. x >>= k) p

pub check_from : (t : Bool) (r : Refusal) → t ≡ true → check t r ≡ Ok tt
unfolding check
check_from t r p = ap (λ (b : Bool). check b r) p

pub demand_from : {A : Type 0} (o : Option A) (r : Refusal) (a : A) → o ≡ Some a → demand o r ≡ Ok a
unfolding demand
demand_from o r a p = ap (λ x. demand x r) p

pub kind_same : (a b : Kind) → a ≡ b → same_kind a b ≡ true
kind_same File b e = ap (same_kind File) (sym e)
kind_same Folder b e = ap (same_kind Folder) (sym e)

-- ---- opening

geometry_some : (c : Content) (g : Geometry) → geometry_in c ≡ Some g → c ≡ cover g
geometry_some (cover h) g e = let z : h ≡ g = cc in ap {B = Content} cover z
geometry_some blank g e = clash_none e
geometry_some (slotted r) g e = clash_none e
geometry_some (file_body b x) g e = clash_none e
geometry_some (folder_body b es) g e = clash_none e
geometry_some ill_formed g e = clash_none e

limits_slots : (N S : ℕ) → in_limits N S ≡ true → (1 < S) × (suc S < N)
limits_slots N S e =
    let a = and_parts (leb 2 S) (leb S 256 && (leb (S + 2) N && leb N 4096)) e in
    let b = and_parts (leb S 256) (leb (S + 2) N && leb N 4096) a.1 in
    let c = and_parts (leb (S + 2) N) (leb N 4096) b.1 in
    (leb-true 2 S a.0, omega (arith, leb-true (S + 2) N c.0))

abbrev rooty : Slot → Bool
rooty r = same_kind r.kind Folder && (eqb r.identity 1 && same_handle r.parent root)

opening_says : (n : ℕ) (shown : Shown) (g : Geometry) → opening n shown ≡ Ok g → Opens n shown g
unfolding opening
opening_says n shown g e =
    let a = bind_ok _ _ g e in
    let b = bind_ok _ _ g a.2 in
    let h = b.0 in
    let c = bind_ok _ _ g b.2 in
    let d = bind_ok _ _ g c.2 in
    let is : cover_of (shown 0) ≡ cover h = geometry_some (cover_of (shown 0)) h (demand_ok _ _ h b.1) in
    let w = some_is_true (slot_in (seen h shown 1)) rooty (check_ok _ _ _ d.1) in
    let k = and_parts (same_kind w.0.kind Folder) (eqb w.0.identity 1 && same_handle w.0.parent root) w.2 in
    let i = and_parts (eqb w.0.identity 1) (same_handle w.0.parent root) k.1 in
    let l = limits_slots h.blocks h.slots (cover_limits (shown 0) h is) in
    subst (Opens n shown) (ok_same d.2) (record {
      some = ltb-true 0 n (check_ok _ _ _ a.1);
      cover = is;
      room = leb-true h.blocks n (check_ok _ _ _ c.1);
      top = w.0;
      fits = record { inside = omega (arith, l.0); holds = slot_in_some (seen h shown 1) w.0 w.1; same = eqb-true w.0.identity 1 i.0 };
      kind = kind_true w.0.kind Folder k.0;
      parent = handle_true w.0.parent root i.1;
    })

opening_answers : (n : ℕ) (shown : Shown) (g : Geometry) → Opens n shown g → opening n shown ≡ Ok g
unfolding opening
opening_answers n shown g o =
    bind_from _ _ tt (check_from (ltb 0 n) _ (lt-ltb 0 n o.some))
    ∙ bind_from _ _ g (demand_from (geometry_in (cover_of (shown 0))) _ g (ap geometry_in o.cover))
    ∙ bind_from _ _ tt (check_from (leb g.blocks n) _ (le-leb g.blocks n o.room))
    ∙ bind_from _ _ tt (check_from (is_root (seen g shown 1)) _ (ap is_root o.fits.holds ∙ and_from (same_kind o.top.kind Folder) (eqb o.top.identity 1 && same_handle o.top.parent root) (kind_same o.top.kind Folder o.kind) (and_from (eqb o.top.identity 1) (same_handle o.top.parent root) (eq-eqb o.top.identity 1 o.fits.same) (handle_same o.top.parent root o.parent))))

pub opening_means : OpeningMeans
opening_means n shown g = (opening_says n shown g, opening_answers n shown g)

-- ---- surveying

highest_above : (g : Geometry) (v : View) (i n b : ℕ) → i ≤ b → b < i + n → told g (v b) ≤ highest_of g v (from i n)
highest_above g v i zero b a l = absurd (omega arith)
highest_above g v i (suc n) b a l = elim (cases_lt i b) [
  | inl d ↦ omega (arith, highest_above g v (suc i) n b d (omega arith))
  | inr d ↦ (let same : b ≡ i = omega arith in omega (arith, ap (λ (z : ℕ). told g (v z)) same))
]

highest_least : (g : Geometry) (v : View) (i n h : ℕ) → ((b : ℕ) → i ≤ b → b < i + n → told g (v b) ≤ h) → highest_of g v (from i n) ≤ h
highest_least g v i zero h k = omega arith
highest_least g v i (suc n) h k = omega (arith, k i (omega arith) (omega arith), highest_least g v (suc i) n h (λ b a l. k b (omega arith) (omega arith)))

pub survey_covers : SurveyCovers
unfolding surveyed
survey_covers n shown g e = subst (Covers g v) (sym high) (record {
  above = λ b a l. highest_above g v 1 (g.blocks - 1) b a (omega arith);
  least = λ h k. highest_least g v 1 (g.blocks - 1) h (λ b a l. k b a (omega arith));
})
  where
    v : View
    v = seen g shown

    high : (surveyed (opened n shown) shown).highest ≡ highest_of g (seen g shown) (from 1 (g.blocks - 1))
    high = ap (λ (r : Ready). (ended_by r (opened n shown) shown).highest) e ∙ omega arith

pub steps_agree : StepsAgree
unfolding survey_step surveyed
steps_agree o shown t e =
    let a = bind_ok _ _ t e in
    go a.0 a.1 (ltb o.next a.0.blocks) refl (ok_same a.2)
  where
    go : (g : Geometry) → o.ready ≡ Ok g → (b : Bool) → ltb o.next g.blocks ≡ b →
        cond b (record { remain = g.blocks - suc o.next; card = examined g shown o }) (record { remain = 0; card = o }) ≡ t → ended_by t.card.ready t.card shown ≡ ended_by o.ready o shown
    go g r false h e = subst (λ (z : Surveying). ended_by z.card.ready z.card shown ≡ ended_by o.ready o shown) e refl
    go g r true h e = subst (λ (z : Surveying). ended_by z.card.ready z.card shown ≡ ended_by o.ready o shown) e whole
      where
        left : g.blocks - o.next ≡ suc (g.blocks - suc o.next)
        left = omega (arith, ltb-true o.next g.blocks h)

        heights : max (max o.highest (told g (seen g shown o.next))) (highest_of g (seen g shown) (from (suc o.next) (g.blocks - suc o.next))) ≡ max o.highest (highest_of g (seen g shown) (from o.next (g.blocks - o.next)))
        heights = omega (arith, ap (λ (m : ℕ). highest_of g (seen g shown) (from o.next m)) left)

        middle : ended_by (Ok g) (examined g shown o) shown ≡ ended_by (Ok g) o shown
        middle = ap (λ (m : ℕ). record { ready = Ok g; highest = m; next_slot = 0; next_body = suc g.slots }) heights

        whole : ended_by o.ready (examined g shown o) shown ≡ ended_by o.ready o shown
        whole = ap (λ (z : Ready). ended_by z (examined g shown o) shown) r ∙ middle ∙ sym (ap (λ (z : Ready). ended_by z o shown) r)

pub cursors_start : CursorsStart
unfolding surveyed
cursors_start n shown g e =
    let o = opening_says n shown g e in
    let l = limits_slots g.blocks g.slots (cover_limits (shown 0) g o.cover) in
    subst (λ (r : Ready). InRange g (ended_by r (opened n shown) shown)) (sym e) (record { slot = omega arith; body = (omega arith, omega (arith, l.1)) })

pub create_keeps_range : CreateKeepsRange
create_keeps_range g v c d f n p w r = subst (InRange g) (sym w.after) (record { slot = w.free.inside; body = go w.rest w.next w.placed })
  where
    go : (rest : List Put) (next : ℕ) → InPlace g v c f w.slot (cell n p.answer) rest next ⊎ OnNewLeaf g v c f w.slot (cell n p.answer) rest next → (g.slots < next) × (next ≤ g.blocks)
    go rest next (inl i) = subst (λ (z : ℕ). (g.slots < z) × (z ≤ g.blocks)) (sym i.cursor) r.body
    go rest next (inr i) = subst (λ (z : ℕ). (g.slots < z) × (z ≤ g.blocks)) (sym i.cursor) (omega (arith, i.free.above), i.free.inside)

pub write_keeps_range : WriteKeepsRange
write_keeps_range g v c h k x p w r = go w.blocks
  where
    go : Replaces v c h w.slot k x p ⊎ Appends g v c h w.slot k x p → InRange g p.card
    go (inl i) = subst (InRange g) (sym i.after) r
    go (inr i) = subst (InRange g) (sym i.after) (record { slot = r.slot; body = (omega (arith, i.free.above), i.free.inside) })

-- ---- handles

pub reading_ok : (g : Geometry) (v : View) (d : Kind) (h : Handle) (r : Slot) → reading g v d h ≡ Ok r → Fits g v h r × (r.kind ≡ d)
unfolding reading kind_is
reading_ok g v d h r e =
    let a = bind_ok _ _ r e in
    let b = bind_ok _ _ r a.2 in
    let s : a.0 ≡ r = ok_same b.2 in
    subst (λ (z : Slot). Fits g v h z × (z.kind ≡ d)) s (fits_ok g v h a.0 a.1, kind_true a.0.kind d (check_ok _ _ _ b.1))

pub fits_answers : (g : Geometry) (v : View) (h : Handle) (r : Slot) → Fits g v h r → fits g v h ≡ Ok r
unfolding fits
fits_answers g v h r f =
    bind_from _ _ r (demand_from (slot_at g v h.slot.0) _ r (fits_at g v h r f))
    ∙ bind_from _ _ tt (check_from (eqb r.identity h.identity.0) _ (eq-eqb r.identity h.identity.0 f.same))

pub reading_answers : (g : Geometry) (v : View) (d : Kind) (h : Handle) (r : Slot) → Fits g v h r → r.kind ≡ d → reading g v d h ≡ Ok r
unfolding reading kind_is
reading_answers g v d h r f k =
    bind_from _ _ r (fits_answers g v h r f)
    ∙ bind_from _ _ tt (check_from (same_kind r.kind d) _ (kind_same r.kind d k))

-- ---- find and path

pub step_ok : (g : Geometry) (v : View) (f : Handle) (n : Name) (c : Handle) → step g v f n ≡ Ok c → Finds g v f n c
unfolding step
step_ok g v f n c e =
    let a = bind_ok _ _ c e in
    let b = bind_ok _ _ c a.2 in
    let w = reading_ok g v Folder f a.0 a.1 in
    let d = (found_is_found g v f a.0 n w.0).0 b.0 (demand_ok _ _ b.0 b.1) in
    subst (λ (h : Handle). Finds g v f n h) (sym (ap child_of d.1) ∙ ok_same b.2) d.2

same_child : {n m : Name} {c d : Handle} → entry n c ≡ entry m d → c ≡ d
same_child e = cc

-- only one is found
pub found_once : (g : Geometry) (v : View) (f : Handle) (n : Name) (c d : Handle) → Finds g v f n c → Finds g v f n d → c ≡ d
found_once g v f n c d a b = elim (cases_order a.leaf b.leaf) [
  | inr (inl l) ↦ absurd (b.first a.leaf a.place c (inl l) a.sound)
  | inr (inr l) ↦ absurd (a.first b.leaf b.place d (inl l) b.sound)
  | inl e ↦ elim (cases_order a.place b.place) [
    | inr (inl l) ↦ absurd (b.first a.leaf a.place c (inr (e, l)) a.sound)
    | inr (inr l) ↦ absurd (a.first b.leaf b.place d (inr (sym e, l)) b.sound)
    | inl q ↦ same_child (sym a.sound.here ∙ ap (λ (es : List Cell). entry_of g (get_or es a.place [])) (cells e) ∙ ap (λ (p : ℕ). entry_of g (get_or b.sound.cells p [])) q ∙ b.sound.here)
  ]
]
  where
    cells : a.leaf ≡ b.leaf → a.sound.cells ≡ b.sound.cells
    cells e =
        let s = same_slot g v f a.sound.slot b.sound.slot a.sound.fits b.sound.fits in
        let x : v (number a.sound.slot a.leaf) ≡ v (number b.sound.slot b.leaf) = ap (λ (r : Slot). v (number r a.leaf)) s ∙ ap (λ (k : ℕ). v (number b.sound.slot k)) e in
        let y = sym a.sound.body ∙ x ∙ b.sound.body in
        cc

pub step_answers : (g : Geometry) (v : View) (f : Handle) (n : Name) (c : Handle) → Finds g v f n c → step g v f n ≡ Ok c
unfolding step
step_answers g v f n c d =
    bind_from _ _ r (reading_answers g v Folder f r d.sound.fits d.sound.kind) ∙ go (found g v f r n) refl
  where
    r : Slot
    r = d.sound.slot

    go : (o : Option Place) → found g v f r n ≡ o → (demand (found g v f r n) (NoSuchName f.slot) >>= λ q. Ok (child_of (entry_of g q.cell))) ≡ Ok c
    go None e = absurd ((found_is_found g v f r n d.sound.fits).1 e d.leaf d.place c d.sound)
    go (Some q) e =
        let w = (found_is_found g v f r n d.sound.fits).0 q e in
        bind_from (demand (found g v f r n) (NoSuchName f.slot)) _ q (demand_from (found g v f r n) (NoSuchName f.slot) q e) ∙ ap Ok (ap child_of w.1 ∙ found_once g v f n w.0 c w.2 d)

pub find_means : FindMeans
unfolding find named
find_means f n g shown c = (says, λ w. bind_from _ _ tt (check_from (good_name n) _ w.0) ∙ bind_from _ _ g refl ∙ step_answers g (seen g shown) f n c w.1)
  where
    says : find f n (Ok g) shown ≡ Ok c → (good_name n ≡ true) × Finds g (seen g shown) f n c
    says e =
        let a = bind_ok _ _ c e in
        let b = bind_ok _ _ c a.2 in
        let same : g ≡ b.0 = ok_same b.1 in
        (check_ok _ _ _ a.1, step_ok g (seen g shown) f n c (subst (λ (z : Geometry). step z (seen z shown) f n ≡ Ok c) (sym same) b.2))

component_ok : {A : Type 0} (i : ℕ) (r : Answer A) (a : A) → at_component i r ≡ Ok a → r ≡ Ok a
unfolding at_component
component_ok i (Ok x) a e = let s : x ≡ a = cc in ap {B = Answer _} Ok s
component_ok i (Err r) a e = clash_ok e

component_from : {A : Type 0} (i : ℕ) (r : Answer A) (a : A) → r ≡ Ok a → at_component i r ≡ Ok a
unfolding at_component
component_from i r a e = ap (at_component i) e

walk_ok : (g : Geometry) (v : View) (i : ℕ) (f : Handle) (ns : List Name) (h : Handle) → walk g v i f ns ≡ Ok h → Leads g v f ns h
unfolding walk
walk_ok g v i f [] h e = ok_same e
walk_ok g v i f (n ∷ ns) h e =
    let a = bind_ok (at_component i (step g v f n)) (λ c. walk g v (suc i) c ns) h e in
    (a.0, step_ok g v f n a.0 (component_ok i (step g v f n) a.0 a.1), walk_ok g v (suc i) a.0 ns h a.2)

walk_from : (g : Geometry) (v : View) (i : ℕ) (f : Handle) (ns : List Name) (h : Handle) → Leads g v f ns h → walk g v i f ns ≡ Ok h
unfolding walk
walk_from g v i f [] h e = ap Ok e
walk_from g v i f (n ∷ ns) h (c, d, e) =
    bind_from (at_component i (step g v f n)) (λ c. walk g v (suc i) c ns) c (component_from i (step g v f n) c (step_answers g v f n c d)) ∙ walk_from g v (suc i) c ns h e

names_ok : (i : ℕ) (ns : List Name) (u : Unit {0}) → all_named i ns ≡ Ok u → AllNames ns
unfolding all_named named
names_ok i [] u e = tt
names_ok i (n ∷ ns) u e =
    let a = bind_ok (at_component i (named n)) (λ u. all_named (suc i) ns) u e in
    (check_ok _ _ _ (component_ok i (named n) a.0 a.1), names_ok (suc i) ns u a.2)

names_from : (i : ℕ) (ns : List Name) → AllNames ns → all_named i ns ≡ Ok tt
unfolding all_named named
names_from i [] w = refl
names_from i (n ∷ ns) (w, ws) =
    bind_from (at_component i (named n)) (λ u. all_named (suc i) ns) tt (component_from i (named n) tt (check_from (good_name n) _ w)) ∙ names_from (suc i) ns ws

pub path_means : PathMeans
unfolding path
path_means p g shown h = (says, λ w. bind_from _ _ tt (names_from 0 (components p) w.0) ∙ bind_from _ _ g (component_from 0 (Ok g) g refl) ∙ walk_from g (seen g shown) 0 root (components p) h w.1)
  where
    says : path p (Ok g) shown ≡ Ok h → AllNames (components p) × Leads g (seen g shown) root (components p) h
    says e =
        let a = bind_ok _ _ h e in
        let b = bind_ok _ _ h a.2 in
        let same : g ≡ b.0 = ok_same (component_ok 0 (Ok g) b.0 b.1) in
        (names_ok 0 (components p) a.0 a.1, walk_ok g (seen g shown) 0 root (components p) h (subst (λ (z : Geometry). walk z (seen z shown) 0 root (components p) ≡ Ok h) (sym same) b.2))

-- ---- status and read

pub status_means : StatusMeans
unfolding status
status_means h g shown t = (says, λ w. bind_from _ _ g refl ∙ bind_from _ _ w.0 (fits_answers g (seen g shown) h w.0 w.1) ∙ ap Ok (sym w.2))
  where
    says : status h (Ok g) shown ≡ Ok t → (r : Slot) × Fits g (seen g shown) h r × (t ≡ record { kind = r.kind; count = count r; parent = r.parent })
    says e =
        let a = bind_ok _ _ t e in
        let b = bind_ok _ _ t a.2 in
        let same : g ≡ a.0 = ok_same a.1 in
        (b.0, fits_ok g (seen g shown) h b.0 (subst (λ (z : Geometry). fits z (seen z shown) h ≡ Ok b.0) (sym same) b.1), sym (ok_same b.2))

read_says : (h : Handle) (k room : ℕ) (g : Geometry) (shown : Shown) (x : List ℕ) (r : Slot) → reading g (seen g shown) File h ≡ Ok r → good (seen g shown) h r k ≡ true → bytes_in (seen g shown (number r k)) ≡ x → Reads g (seen g shown) h k x
read_says h k room g shown x r a b e =
    let w = reading_ok g (seen g shown) File h r a in
    let o = file_leaf (seen g shown) h r k w.1 b in
    record { slot = r; fits = w.0; kind = w.1; below = o.0; body = o.1.1 ∙ ap (file_body (back h k)) (sym (ap bytes_in o.1.1) ∙ e) }

pub read_means : ReadMeans
unfolding read
read_means h k room g shown x = (says, answers)
  where
    says : read h k room (Ok g) shown ≡ Ok x → (496 ≤ room) × Reads g (seen g shown) h k x
    says e =
        let a = bind_ok _ _ x e in
        let b = bind_ok _ _ x a.2 in
        let c = bind_ok _ _ x b.2 in
        let d = bind_ok _ _ x c.2 in
        let w = bind_ok _ _ x d.2 in
        let same : g ≡ b.0 = ok_same b.1 in (
          leb-true 496 room (check_ok _ _ _ a.1),
          subst (λ (z : Geometry). Reads z (seen z shown) h k x) (sym same) (read_says h k room b.0 shown x c.0 c.1 (check_ok _ _ _ w.1) (ok_same w.2)),
        )

    answers : (496 ≤ room) × Reads g (seen g shown) h k x → read h k room (Ok g) shown ≡ Ok x
    answers (l, w) =
        bind_from _ _ tt (check_from (leb 496 room) _ (le-leb 496 room l))
        ∙ bind_from _ _ g refl
        ∙ bind_from _ _ w.slot (reading_answers g (seen g shown) File h w.slot w.fits w.kind)
        ∙ bind_from _ _ tt (check_from (ltb k (count w.slot)) _ (lt-ltb k (count w.slot) w.below))
        ∙ bind_from _ _ tt (check_from (good (seen g shown) h w.slot k) _ (good_from (seen g shown) h w.slot k w.below (inl (x, w.kind, w.body))))
        ∙ ap (λ (z : Content). Ok (bytes_in z)) w.body
