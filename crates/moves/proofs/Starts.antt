-- A surveyed card and its blocks have that in common, and after a format only the root is reached.
use Rattle.std.proofs.Common.{◌≡◌, ℕ, zero, suc, ◌+◌, ◌<◌, ◌≤◌, true, false, ◌&&◌, eqb, leb, List, length, Ok, sym, refl, ap, ◌∙◌, subst, inl, inr, arith}
use lib.ListN.{length-replicate}
use Rattle.std.proofs.lemmas.Bool.{cases_lt, cases_eq, and_from, eqb-true, eq-eqb, le-leb}
use Rattle.base.specs.declared.owner.Kind.TheVariants.{Folder}
use Rattle.base.specs.declared.owner.Handle.{Handle}
use Rattle.device.specs.declared.put.Put.{Put}
use Rattle.device.specs.Effect.{puts}
use Rattle.layout.specs.Format.{Geometry, handle, Slot, Content, blank, cover, slotted, in_limits, parse, encode}
use Rattle.layout.specs.Identities.{told}
use Rattle.layout.specs.Laws.{SlotFits}
use Rattle.layout.proofs.Back.{read_back}
use Rattle.rule.specs.Agree.{Shown, View, seen, same_kind, same_handle, count, root, reached, held}
use Rattle.rule.specs.Card.{Ready, Card, is_root, opening, opened, ended_by, surveyed}
use Rattle.rule.specs.Changing.{new_slot, last_identity, format}
use Rattle.rule.specs.Meaning.{Fits, Good, Reached, the_root, under}
use Rattle.rule.specs.Calls.{Formats}
use Rattle.rule.specs.Readings.{Opens}
use Rattle.rule.proofs.Steps.{clash, handle_same}
use Rattle.rule.proofs.Means.{reached_is_reached, held_is_held, same_slot}
use Rattle.rule.proofs.Blocks.{format_means}
use Rattle.rule.proofs.Formed.{cover_limits}
use Rattle.rule.proofs.Answered.{kind_same, opening_means, survey_covers, cursors_start}
use Rattle.history.proofs.Written.{slot_lies, body_lies, parse_cover, parse_beyond, slot_whole}
use Rattle.history.proofs.Stands.{Limits}
use Rattle.moves.specs.Tied.{Tied, TiedStarts, sized, new_card, FormatTies}
use Rattle.moves.specs.Moves.{Marked, FormatMoves}
use Rattle.moves.proofs.Lands.{limits_of}
use Rattle.moves.proofs.Gained.{same_test}

root_is : (y : Content) (r : Slot) → y ≡ slotted r → r.kind ≡ Folder → r.identity ≡ 1 → r.parent ≡ root → is_root y ≡ true
root_is y r e k i p = ap is_root e ∙ and_from (same_kind r.kind Folder) (eqb r.identity 1 && same_handle r.parent root) (kind_same r.kind Folder k)
    (and_from (eqb r.identity 1) (same_handle r.parent root) (eq-eqb r.identity 1 i) (handle_same r.parent root p))

-- ---- the end of the survey

module _ (n : ℕ) (shown : Shown) (g : Geometry) (e : opening n shown ≡ Ok g) where
  opens : Opens n shown g
  opens = (opening_means n shown g).0 e

  within : Limits g
  within = limits_of g (cover_limits (shown 0) g opens.cover)

  ready_is : (surveyed (opened n shown) shown).ready ≡ Ok g
  unfolding surveyed
  ready_is = ap (λ (x : Ready). (ended_by x (opened n shown) shown).ready) e

  pub cursors_are : ((surveyed (opened n shown) shown).next_slot ≡ 0) × ((surveyed (opened n shown) shown).next_body ≡ suc g.slots)
  unfolding surveyed
  cursors_are = (ap (λ (x : Ready). (ended_by x (opened n shown) shown).next_slot) e, ap (λ (x : Ready). (ended_by x (opened n shown) shown).next_body) e)

  -- the blocks outside the card's slots and bodies tell nothing
  all_told : (b : ℕ) → told g (seen g shown b) ≤ (surveyed (opened n shown) shown).highest
  all_told zero = let z = ap (told g) (parse_cover g (shown 0) ∙ opens.cover) in omega arith
  all_told (suc b) = elim (cases_lt (suc b) g.blocks) [
    | inl low ↦ (survey_covers n shown g e).above (suc b) (omega arith) low
    | inr far ↦ (let z = ap (told g) (parse_beyond g (suc b) (shown (suc b)) (let w = within.bodies in omega arith) far) in omega arith)
  ]

  pub starts : (surveyed (opened n shown) shown).highest ≤ last_identity → ((b : ℕ) → 0 < b → b < g.blocks → length (shown b) ≡ 512) → Tied g (surveyed (opened n shown) shown) shown
  starts low whole = record {
    limits = cover_limits (shown 0) g opens.cover;
    ready = ready_is;
    root = root_is (seen g shown 1) opens.top opens.fits.holds opens.kind opens.fits.same opens.parent;
    counted = all_told;
    narrow = low;
    range = cursors_start n shown g e;
    whole = whole;
  }

pub tied_starts : TiedStarts
tied_starts n shown g e low whole = starts n shown g e low whole

-- ---- a new card

module _ (n N S : ℕ) (ws : List Put) (before : Shown) (plan : format n N S ≡ Ok ws) where
  abbrev g : Geometry
  g = sized N S

  abbrev shown : Shown
  shown = puts before ws

  abbrev v : View
  v = seen g shown

  abbrev top : Slot
  top = new_slot Folder root 1

  does : Formats n N S ws
  does = format_means n N S ws plan

  limits : in_limits N S ≡ true
  limits = let s = does.slots in let t = does.blocks in
      and_from (leb 2 S) _ (le-leb 2 S s.0) (and_from (leb S 256) _ (le-leb S 256 s.1) (and_from (leb (S + 2) N) _ (le-leb (S + 2) N t.0) (le-leb N 4096 t.1)))

  fits : SlotFits g top
  fits = record { few = omega arith; own = (omega arith, omega arith); parent = (omega arith, omega arith); parent_slot = (let s = does.slots in omega arith); bodies = refl }

  at_root : v 1 ≡ slotted top
  at_root = ap (parse g 1) (does.root before) ∙ read_back g limits (slotted top) 1 (slot_lies g 1 (omega arith) (let s = does.slots in omega arith), fits)

  at_zero : (b : ℕ) → 1 < b → b < N → v b ≡ blank
  unfolding encode
  at_zero b up low =
      ap (parse g b) (does.zeros before b up low)
      ∙ read_back g limits blank b (elim (cases_lt S b) [ inl far ↦ inr (body_lies g b far low) | inr near ↦ inl (slot_lies g b (omega arith) near) ])

  new_opens : opening n shown ≡ Ok g
  new_opens = (opening_means n shown g).1 (record {
    some = (let t = does.blocks in let r = does.room in omega arith);
    cover = sym (parse_cover g (shown 0)) ∙ ap (parse g 0) (does.cover before) ∙ read_back g limits (cover g) 0 (refl, limits);
    room = does.room;
    top = top;
    fits = record { inside = (let s = does.slots in omega arith); holds = at_root; same = refl };
    kind = refl;
    parent = refl;
  })

  new_whole : (b : ℕ) → 0 < b → b < N → length (shown b) ≡ 512
  new_whole b up low = elim (cases_eq b 1) [
    | inl e ↦ ap (λ (i : ℕ). length (shown i)) e ∙ ap length (does.root before) ∙ slot_whole top (omega arith)
    | inr ne ↦ ap length (does.zeros before b (omega arith) low) ∙ length-replicate {A = ℕ} 512 0
  ]

  told_low : (b : ℕ) → 0 < b → b < N → told g (v b) ≤ 1
  told_low b up low = elim (cases_eq b 1) [
    | inl e ↦ (let z = ap (λ (i : ℕ). told g (v i)) e ∙ ap (told g) at_root in omega arith)
    | inr ne ↦ (let z = ap (told g) (at_zero b (omega arith) low) in omega arith)
  ]

  highest_one : (surveyed (opened n shown) shown).highest ≡ 1
  highest_one =
      let c = survey_covers n shown g new_opens in
      let a = c.least 1 told_low in
      let b = c.above 1 (omega arith) (let t = does.blocks in omega arith) in
      let z = ap (told g) at_root in
      omega arith

  is_new : surveyed (opened n shown) shown ≡ new_card g
  is_new = let c = cursors_are n shown g new_opens in
      λ i. record { ready = ready_is n shown g new_opens i; highest = highest_one i; next_slot = c.0 i; next_body = c.1 i }

  new_tied : Tied g (new_card g) shown
  new_tied = subst (λ (c : Card). Tied g c shown) is_new (starts n shown g new_opens (let z = highest_one in omega arith) new_whole)

  new_fits : Fits g v root top
  new_fits = record { inside = (let s = does.slots in omega arith); holds = at_root; same = refl }

  -- the root has no leaf
  no_leaf : (h : Handle) (k : ℕ) → h ≡ root → Good g v h k → ⊥
  no_leaf h k e w =
      let same : w.slot ≡ top = same_slot g v root w.slot top (subst (λ (x : Handle). Fits g v x w.slot) e w.fits) new_fits in
      let num : count w.slot ≡ 0 = ap count same in
      let l = w.below in
      omega (arith, num, l)

  only_root : (h : Handle) → Reached g v h → h ≡ root
  only_root h the_root = refl
  only_root h (under {f} {c} {k} r s) = absurd (no_leaf f k (only_root f r) (record { slot = s.slot; fits = s.fits; below = s.below; body = inr (s.cells, s.kind, s.body) }))

  new_marked : Marked g v (λ s. eqb s 0) (λ b. false)
  new_marked = record {
    reached = λ s. same_test (reached g v s) (eqb s 0)
        (λ e. let r = (reached_is_reached g v (top, new_fits) s).0 e in eq-eqb s 0 (ap (λ (h : Handle). h.slot.0) (only_root (handle s r.0) r.1)))
        (λ e. (reached_is_reached g v (top, new_fits) s).1 (1, subst (λ (i : ℕ). Reached g v (handle i 1)) (sym (eqb-true s 0 e)) the_root));
    held = λ b. same_test (held g v b) false
        (λ e. let w = (held_is_held g v (top, new_fits) b).0 e in absurd (no_leaf w.owner w.leaf (only_root w.owner w.reached) w.good))
        (λ e. clash e);
  }

pub format_ties : FormatTies
format_ties n N S ws shown e = (is_new n N S ws shown e, new_tied n N S ws shown e)

pub format_moves : FormatMoves
format_moves n N S ws shown e = new_marked n N S ws shown e
