-- Every block is examined: the marks agree with the blocks.
use Rattle.std.proofs.Common.{◌≡◌, ℕ, ◌<◌, Bool, true, false, cond, ◌&&◌, eqb, ltb, List, get_or, is_some, Some, None, Option, sym, refl, ap, ◌∙◌, arith}
use Rattle.std.specs.Option.{option_map}
use Rattle.std.proofs.lemmas.Bool.{and_parts, ltb-true}
use Rattle.std.proofs.lemmas.Bool.Decides.{nat_tests}
use Rattle.base.specs.declared.owner.Back.{Back}
use Rattle.base.specs.declared.owner.Handle.{Handle}
use Rattle.layout.specs.Format.{Geometry, Slot, handle}
use Rattle.rule.specs.Agree.{View, slot_at, number, good, some_is, given, back_in, parent_of, climbs, reached}
use Rattle.rule.proofs.Steps.{clash}
use Rattle.rule.proofs.Means.{fits_at, parent_from, parent_parts}
use Rattle.marks.specs.declared.mark.SlotMark.{SlotMark}
use Rattle.marks.specs.Marks.{slot_line, slot_mark, body_mark, Agree}
use Rattle.survey.specs.declared.survey.Survey.{Survey}
use Rattle.survey.specs.Known.{kept, is_linked, up_by, slot_mark_by, body_mark_by}
use Rattle.survey.specs.Survey.{leaf_line, Sofar}
use Rattle.survey.proofs.Begins.{line_none, sound_among}
use Rattle.survey.proofs.Examines.{known}

-- a good leaf of a slot is held if the slot is reached
held_last : (c : Back) (x y z w : Bool) (k : Back → Option Back) → k c ≡ cond w (Some c) None → given (cond (x && (y && z)) (Some c) None) k ≡ cond (x && (y && (z && w))) (Some c) None
held_last c x y z w k e = grind arith

module _ (g : Geometry) (v : View) (t : Survey) (sofar : Sofar g v g.blocks t) (room : g.slots < g.blocks) where
  there : (s : ℕ) → kept t.slots s ≡ slot_at g v s
  there = known g v g.blocks t sofar room

  -- the way up is the rule's
  up_is : (s : ℕ) → up_by t.slots s ≡ parent_of g v s
  up_is s = go (is_linked t.slots s) refl
    where
      missing : (o : Option ℕ) → parent_of g v s ≡ o → is_linked t.slots s ≡ false → None ≡ o
      missing None e h = refl
      missing (Some p) e h =
          let w = parent_parts g v s p e in
          let a = sound_among g v sofar.apart w.slot.parent w.leaf w.place w.name (handle s w.slot.identity) w.sound in
          let n = number w.sound.slot w.leaf in
          let below = ltb-true n g.blocks (and_parts (ltb g.slots n) (ltb n g.blocks) a).1 in
          clash (sym h ∙ sofar.all_linked w.slot.parent w.leaf w.place w.name (handle s w.slot.identity) w.sound below)

      go : (b : Bool) → is_linked t.slots s ≡ b → cond b (option_map (λ (r : Slot). r.parent.slot.0) (kept t.slots s)) None ≡ parent_of g v s
      go true e =
          let w = sofar.linked s e in
          ap (option_map (λ (r : Slot). r.parent.slot.0)) (there s ∙ ap (slot_at g v) (sym w.is) ∙ fits_at g v w.child w.sound.child w.sound.child_fits)
          ∙ ap (λ (h : Handle). Some h.slot.0) w.sound.parent
          ∙ sym (parent_from g v w.folder w.child w.leaf w.place w.name w.sound) ∙ ap (parent_of g v) w.is
      go false e = missing (parent_of g v s) refl e

  reached_is : (s : ℕ) → climbs (up_by t.slots) g.slots s ≡ reached g v s
  reached_is s = λ i. climbs (λ (x : ℕ). up_is x i) g.slots s

  slot_is : (s : ℕ) → slot_mark_by g.slots t.slots s ≡ slot_mark g v s
  slot_is s = λ i. cond (reached_is s i) (option_map slot_line (there s i)) None

  -- a block past the last holds nothing
  line_is_kept : (b : ℕ) → get_or t.bodies b None ≡ leaf_line g v b
  line_is_kept b =
      let kept = sofar.bodies b in
      let outside = sofar.apart b in
      let none = line_none g v b in
      grind (arith, nat_tests)

  -- it is a good leaf; and its slot is reached
  abbrev passes : ℕ → Back → Slot → Bool
  passes b c r = eqb r.identity c.owner.identity.0 && (eqb (number r c.leaf.0) b && good v c.owner r c.leaf.0)

  abbrev holds : ℕ → Back → Slot → Bool
  holds b c r = eqb r.identity c.owner.identity.0 && (eqb (number r c.leaf.0) b && (good v c.owner r c.leaf.0 && reached g v c.owner.slot.0))

  module _ (ms : List (Option SlotMark)) (marks : (s : ℕ) → get_or ms s None ≡ slot_mark g v s) where
    owner_is : (c : Back) (r : Slot) → slot_at g v c.owner.slot.0 ≡ Some r →
        cond (is_some (get_or ms c.owner.slot.0 None)) (Some c) None ≡ cond (reached g v c.owner.slot.0) (Some c) None
    owner_is c r e = let m = marks c.owner.slot.0 in grind arith

    body_is : (b : ℕ) → body_mark_by ms (leaf_line g v b) ≡ body_mark g v b
    body_is b = outer (back_in (v b))
      where
        inner : (c : Back) (o : Option Slot) → slot_at g v c.owner.slot.0 ≡ o →
            body_mark_by ms (given o (λ r. cond (passes b c r) (Some c) None)) ≡ cond (some_is o (holds b c)) (Some c) None
        inner c None e = refl
        inner c (Some r) e =
            held_last c (eqb r.identity c.owner.identity.0) (eqb (number r c.leaf.0) b) (good v c.owner r c.leaf.0) (reached g v c.owner.slot.0)
            (λ d. cond (is_some (get_or ms d.owner.slot.0 None)) (Some d) None) (owner_is c r e)

        outer : (x : Option Back) → body_mark_by ms (given x (λ c. given (slot_at g v c.owner.slot.0) (λ r. cond (passes b c r) (Some c) None))) ≡ cond (some_is x (λ c. some_is (slot_at g v c.owner.slot.0) (holds b c))) x None
        outer None = refl
        outer (Some c) = inner c (slot_at g v c.owner.slot.0) refl

  pub finished : (ms : List (Option SlotMark)) (bs : List (Option Back)) → ((s : ℕ) → get_or ms s None ≡ slot_mark_by g.slots t.slots s) →
      ((b : ℕ) → get_or bs b None ≡ body_mark_by ms (get_or t.bodies b None)) → Agree g v (record { slots = ms; bodies = bs })
  finished ms bs es eb = record {
    slots = λ s. es s ∙ slot_is s;
    bodies = λ b. eb b ∙ ap (body_mark_by ms) (line_is_kept b) ∙ body_is ms (λ s. es s ∙ slot_is s) b;
  }
