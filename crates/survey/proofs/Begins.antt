-- A survey that has only begun.
use Rattle.std.proofs.Common.{◌≡◌, ℕ, zero, suc, true, cond, ◌&&◌, eqb, ltb, length, get_or, replicate, Some, None, Option, sym, refl, ap, ◌∙◌, arith}
use lib.ListN.{length-replicate}
use Rattle.std.proofs.lemmas.Bool.Decides.{nat_tests}
use Rattle.base.specs.declared.owner.Kind.TheVariants.{File, Folder}
use Rattle.base.specs.declared.owner.Handle.{Handle}
use Rattle.base.specs.declared.owner.Back.{Back}
use Rattle.layout.specs.Format.{Name, Geometry, Content, blank, cover, slotted, file_body, folder_body, ill_formed, body_number}
use Rattle.rule.specs.Agree.{Shown, View, seen, slot_at, number, good, back_in, given, names}
use Rattle.rule.specs.Meaning.{Sound}
use Rattle.rule.proofs.Steps.{clash, back_same}
use Rattle.walk.proofs.Copying.{no_body}
use Rattle.survey.specs.declared.slots.Slots.{Slots}
use Rattle.survey.specs.Known.{known_at}
use Rattle.survey.specs.Survey.{leaf_line, Apart, Sofar}

-- what is read of blocks has bodies among the bodies only
pub apart_seen : (g : Geometry) (shown : Shown) → Apart g (seen g shown)
apart_seen g shown b h = go (seen g shown b) refl
  where
    go : (c : Content) → seen g shown b ≡ c → back_in c ≡ None
    go (file_body k x) e = clash (sym (no_body k g File b (shown b) h) ∙ ap (names File k) e ∙ back_same k k refl)
    go (folder_body k es) e = clash (sym (no_body k g Folder b (shown b) h) ∙ ap (names Folder k) e ∙ back_same k k refl)
    go blank e = refl
    go (cover c) e = refl
    go (slotted r) e = refl
    go ill_formed e = refl

-- no sound entry stands outside the bodies
pub sound_among : (g : Geometry) (v : View) → Apart g v → (f : Handle) (k p : ℕ) (n : Name) (c : Handle) (w : Sound g v f k p n c) → body_number g (number w.slot k) ≡ true
sound_among g v apart f k p n c w =
    let none = apart (number w.slot k) in
    let some = w.body in
    grind arith

-- a block outside the bodies has no back line
pub line_none : (g : Geometry) (v : View) (b : ℕ) → back_in (v b) ≡ None → leaf_line g v b ≡ None
line_none g v b e =
    ap (λ (o : Option Back). given o (λ c. given (slot_at g v c.owner.slot.0) (λ r.
    cond (eqb r.identity c.owner.identity.0 && (eqb (number r c.leaf.0) b && good v c.owner r c.leaf.0)) (Some c) None))) e

-- a row of the same
pub row_of : {A : Type 0} (n i : ℕ) (a : A) → get_or (replicate n a) i a ≡ a
row_of zero i a = refl
row_of (suc n) zero a = refl
row_of (suc n) (suc i) a = row_of n i a

none_yet : (g : Geometry) (v : View) → Apart g v → (b : ℕ) → None ≡ cond (ltb b 1) (leaf_line g v b) None
none_yet g v apart b =
    let outside = apart b in
    let none = line_none g v b in
    grind (arith, nat_tests)

-- no slot is known, and no body
pub begun : (g : Geometry) (v : View) → Apart g v → (ss : Slots) → ((s : ℕ) → known_at ss s ≡ None) → length ss.known ≡ 256 →
    Sofar g v 1 (record { slots = ss; bodies = replicate 4096 None })
begun g v apart ss none long = record {
  apart = apart;
  slots = λ s. let e = none s in grind (arith, nat_tests);
  bodies = λ b. row_of 4096 b None ∙ none_yet g v apart b;
  linked = λ s h. let e = none s in absurd (grind arith);
  all_linked = λ f k p n c w l. let a = sound_among g v apart f k p n c w in absurd (grind (arith, nat_tests));
  slot_count = long;
  body_count = length-replicate {A = Option Back} 4096 None;
}
