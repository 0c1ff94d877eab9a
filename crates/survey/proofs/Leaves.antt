-- Bodies that are good leaves of the slots remembered.
use Rattle.std.proofs.Common.{◌≡◌, ℕ, ◌<◌, Bool, true, cond, ◌&&◌, eqb, List, Some, None, Option, sym, refl, ap, ◌∙◌, arith}
use Rattle.std.proofs.lemmas.Bool.Decides.{nat_tests}
use denote.Enum.Bare.{sameb}
use Rattle.base.specs.contracts.owner.Kind.{the_type}
use Rattle.base.specs.declared.owner.Kind.{Kind}
use Rattle.base.specs.declared.owner.Kind.TheVariants.{File, Folder}
use Rattle.base.specs.declared.owner.Handle.{Handle}
use Rattle.base.specs.declared.owner.Back.{Back}
use Rattle.layout.specs.Format.{Cell, Geometry, Slot, Content, blank, cover, slotted, file_body, folder_body, ill_formed, back}
use Rattle.rule.specs.Agree.{View, slot_at, same_kind, some_is, given, count, number, names, good, back_in}
use Rattle.rule.specs.Meaning.{Fits}
use Rattle.rule.proofs.Steps.{some_is_true}
use Rattle.rule.proofs.Means.{fits_at, fits_from}
use Rattle.survey.specs.declared.slots.Slots.{Slots}
use Rattle.survey.specs.Known.{kept, leaf_of, is_leaf, line_by}
use Rattle.survey.specs.Survey.{leaf_line}

-- ---- the tests of the code

pub kind_is : (a b : Kind) → sameb the_type a b ≡ same_kind a b
kind_is a b = grind arith

-- ---- by the slots that are there

kind_names : (d : Kind) (c : Back) (x : List ℕ) → same_kind d File ≡ names d (back c.owner c.leaf.0) (file_body c x)
kind_names d c x = grind (arith, nat_tests)

kind_lists : (d : Kind) (c : Back) (es : List Cell) → same_kind d Folder ≡ names d (back c.owner c.leaf.0) (folder_body c es)
kind_lists d c es = grind (arith, nat_tests)

module _ (g : Geometry) (v : View) (ss : Slots) (known : (s : ℕ) → kept ss s ≡ slot_at g v s) (b : ℕ) where
  abbrev passes : Back → Slot → Bool
  passes c r = eqb r.identity c.owner.identity.0 && (eqb (number r c.leaf.0) b && good v c.owner r c.leaf.0)

  leaf_good : (d : Kind) (c : Back) (r : Slot) → same_kind r.kind d ≡ names r.kind (back c.owner c.leaf.0) (v b) → leaf_of d c b r ≡ passes c r
  leaf_good d c r e = grind (arith, nat_tests)

  line_named : (d : Kind) (c : Back) → ((r : Slot) → same_kind r.kind d ≡ names r.kind (back c.owner c.leaf.0) (v b)) →
      cond (is_leaf ss d c b) (Some c) None ≡ given (slot_at g v c.owner.slot.0) (λ r. cond (passes c r) (Some c) None)
  line_named d c e = ap (λ (o : Option Slot). cond (some_is o (leaf_of d c b)) (Some c) None) (known c.owner.slot.0) ∙ go (slot_at g v c.owner.slot.0)
    where
      go : (o : Option Slot) → cond (some_is o (leaf_of d c b)) (Some c) None ≡ given o (λ r. cond (passes c r) (Some c) None)
      go None = refl
      go (Some r) = ap (λ (t : Bool). cond t (Some c) None) (leaf_good d c r (e r))

  -- the back line, by what the block holds, is that of a good leaf
  pub line_is : line_by ss b (v b) ≡ leaf_line g v b
  line_is = go (v b) refl
    where
      go : (x : Content) → v b ≡ x → line_by ss b x ≡ given (back_in x) (λ c. given (slot_at g v c.owner.slot.0) (λ r. cond (passes c r) (Some c) None))
      go (file_body c x) e = line_named File c (λ r. kind_names r.kind c x ∙ ap (names r.kind (back c.owner c.leaf.0)) (sym e))
      go (folder_body c es) e = line_named Folder c (λ r. kind_lists r.kind c es ∙ ap (names r.kind (back c.owner c.leaf.0)) (sym e))
      go blank e = refl
      go (cover z) e = refl
      go (slotted r) e = refl
      go ill_formed e = refl

  -- what a good leaf of a folder tells of its slot
  pub record Owned (c : Back) : Type 0 where
    pub slot : Slot
    pub fits : Fits g v c.owner slot
    pub kind : slot.kind ≡ Folder
    pub below : c.leaf.0 < count slot
    pub here : number slot c.leaf.0 ≡ b

  pub leaf_owned : (c : Back) → is_leaf ss Folder c b ≡ true → Owned c
  leaf_owned c h =
      let w = some_is_true (slot_at g v c.owner.slot.0) (leaf_of Folder c b) (ap (λ (o : Option Slot). some_is o (leaf_of Folder c b)) (sym (known c.owner.slot.0)) ∙ h) in
      let leaf = w.2 in
      record {
        slot = w.0;
        fits = fits_from g v c.owner w.0 w.1 (grind (arith, nat_tests));
        kind = grind (arith, nat_tests);
        below = grind (arith, nat_tests);
        here = grind (arith, nat_tests);
      }

  pub owned_leaf : (f : Handle) (k : ℕ) (r : Slot) → Fits g v f r → r.kind ≡ Folder → k < count r → number r k ≡ b → is_leaf ss Folder (back f k) b ≡ true
  owned_leaf f k r fit kind low here =
      let there = known f.slot.0 ∙ fits_at g v f r fit in
      let same = fit.same in
      grind (arith, nat_tests)
