-- Links, cell by cell.
use Rattle.std.proofs.Common.{◌≡◌, ℕ, zero, suc, ◌+◌, ◌<◌, ◌≤◌, Bool, true, false, cond, ◌⊎◌, List, [], ◌∷◌, length, get_or, drop, Option, sym, refl, ap, ◌∙◌, subst, inl, inr, arith}
use Rattle.std.proofs.lemmas.Bool.Decides.{nat_tests}
use Rattle.std.proofs.lemmas.Grind.{common_steps}
use Rattle.std.proofs.lemmas.List.{length-set, get_or_past, at_drop_more, at_drop_all}
use Rattle.base.specs.declared.owner.Kind.TheVariants.{Folder}
use Rattle.base.specs.declared.owner.Handle.{Handle}
use Rattle.base.specs.declared.owner.Back.{Back}
use Rattle.layout.specs.Format.{Name, Cell, Geometry, Slot, Content, blank, cover, slotted, file_body, folder_body, ill_formed, Entry, entry, no_entry, entry_of}
use Rattle.rule.specs.Agree.{some_is}
use Rattle.survey.specs.declared.slots.KnownSlot.{KnownSlot}
use Rattle.survey.specs.declared.slots.Slots.{Slots}
use Rattle.survey.specs.Known.{kept, is_linked, child_of, linked_at, link, links, is_leaf, links_by}

-- ---- one mark more

abbrev pub mark_of : Option KnownSlot → Bool
mark_of o = some_is o (λ k. k.linked)

abbrev pub Marked : Slots → ℕ → Type 0
Marked ss s = is_linked ss s ≡ true

-- the same slots are known, and as many marks or more
pub record Grows (ss ts : Slots) : Type 0 where
  pub kept : (s : ℕ) → kept ts s ≡ kept ss s
  pub long : length ts.known ≡ length ss.known
  pub marks : (s : ℕ) → Marked ss s → Marked ts s

grows_not : (ss : Slots) → Grows ss ss
grows_not ss = record { kept = λ s. refl; long = refl; marks = λ s h. h }

grows_then : {ss ts us : Slots} → Grows ss ts → Grows ts us → Grows ss us
grows_then a b = record { kept = λ s. b.kept s ∙ a.kept s; long = b.long ∙ a.long; marks = λ s h. b.marks s (a.marks s h) }

set_grows : (ss : Slots) (i : ℕ) → Grows ss (linked_at ss i)
set_grows ss i = record {
  kept = λ s. grind (arith, nat_tests, common_steps);
  long = length-set ss.known i _;
  marks = λ s h. grind (arith, common_steps);
}

set_was : (ss : Slots) (i s : ℕ) → Marked (linked_at ss i) s → (i ≡ s) ⊎ Marked ss s
set_was ss i s h = grind (arith, common_steps)

set_has : (ss : Slots) (s : ℕ) (p : Slot → Bool) → some_is (kept ss s) p ≡ true → Marked (linked_at ss s) s
set_has ss s p h = grind (arith, common_steps, get_or_past)

-- ---- the loop

module _ (g : Geometry) (f : Handle) (es : List Cell) (k : ℕ) (ss all : Slots) where
  links_step : (e : Cell) (rest : List Cell) (ts : Slots) → links g f (e ∷ rest) ts ≡ links g f rest (link f (entry_of g e) ts)
  unfolding links
  links_step e rest ts = refl

  links_none : (ts : Slots) → links g f [] ts ≡ ts
  unfolding links
  links_none ts = refl

  -- one cell less
  pub left_more : (ss' : Slots) → k < length es → ss' ≡ link f (entry_of g (get_or es k [])) ss → links g f (drop k es) ss ≡ all → links g f (drop (k + 1) es) ss' ≡ all
  left_more ss' lt is e =
      ap (links g f (drop (k + 1) es)) is
      ∙ sym (at_drop_more (λ (xs : List Cell). links g f xs ss) es k [] lt ∙ links_step (get_or es k []) (drop (k + 1) es) ss) ∙ e

  -- none is left
  pub left_none : length es ≤ k → links g f (drop k es) ss ≡ all → ss ≡ all
  left_none le e = sym (at_drop_all (λ (xs : List Cell). links g f xs ss) es k le ∙ links_none ss) ∙ e

-- ---- what the links mark

module _ (g : Geometry) (f : Handle) where
  with_grows : (b : Bool) (ss : Slots) (s : ℕ) → Grows ss (cond b (linked_at ss s) ss)
  with_grows true ss s = set_grows ss s
  with_grows false ss s = grows_not ss

  link_grows : (e : Entry) (ss : Slots) → Grows ss (link f e ss)
  link_grows (entry n c) ss = with_grows (some_is (kept ss c.slot.0) (child_of f c)) ss c.slot.0
  link_grows no_entry ss = grows_not ss

  pub links_grow : (es : List Cell) (ss : Slots) → Grows ss (links g f es ss)
  unfolding links
  links_grow [] ss = grows_not ss
  links_grow (e ∷ es) ss = grows_then (link_grows (entry_of g e) ss) (links_grow es (link f (entry_of g e) ss))

  -- by the slots that are there
  module _ (there : ℕ → Option Slot) where
    abbrev Knows : Slots → Type 0
    Knows ss = (s : ℕ) → kept ss s ≡ there s

    -- the slot of the child agrees
    abbrev pub Agreeing : Handle → Type 0
    Agreeing c = some_is (there c.slot.0) (child_of f c) ≡ true

    pub record One (e : Entry) (s : ℕ) : Type 0 where
      pub name : Name
      pub child : Handle
      pub here : e ≡ entry name child
      pub agreeing : Agreeing child
      pub is : child.slot.0 ≡ s

    link_knows : (e : Entry) (ss : Slots) → Knows ss → Knows (link f e ss)
    link_knows e ss known s = (link_grows e ss).kept s ∙ known s

    link_was : (e : Entry) (ss : Slots) → Knows ss → (s : ℕ) → Marked (link f e ss) s → Marked ss s ⊎ One e s
    link_was (entry n c) ss known s h = go (some_is (kept ss c.slot.0) (child_of f c)) refl h
      where
        go : (b : Bool) → some_is (kept ss c.slot.0) (child_of f c) ≡ b → Marked (cond b (linked_at ss c.slot.0) ss) s → Marked ss s ⊎ One (entry n c) s
        go true e h = elim (set_was ss c.slot.0 s h) [
          | inl q ↦ inr (record { name = n; child = c; here = refl; agreeing = ap (λ (o : Option Slot). some_is o (child_of f c)) (sym (known c.slot.0)) ∙ e; is = q })
          | inr old ↦ inl old
        ]
        go false e h = inl h
    link_was no_entry ss known s h = inl h

    link_has : (e : Entry) (ss : Slots) → Knows ss → (n : Name) (c : Handle) → e ≡ entry n c → Agreeing c → Marked (link f e ss) c.slot.0
    link_has e ss known n c q a =
        let h : some_is (kept ss c.slot.0) (child_of f c) ≡ true = ap (λ (o : Option Slot). some_is o (child_of f c)) (known c.slot.0) ∙ a in
        ap (λ (x : Entry). is_linked (link f x ss) c.slot.0) q
        ∙ ap (λ (b : Bool). is_linked (cond b (linked_at ss c.slot.0) ss) c.slot.0) h
        ∙ set_has ss c.slot.0 (child_of f c) h

    -- one of some cells
    pub record Via (es : List Cell) (s : ℕ) : Type 0 where
      pub place : ℕ
      pub inside : place < length es
      pub one : One (entry_of g (get_or es place [])) s

    pub links_was : (es : List Cell) (ss : Slots) → Knows ss → (s : ℕ) → Marked (links g f es ss) s → Marked ss s ⊎ Via es s
    unfolding links
    links_was [] ss known s h = inl h
    links_was (e ∷ es) ss known s h = elim (links_was es (link f (entry_of g e) ss) (link_knows (entry_of g e) ss known) s h) [
      | inl m ↦ elim (link_was (entry_of g e) ss known s m) [ inl old ↦ inl old | inr o ↦ inr (record { place = 0; inside = omega arith; one = o }) ]
      | inr w ↦ inr (record { place = suc w.place; inside = (let l = w.inside in omega arith); one = w.one })
    ]

    pub links_has : (es : List Cell) (ss : Slots) → Knows ss → (p : ℕ) (n : Name) (c : Handle) → p < length es → entry_of g (get_or es p []) ≡ entry n c →
        Agreeing c → Marked (links g f es ss) c.slot.0
    unfolding links
    links_has [] ss known p n c l e a = absurd (omega arith)
    links_has (x ∷ es) ss known zero n c l e a = (links_grow es (link f (entry_of g x) ss)).marks c.slot.0 (link_has (entry_of g x) ss known n c e a)
    links_has (x ∷ es) ss known (suc p) n c l e a = links_has es (link f (entry_of g x) ss) (link_knows (entry_of g x) ss known) p n c (omega arith) e a

-- ---- by what a block holds

-- nothing is marked, or the block is a good leaf of a folder
pub data Linking (g : Geometry) (b : ℕ) (x : Content) (ss : Slots) : Type 0 where
  nothing : links_by g b x ss ≡ ss → Linking g b x ss
  folder : (c : Back) (es : List Cell) → x ≡ folder_body c es → is_leaf ss Folder c b ≡ true → links_by g b x ss ≡ links g c.owner es ss → Linking g b x ss

pub linking : (g : Geometry) (b : ℕ) (x : Content) (ss : Slots) → Linking g b x ss
linking g b (folder_body c es) ss = go (is_leaf ss Folder c b) refl
  where
    go : (t : Bool) → is_leaf ss Folder c b ≡ t → Linking g b (folder_body c es) ss
    go true e = folder c es refl e (ap (λ (t : Bool). cond t (links g c.owner es ss) ss) e)
    go false e = nothing (ap (λ (t : Bool). cond t (links g c.owner es ss) ss) e)
linking g b (file_body c x) ss = nothing refl
linking g b blank ss = nothing refl
linking g b (cover z) ss = nothing refl
linking g b (slotted r) ss = nothing refl
linking g b ill_formed ss = nothing refl

pub by_grows : (g : Geometry) (b : ℕ) (x : Content) (ss : Slots) → Grows ss (links_by g b x ss)
by_grows g b x ss = elim (linking g b x ss) [
  | nothing e ↦ subst (Grows ss) (sym e) (grows_not ss)
  | folder c es is leaf e ↦ subst (Grows ss) (sym e) (links_grow g c.owner es ss)
]
