-- What a call writes reads back as it was meant, and keeps what a card and its blocks have in common.
use Rattle.std.proofs.Common.{◌≡◌, ℕ, suc, ◌+◌, ◌<◌, ◌≤◌, true, ◌&&◌, eqb, leb, List, [], ◌∷◌, ◌++◌, length, take, set, replicate, sym, refl, ap, ◌∙◌, subst, inl, inr, arith, length-set, length-take}
use Rattle.std.proofs.lemmas.Bool.{cases_eq, and_from, and_parts, eqb-true, eq-eqb, ne_eqb, leb-true, cond-true, cond-false}
use Rattle.base.specs.declared.owner.Kind.{Kind}
use Rattle.base.specs.declared.owner.Kind.TheVariants.{Folder}
use Rattle.base.specs.declared.owner.Handle.{Handle}
use Rattle.device.specs.Model.{Block, put}
use Rattle.layout.specs.Format.{Name, Cell, Geometry, back, Slot, Content, blank, slotted, file_body, folder_body, entry, in_limits, all_bodies, plain_bytes, good_name, cell, blank_cell, parse, encode, entry_of}
use Rattle.layout.specs.Identities.{entry_told, told}
use Rattle.layout.specs.Laws.{SlotFits, BackFits, whole_cells}
use Rattle.layout.proofs.Back.{read_back, entry_back, set_whole}
use Rattle.rule.specs.Agree.{Shown, View, seen, same_kind, same_handle, slot_in, count, number, root}
use Rattle.rule.specs.Card.{Card, is_root}
use Rattle.rule.specs.Changing.{with_numbers, grown, cut_to, new_slot, last_identity}
use Rattle.rule.specs.Meaning.{Fits, Rooted}
use Rattle.rule.proofs.Steps.{some_is_true}
use Rattle.rule.proofs.Means.{slot_in_some}
use Rattle.rule.proofs.Formed.{SlotFormed, slot_formed, body_at}
use Rattle.history.proofs.Puts.{bodies_push, bodies_take}
use Rattle.history.proofs.Written.{slot_lies, body_lies, cell_length, blank_cells, slot_whole, file_whole, folder_whole, blank_whole}
use Rattle.history.proofs.Parsed.{folder_parsed}
use Rattle.history.proofs.Stands.{told_own, told_parent, highest_set, highest_new, Limits}
use Rattle.history.proofs.Puts.{grown_count}
use Rattle.moves.specs.Tied.{Tied}
use Rattle.moves.proofs.Views.{upd, Framed}

-- ---- one put

-- y reads back at block b, tells identities up to `top` only, and is a whole block
pub record Lands (g : Geometry) (top b : ℕ) (y : Content) : Type 0 where
  pub parses : parse g b (encode y) ≡ y
  pub counted : told g y ≤ top
  pub whole : length (encode y) ≡ 512

pub seen_put : (g : Geometry) (shown : Shown) (b : ℕ) (z : Block) (y : Content) → parse g b z ≡ y → seen g (put shown b z) ≡ upd (seen g shown) b y
seen_put g shown b z y e = λ i x. at x i
  where
    at : (x : ℕ) → parse g x (put shown b z x) ≡ upd (seen g shown) b y x
    at x = elim (cases_eq x b) [
      | inl q ↦ ap (parse g x) (cond-true (eqb x b) z (shown x) (eq-eqb x b q)) ∙ ap (λ (i : ℕ). parse g i z) q ∙ e ∙ sym (cond-true (eqb x b) y (seen g shown x) (eq-eqb x b q))
      | inr q ↦ ap (parse g x) (cond-false (eqb x b) z (shown x) (ne_eqb x b q)) ∙ sym (cond-false (eqb x b) y (seen g shown x) (ne_eqb x b q))
    ]

-- what the blocks alone have in common with a highest identity
pub record Fine (g : Geometry) (top : ℕ) (shown : Shown) : Type 0 where
  pub root : is_root (seen g shown 1) ≡ true
  pub counted : (b : ℕ) → told g (seen g shown b) ≤ top
  pub whole : (b : ℕ) → 0 < b → b < g.blocks → length (shown b) ≡ 512

pub fine_put : (g : Geometry) (high top : ℕ) (shown : Shown) (b : ℕ) (y : Content) → high ≤ top → Fine g high shown → Lands g top b y → (b ≡ 1 → is_root y ≡ true) → Fine g top (put shown b (encode y))
fine_put g high top shown b y up f l r = record {
  root = elim (cases_eq 1 b) [
    | inl q ↦ ap is_root (here 1 q) ∙ r (sym q)
    | inr q ↦ ap is_root (there 1 q) ∙ f.root
  ];
  counted = λ x. elim (cases_eq x b) [
    | inl q ↦ subst (λ (c : Content). told g c ≤ top) (sym (here x q)) l.counted
    | inr q ↦ subst (λ (c : Content). told g c ≤ top) (sym (there x q)) (let a = f.counted x in omega arith)
  ];
  whole = λ x above low. elim (cases_eq x b) [
    | inl q ↦ ap length (cond-true (eqb x b) (encode y) (shown x) (eq-eqb x b q)) ∙ l.whole
    | inr q ↦ ap length (cond-false (eqb x b) (encode y) (shown x) (ne_eqb x b q)) ∙ f.whole x above low
  ];
}
  where
    same : (x : ℕ) → seen g (put shown b (encode y)) x ≡ upd (seen g shown) b y x
    same x = ap (λ (v : View). v x) (seen_put g shown b (encode y) y l.parses)

    here : (x : ℕ) → x ≡ b → seen g (put shown b (encode y)) x ≡ y
    here x q = same x ∙ cond-true (eqb x b) y (seen g shown x) (eq-eqb x b q)

    there : (x : ℕ) → (x ≡ b → ⊥) → seen g (put shown b (encode y)) x ≡ seen g shown x
    there x q = same x ∙ cond-false (eqb x b) y (seen g shown x) (ne_eqb x b q)

pub limits_of : (g : Geometry) → in_limits g.blocks g.slots ≡ true → Limits g
limits_of g e =
    let a = and_parts (leb 2 g.slots) (leb g.slots 256 && (leb (g.slots + 2) g.blocks && leb g.blocks 4096)) e in
    let b = and_parts (leb g.slots 256) (leb (g.slots + 2) g.blocks && leb g.blocks 4096) a.1 in
    let c = and_parts (leb (g.slots + 2) g.blocks) (leb g.blocks 4096) b.1 in
    record {
      low = leb-true 2 g.slots a.0;
      thin = leb-true g.slots 256 b.0;
      bodies = (let w = leb-true (g.slots + 2) g.blocks c.0 in omega arith);
      small = leb-true g.blocks 4096 c.1;
      within = e;
    }

module _ (g : Geometry) (c : Card) (shown : Shown) (tied : Tied g c shown) where
  abbrev v : View
  v = seen g shown

  abbrev high : ℕ
  high = c.highest

  limits : Limits g
  limits = limits_of g tied.limits

  pub fine : Fine g high shown
  fine = record { root = tied.root; counted = tied.counted; whole = tied.whole }

  pub rooted : Rooted g v
  rooted =
      let w = some_is_true (slot_in (v 1)) (λ r. same_kind r.kind Folder && (eqb r.identity 1 && same_handle r.parent root)) tied.root in
      let a = and_parts (same_kind w.0.kind Folder) (eqb w.0.identity 1 && same_handle w.0.parent root) w.2 in
      let b = and_parts (eqb w.0.identity 1) (same_handle w.0.parent root) a.1 in
      (w.0, record { inside = (let l = limits.low in omega arith); holds = slot_in_some (v 1) w.0 w.1; same = eqb-true w.0.identity 1 b.0 })

  formed : (h : Handle) (r : Slot) → Fits g v h r → SlotFormed g (suc h.slot.0) r
  formed h r f = slot_formed g (suc h.slot.0) (shown (suc h.slot.0)) r f.holds

  slot_low : (h : Handle) (r : Slot) → Fits g v h r → told g (slotted r) ≤ high
  slot_low h r f = subst (λ (y : Content). told g y ≤ high) f.holds (tied.counted (suc h.slot.0))

  pub handle_low : (h : Handle) (r : Slot) → Fits g v h r → h.identity.0 ≤ high
  handle_low h r f = let a = slot_low h r f in let b = told_own g r in let c = f.same in omega arith

  handle_own : (h : Handle) (r : Slot) → Fits g v h r → 1 ≤ h.identity.0
  handle_own h r f = let a = (formed h r f).identity in let c = f.same in omega arith

  pub leaf_block : (h : Handle) (r : Slot) (k : ℕ) → Fits g v h r → k < count r → (g.slots < number r k) × (number r k < g.blocks)
  leaf_block h r k f l = body_at g r.numbers k (formed h r f).numbers l

  pub framed : Framed g v
  framed h r k f l = (leaf_block h r k f l).0

  backed : (h : Handle) (r : Slot) (k : ℕ) → Fits g v h r → k < 64 → BackFits g (back h k)
  backed h r k f l = record { slot = f.inside; own = (handle_own h r f, (let a = handle_low h r f in let b = tied.narrow in omega arith)); leaf = l }

  -- a slot with other numbers
  slot_lands : (top : ℕ) (h : Handle) (r : Slot) (ns : List ℕ) → high ≤ top → Fits g v h r → length ns ≤ 64 → all_bodies g ns ≡ true →
      Lands g top (suc h.slot.0) (slotted (with_numbers r ns))
  slot_lands top h r ns up f few bodies = record {
    parses = read_back g tied.limits (slotted (with_numbers r ns)) (suc h.slot.0) (slot_lies g (suc h.slot.0) (omega arith) f.inside, fits);
    counted = (let a = slot_low h r f in omega arith);
    whole = slot_whole (with_numbers r ns) few;
  }
    where
      fits : SlotFits g (with_numbers r ns)
      fits =
          let o = formed h r f in
          let a = slot_low h r f in
          let n = tied.narrow in
          record {
            few = few;
            own = (o.identity, (let c = told_own g r in omega arith));
            parent = (o.parent_identity, (let c = told_parent g r in omega arith));
            parent_slot = o.parent;
            bodies = bodies;
          }

  pub grown_lands : (top : ℕ) (h : Handle) (r : Slot) (i : ℕ) → high ≤ top → Fits g v h r → count r < 64 → g.slots < i → i < g.blocks → Lands g top (suc h.slot.0) (slotted (grown r i))
  grown_lands top h r i up f room above inside =
      slot_lands top h r (r.numbers ++ (i ∷ [])) up f (let a = grown_count r i in omega arith) (bodies_push g r.numbers i (formed h r f).numbers above inside)

  pub cut_lands : (h : Handle) (r : Slot) (n : ℕ) → Fits g v h r → Lands g high (suc h.slot.0) (slotted (cut_to r n))
  cut_lands h r n f =
      slot_lands high h r (take n r.numbers) (omega arith) f (let a = length-take n r.numbers in let w = (formed h r f).count in omega arith) (bodies_take g n r.numbers (formed h r f).numbers)

  pub file_lands : (h : Handle) (r : Slot) (k b : ℕ) (x : List ℕ) → Fits g v h r → k < 64 → length x ≤ 496 → g.slots < b → b < g.blocks → Lands g high b (file_body (back h k) x)
  file_lands h r k b x f l size above inside = record {
    parses = read_back g tied.limits (file_body (back h k) x) b (body_lies g b above inside, backed h r k f l, size);
    counted = handle_low h r f;
    whole = file_whole (back h k) x size;
  }

  -- a folder body with one cell written over
  pub cell_lands : (top : ℕ) (h : Handle) (r : Slot) (k p : ℕ) (es : List Cell) (e : Cell) → high ≤ top → Fits g v h r → k < count r → v (number r k) ≡ folder_body (back h k) es →
      length e ≡ 32 → entry_told (entry_of g e) ≤ top → Lands g top (number r k) (folder_body (back h k) (set es p e))
  cell_lands top h r k p es e up f l stood le low =
      let at = leaf_block h r k f l in
      let cs = folder_parsed g (number r k) (shown (number r k)) (back h k) es at.0 at.1 (tied.whole (number r k) (let a = at.0 in omega arith) at.1) stood in
      let few = (formed h r f).count in
      let old : told g (folder_body (back h k) es) ≤ high = subst (λ (y : Content). told g y ≤ high) stood (tied.counted (number r k)) in
      record {
        parses = read_back g tied.limits (folder_body (back h k) (set es p e)) (number r k) (body_lies g (number r k) at.0 at.1, backed h r k f (omega arith), length-set es p e ∙ cs.0, set_whole es p e le cs.1);
        counted = (let w = highest_set g es p e top low (omega arith) in let a = handle_low h r f in omega arith);
        whole = folder_whole (back h k) (set es p e) (length-set es p e ∙ cs.0) (set_whole es p e le cs.1);
      }

  -- a new folder body with one entry
  pub leaf_lands : (top : ℕ) (h : Handle) (r : Slot) (b : ℕ) (e : Cell) → high ≤ top → Fits g v h r → count r < 64 → g.slots < b → b < g.blocks →
      length e ≡ 32 → entry_told (entry_of g e) ≤ top → Lands g top b (folder_body (back h (count r)) (e ∷ replicate 14 blank_cell))
  leaf_lands top h r b e up f room above inside le low = record {
    parses = read_back g tied.limits (folder_body (back h (count r)) (e ∷ replicate 14 blank_cell)) b (body_lies g b above inside, backed h r (count r) f room, refl, cells);
    counted = (let w = highest_new g e 14 top low in let a = handle_low h r f in omega arith);
    whole = folder_whole (back h (count r)) (e ∷ replicate 14 blank_cell) refl cells;
  }
    where
      cells : whole_cells (e ∷ replicate 14 blank_cell) ≡ true
      cells = and_from _ _ (eq-eqb (length e) 32 le) (blank_cells 14)

  -- the slot of a new child of f
  pub new_lands : (d : Kind) (f : Handle) (r : Slot) (s : ℕ) → Fits g v f r → s < g.slots → high < last_identity → Lands g (suc high) (suc s) (slotted (new_slot d f (suc high)))
  new_lands d f r s fit inside room = record {
    parses = read_back g tied.limits (slotted (new_slot d f (suc high))) (suc s) (slot_lies g (suc s) (omega arith) inside, fits);
    counted = (let b = handle_low f r fit in omega arith);
    whole = slot_whole (new_slot d f (suc high)) (omega arith);
  }
    where
      fits : SlotFits g (new_slot d f (suc high))
      fits = record {
        few = omega arith;
        own = (omega arith, omega arith);
        parent = (handle_own f r fit, (let b = handle_low f r fit in omega arith));
        parent_slot = fit.inside;
        bodies = refl;
      }

  pub blank_lands : (s : ℕ) → s < g.slots → Lands g high (suc s) blank
  blank_lands s inside = record {
    parses = read_back g tied.limits blank (suc s) (inl (slot_lies g (suc s) (omega arith) inside));
    counted = omega arith;
    whole = blank_whole;
  }

  -- the entry of a new child
  name_short : (n : Name) → good_name n ≡ true → length n ≤ 24
  name_short n e =
      let x = and_parts (leb 1 (length n)) (leb (length n) 24 && plain_bytes n) e in
      leb-true (length n) 24 (and_parts (leb (length n) 24) (plain_bytes n) x.1).0

  pub entry_size : (n : Name) (a : Handle) → good_name n ≡ true → length (cell n a) ≡ 32
  entry_size n a e = cell_length n a (name_short n e)

  pub entry_new : (n : Name) (a : Handle) → good_name n ≡ true → 0 < a.slot.0 → a.slot.0 < g.slots → a.identity.0 ≡ suc high → high < last_identity → entry_of g (cell n a) ≡ entry n a
  entry_new n a e above inside own room = entry_back g tied.limits n a e (record { from_one = above; slot = inside; own = (omega arith, omega arith) })
