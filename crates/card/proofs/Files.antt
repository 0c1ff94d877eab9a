-- Reading a leaf, one check after another.
use Rattle.std.proofs.Common.{◌≡◌, ℕ, ◌<◌, ◌≤◌, true, ltb, leb, List, Some, None, Ok, Err, Option, Result, sym, refl, ap, ◌∙◌, subst, inl, inr, arith}
use Rattle.std.specs.Option.{ok_or}
use Rattle.std.proofs.lemmas.Bool.{and_parts, lt-ltb, le-ltb, le-leb, lt-leb}
use Rattle.base.specs.declared.number.BlockNo.{BlockNo}
use Rattle.base.specs.declared.owner.Kind.{Kind}
use Rattle.base.specs.declared.owner.Kind.TheVariants.{File, Folder}
use Rattle.base.specs.declared.owner.Handle.{Handle}
use Rattle.base.specs.declared.refusal.Refusal.{Refusal}
use Rattle.base.specs.declared.refusal.Refusal.TheVariants.{NoSuchLeaf, LeafNotGood, BadLength}
use Rattle.device.specs.Model.{Model}
use Rattle.layout.specs.Format.{Geometry, Slot, back}
use Rattle.layout.specs.Sizes.{sizes}
use Rattle.layout.specs.declared.geometry.Geometry.{Geometry as CardGeometry}
use Rattle.rule.specs.Agree.{Shown, View, seen, count, number, good, names, same_kind}
use Rattle.rule.specs.Card.{Ready, block}
use Rattle.rule.specs.Check.{Answer}
use Rattle.rule.specs.Meaning.{Body}
use Rattle.rule.specs.Reading.{fits, kind_is, reading, bytes_in, read}
use Rattle.card.proofs.Quiet.{Quiet, ok_quiet, check_quiet, bind_quiet, reading_quiet}
use Rattle.rule.proofs.Steps.{names_true}
use Rattle.walk.specs.Copies.{front, Holds, LeafIs}
use Rattle.walk.specs.Still.{Still, Gives, shows}
use Rattle.walk.specs.declared.leaf_copy.LeafCopy.{LeafCopy}
use Rattle.walk.proofs.Stepping.{bind_ok, bind_err, check_ok, check_err, kind_ok, kind_err, reading_ok, reading_err}
use Rattle.card.specs.Calls.{Fills}
use Rattle.card.specs.Files.{leaf_bytes}

no_ok : {A B E : Type 0} {a : B} {e : E} → Err e ≡ Ok a → A
no_ok q = let z : ◌≡◌ {A = ℕ} 0 1 = cc in absurd (omega arith)

no_kind : {A : Type 0} → File ≡ Folder → A
no_kind e = let z : ◌≡◌ {A = ℕ} 0 1 = cc in absurd (omega arith)

-- what is read as a file is one
reading_file : (g : Geometry) (v : View) (h : Handle) (r : Slot) → reading g v File h ≡ Ok r → r.kind ≡ File
reading_file g v h r e = go (fits g v h) refl
  where
    same : (s : Slot) (d : Kind) → s.kind ≡ d → kind_is File h s ≡ Ok r → r.kind ≡ File
    same s File k q =
        let w = sym (kind_ok File h s (ap (λ (x : Kind). same_kind x File) k)) ∙ q in
        let z : s ≡ r = cc in
        ap (λ (x : Slot). x.kind) (sym z) ∙ k
    same s Folder k q = no_ok (sym (kind_err File h s (ap (λ (x : Kind). same_kind x File) k)) ∙ q)

    go : (x : Answer Slot) → fits g v h ≡ x → r.kind ≡ File
    go (Ok s) f = same s s.kind refl (sym (reading_ok g v File h s f) ∙ e)
    go (Err d) f = no_ok (sym (reading_err g v File h d f) ∙ e)

module _ (g : Geometry) (v : View) (h : Handle) (k : ℕ) where
  pub bytes_err : (e : Refusal) → reading g v File h ≡ Err e → leaf_bytes g v h k ≡ Err e
  bytes_err e q = bind_err _ _ e q

  module _ (r : Slot) (is : reading g v File h ≡ Ok r) where
    pub bytes_past : count r ≤ k → leaf_bytes g v h k ≡ Err (NoSuchLeaf (record { 0 = k }))
    bytes_past l = bind_ok _ _ r is ∙ bind_err _ _ _ (check_err (ltb k (count r)) _ (le-ltb k (count r) l))

    module _ (l : k < count r) where
      pub bytes_bad : (o : Option LeafCopy) (b : BlockNo) → o ≡ None → LeafIs v h r k o → b.0 ≡ number r k → leaf_bytes g v h k ≡ Err (LeafNotGood b)
      bytes_bad o b e w q =
          bind_ok _ _ r is ∙ bind_ok _ _ tt (check_ok (ltb k (count r)) _ (lt-ltb k (count r) l))
          ∙ bind_err _ _ _ (check_err (good v h r k) _ (subst (LeafIs v h r k) e w)) ∙ ap (λ (i : ℕ). Err (LeafNotGood (record { 0 = i }))) (sym q)

      pub bytes_good : (o : Option LeafCopy) (x : LeafCopy) → o ≡ Some x → LeafIs v h r k o → leaf_bytes g v h k ≡ Ok (front x)
      bytes_good o x e w =
          bind_ok _ _ r is ∙ bind_ok _ _ tt (check_ok (ltb k (count r)) _ (lt-ltb k (count r) l))
          ∙ bind_ok _ _ tt (check_ok (good v h r k) _ y.0) ∙ ap Ok (go (names_true r.kind (back h k) (v (number r k)) (and_parts (ltb k (count r)) (names r.kind (back h k) (v (number r k))) y.0).1))
        where
          y : (good v h r k ≡ true) × Holds x (v (number r k))
          y = subst (LeafIs v h r k) e w

          go : Body r.kind (back h k) (v (number r k)) → bytes_in (v (number r k)) ≡ front x
          go (inl (z, file, at)) = ap bytes_in at ∙ sym (subst (Holds x) at y.1)
          go (inr (es, folder, at)) = no_kind (sym (reading_file g v h r is) ∙ folder)

-- the copy of a leaf, if it is good
pub leaf_gives : (g : CardGeometry) (m n : Model) (h : Handle) (k : ℕ) (r : Slot) → reading (sizes g) (shows g m) File h ≡ Ok r → k < count r → (o : Option LeafCopy) (b : BlockNo) (a : Answer LeafCopy) → a ≡ ok_or o (LeafNotGood b) → b.0 ≡ number r k →
    LeafIs (shows g m) h r k o → Still m n → Gives g a (leaf_bytes (sizes g) (shows g m) h k) (λ l. leaf_bytes (sizes g) (shows g m) h k ≡ Ok (front l)) m n
leaf_gives g m n h k r is l o b a e at w s = subst (λ (z : Answer LeafCopy). Gives g z (leaf_bytes (sizes g) (shows g m) h k) (λ l. leaf_bytes (sizes g) (shows g m) h k ≡ Ok (front l)) m n) (sym e) (go o w)
  where
    go : (o : Option LeafCopy) → LeafIs (shows g m) h r k o → Gives g (ok_or o (LeafNotGood b)) (leaf_bytes (sizes g) (shows g m) h k) (λ l. leaf_bytes (sizes g) (shows g m) h k ≡ Ok (front l)) m n
    go (Some x) w = (s, bytes_good (sizes g) (shows g m) h k r is l (Some x) x refl w)
    go None w = inl (s, bytes_bad (sizes g) (shows g m) h k r is l None b refl w at)

-- ---- the whole call

module _ (h : Handle) (k room : ℕ) (shown : Shown) where
  pub read_short : (x : Ready) → room < 496 → read h k room x shown ≡ Err (BadLength room)
  unfolding read
  read_short x l = bind_err _ _ _ (check_err (leb 496 room) _ (lt-leb 496 room l))

  module _ (enough : 496 ≤ room) where
    pub read_unready : (x : Ready) (e : Refusal) → x ≡ Err e → read h k room x shown ≡ Err e
    unfolding read
    read_unready x e r = bind_ok _ _ tt (check_ok (leb 496 room) _ (le-leb 496 room enough)) ∙ bind_err _ _ e r

    pub read_ready : (x : Ready) (g : Geometry) → x ≡ Ok g → read h k room x shown ≡ leaf_bytes g (seen g shown) h k
    unfolding read
    read_ready x g r = bind_ok _ _ tt (check_ok (leb 496 room) _ (le-leb 496 room enough)) ∙ bind_ok _ _ g r

pub leaf_quiet : (g : Geometry) (v : View) (h : Handle) (k : ℕ) → Quiet (leaf_bytes g v h k)
leaf_quiet g v h k =
    bind_quiet _ _ (reading_quiet g v File h) (λ r. bind_quiet _ _ (check_quiet _ (NoSuchLeaf (record { 0 = k })) (λ n. omega arith)) (λ u. bind_quiet _ _ (check_quiet _ (LeafNotGood (block (number r k))) (λ n. omega arith)) (λ w. ok_quiet _)))

pub fills_exit : (r : Result ℕ Refusal) (z : List ℕ) (d : Refusal) → r ≡ Err d → Fills (Err d) r z z
fills_exit r z d p = subst (λ (x : Result ℕ Refusal). Fills (Err d) x z z) (sym p) (refl, refl)
