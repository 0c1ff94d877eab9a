-- What a read answers rests on the file's slot and on what stands for the leaf.
use Rattle.std.proofs.Common.{◌≡◌, ℕ, ◌<◌, Bool, true, false, cond, ◌&&◌, ltb, leb, List, Some, None, Ok, Err, Option, Result, sym, refl, ap, ◌∙◌}
use Rattle.std.proofs.lemmas.Bool.{ltb-true}
use Rattle.base.specs.declared.owner.Kind.{Kind}
use Rattle.base.specs.declared.owner.Kind.TheVariants.{File}
use Rattle.base.specs.declared.owner.Handle.{Handle}
use Rattle.base.specs.declared.owner.Back.{Back}
use Rattle.base.specs.declared.refusal.Refusal.{Refusal}
use Rattle.base.specs.declared.refusal.Refusal.TheVariants.{NoSuchLeaf, LeafNotGood, BadLength}
use Rattle.layout.specs.Format.{Geometry, back, Slot, Content, blank, cover, slotted, file_body, folder_body, ill_formed}
use Rattle.rule.specs.Agree.{Shown, seen, count, number, names, good, same_back}
use Rattle.rule.specs.Check.{Answer, ◌>>=◌, check, demand}
use Rattle.rule.specs.Card.{block}
use Rattle.rule.specs.Reading.{reading, read, bytes_in}
use Rattle.rule.specs.Meaning.{Fits}
use Rattle.rule.proofs.Answered.{bind_from, reading_answers}
use Rattle.history.proofs.Trail.{leaf_in}

-- what a read answers, by the slot and what stands for the leaf
leaf_answer : Slot → ℕ → ℕ → Option (List ℕ) → Answer (List ℕ)
leaf_answer r k room o = do
  _ ← check (leb 496 room) (BadLength room)
  _ ← check (ltb k (count r)) (NoSuchLeaf (record { 0 = k }))
  demand o (LeafNotGood (block (number r k)))

bind_same : {A B E : Type 0} (e : Result A E) (k l : A → Result B E) → ((a : A) → k a ≡ l a) → (e >>= k) ≡ (e >>= l)
unfolding ◌>>=◌
bind_same (Ok a) k l h = h a
bind_same (Err r) k l h = refl

leaf_body : (b : Back) (y : Content) (r : Refusal) → (check (names File b y) r >>= λ u. Ok (bytes_in y)) ≡ demand (leaf_in b y) r
unfolding check demand ◌>>=◌
leaf_body b (file_body c x) r = go (same_back b c)
  where
    go : (t : Bool) → (check t r >>= λ u. Ok x) ≡ demand (cond t (Some x) None) r
    go true = refl
    go false = refl
leaf_body b (folder_body c es) r = refl
leaf_body b (slotted s) r = refl
leaf_body b blank r = refl
leaf_body b (cover g) r = refl
leaf_body b ill_formed r = refl

leaf_below : (t : Bool) (d : Kind) (b : Back) (y : Content) (q r : Refusal) → d ≡ File →
    (check t q >>= λ u. (check (t && names d b y) r >>= λ w. Ok (bytes_in y))) ≡ (check t q >>= λ u. demand (leaf_in b y) r)
unfolding check ◌>>=◌
leaf_below true d b y q r e = ap (λ (k : Kind). check (names k b y) r >>= λ w. Ok (bytes_in y)) e ∙ leaf_body b y r
leaf_below false d b y q r e = refl

read_is : (h : Handle) (k room : ℕ) (g : Geometry) (shown : Shown) (r : Slot) → Fits g (seen g shown) h r → r.kind ≡ File →
    read h k room (Ok g) shown ≡ leaf_answer r k room (leaf_in (back h k) (seen g shown (number r k)))
unfolding read leaf_answer
read_is h k room g shown r f d = bind_same (check (leb 496 room) (BadLength room)) _ _ (λ u. inner)
  where
    inner : (◌>>=◌ {A = Geometry} {E = Refusal} (Ok g) (λ y. reading y (seen y shown) File h >>= λ s. (check (ltb k (count s)) (NoSuchLeaf (record { 0 = k })) >>= λ u. (check (good (seen y shown) h s k) (LeafNotGood (block (number s k))) >>= λ w. Ok (bytes_in (seen y shown (number s k)))))))
        ≡ (check (ltb k (count r)) (NoSuchLeaf (record { 0 = k })) >>= λ u. demand (leaf_in (back h k) (seen g shown (number r k))) (LeafNotGood (block (number r k))))
    inner =
        bind_from {A = Geometry} (Ok g) _ g refl
        ∙ bind_from (reading g (seen g shown) File h) _ r (reading_answers g (seen g shown) File h r f d)
        ∙ leaf_below (ltb k (count r)) r.kind (back h k) (seen g shown (number r k)) _ _ d

pub read_same : (h : Handle) (k room : ℕ) (g : Geometry) (a b : Shown) (r : Slot) → Fits g (seen g a) h r → Fits g (seen g b) h r → r.kind ≡ File →
    (k < count r → leaf_in (back h k) (seen g a (number r k)) ≡ leaf_in (back h k) (seen g b (number r k))) → read h k room (Ok g) a ≡ read h k room (Ok g) b
unfolding leaf_answer check ◌>>=◌
read_same h k room g a b r fa fb d same = read_is h k room g a r fa d ∙ middle ∙ sym (read_is h k room g b r fb d)
  where
    middle : leaf_answer r k room (leaf_in (back h k) (seen g a (number r k))) ≡ leaf_answer r k room (leaf_in (back h k) (seen g b (number r k)))
    middle = bind_same (check (leb 496 room) (BadLength room)) _ _ (λ u. go (ltb k (count r)) refl)
      where
        go : (t : Bool) → ltb k (count r) ≡ t →
            (check t (NoSuchLeaf (record { 0 = k })) >>= λ u. demand (leaf_in (back h k) (seen g a (number r k))) (LeafNotGood (block (number r k))))
            ≡ (check t (NoSuchLeaf (record { 0 = k })) >>= λ u. demand (leaf_in (back h k) (seen g b (number r k))) (LeafNotGood (block (number r k))))
        go true e = ap (λ (o : Option (List ℕ)). check true (NoSuchLeaf (record { 0 = k })) >>= λ u. demand o (LeafNotGood (block (number r k)))) (same (ltb-true k (count r) e))
        go false e = refl
