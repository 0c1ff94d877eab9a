-- Lines added one after another.
use Rattle.std.proofs.Common.{◌≡◌, ℕ, ◌+◌, ◌^◌, ◌<◌, ◌≤◌, List, [], ◌++◌, sym, subst, append_assoc, arith}
use Rattle.std.proofs.lemmas.List.{length-append}
use Rattle.listing.specs.Lines.{Sofar}
use Rattle.listing.proofs.Listing.{none_yet}
use Rattle.device.specs.Model.{Model}
use Rattle.rule.specs.Agree.{Shown}
use Rattle.walk.specs.Still.{Still}
use Rattle.tours.specs.Lists.{Adds}

module _ {L : Type 0} where
  pub adds_then : (a b : ℕ) (xs ys : List L) (c : ℕ) (l : List L) (c' : ℕ) (l' : List L) (c'' : ℕ) (l'' : List L) →
      Adds a xs c l c' l' → Adds b ys c' l' c'' l'' → Adds (a + b) (xs ++ ys) c l c'' l''
  adds_then a b xs ys c l c' l' c'' l'' p q = record {
    few = omega (arith, length-append xs ys, p.few, q.few);
    onto = λ before done room s.
        let all = length-append xs ys in
        let front = length-append done xs in
        subst (λ (zs : List L). Sofar before zs c'' l'') (append_assoc done xs ys)
        (q.onto before (done ++ xs) (omega arith) (p.onto before done (omega arith) s));
  }

  pub adds_is : (a b : ℕ) (xs ys : List L) (c : ℕ) (l : List L) (c' : ℕ) (l' : List L) → a ≤ b → xs ≡ ys → Adds a xs c l c' l' → Adds b ys c l c' l'
  adds_is a b xs ys c l c' l' h e p = subst (λ (zs : List L). Adds b zs c l c' l') e (record { few = omega (arith, p.few, h); onto = p.onto })

  -- more was added after reads, by what is shown
  pub adds_more : (F : Shown → List L) (m k : Model) (a b t : ℕ) (xs zs : List L) (c : ℕ) (l : List L) (c' : ℕ) (l' : List L) (c'' : ℕ) (l'' : List L) →
      Still m k → a + b ≤ t → xs ++ F m.shown ≡ zs → Adds a xs c l c' l' → Adds b (F k.shown) c' l' c'' l'' → Adds t zs c l c'' l''
  adds_more F m k a b t xs zs c l c' l' c'' l'' s h e p q =
      adds_is (a + b) t (xs ++ F m.shown) zs c l c'' l'' h e
      (adds_then a b xs (F m.shown) c l c' l' c'' l'' p (subst (λ (sh : Shown). Adds b (F sh) c' l' c'' l'') s.kept.shown q))

  -- all that was added, over lines where nothing was listed
  pub adds_all : (a : ℕ) (xs : List L) (l : List L) (c : ℕ) (l' : List L) → a < 2 ^ 64 → Adds a xs 0 l c l' → Sofar l xs c l'
  adds_all a xs l c l' h p = p.onto l [] (omega (arith, p.few, h)) (none_yet l)

  -- what a list holds is what the caller's lines are left with
  pub listed_to : (before begun : List L) (xs ys : List L) (c c' : ℕ) (l l' : List L) → begun ≡ before → xs ≡ ys → c' ≡ c → l ≡ l' → Sofar begun xs c l → Sofar before ys c' l'
  listed_to before begun xs ys c c' l l' eb ex ec el s = rw (sym eb, sym ex, ec, sym el) s
