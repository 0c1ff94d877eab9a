-- What blocks show, and what may stand there, as puts join a log and as a log lands.
use Rattle.std.proofs.Common.{◌≡◌, ℕ, zero, suc, ◌+◌, ◌%◌, ◌<◌, ◌≤◌, Bool, true, false, cond, eqb, ltb, ◌⊎◌, List, [], ◌∷◌, ◌++◌, length, get_or, set, sym, refl, ap, ◌∙◌, inl, inr, ⊎_elim, arith, length-set}
use Rattle.std.proofs.lemmas.List.{get_or-set_same, get_or-set_other, get_or_past, get_or_read}
use Rattle.std.proofs.lemmas.Bool.{cases_eq, cases_lt, eq-eqb, ne_eqb, lt-ltb, le-ltb}
use Rattle.device.specs.Model.{Block, In, Is, put}
use Rattle.device.specs.declared.put.Put.{Put}
use Rattle.power.specs.View.{written, newest_of, held, contents, shows}
use Rattle.power.specs.Calls.{replay, chosen, pick}

-- ---- lists of contents

newest_push : (x : Block) (ys : List Block) (c : Block) → newest_of x (ys ++ c ∷ []) ≡ c
newest_push x [] c = refl
newest_push x (y ∷ ys) c = newest_push y ys c

in_push : (x : Block) (ys : List Block) (c : Block) → In x (ys ++ c ∷ []) → In x ys ⊎ (x ≡ c)
unfolding In
in_push x [] c h = ⊎_elim inr absurd h
in_push x (y ∷ ys) c h = ⊎_elim (λ e. inl (inl e)) (λ q. ⊎_elim (λ k. inl (inr k)) inr (in_push x ys c q)) h

pub getD_in : (xs : List Block) (k : ℕ) (d : Block) → k < length xs → In (get_or xs k d) xs
unfolding In
getD_in [] k d l = absurd (omega arith)
getD_in (x ∷ xs) zero d l = inl refl
getD_in (x ∷ xs) (suc k) d l = inr (getD_in xs k d (omega arith))

-- ---- a log with one put more

written_push : (log : List Put) (w : Put) (i : ℕ) → written (log ++ w ∷ []) i ≡ cond (eqb i w.block.0) (written log i ++ w.bytes ∷ []) (written log i)
written_push [] w i = refl
written_push (v ∷ log) w i =
    by (eqb i v.block.0) (eqb i w.block.0) (written_push log w i)
  where
    by : (s t : Bool) → written (log ++ w ∷ []) i ≡ cond t (written log i ++ w.bytes ∷ []) (written log i) → cond s (v.bytes ∷ written (log ++ w ∷ []) i) (written (log ++ w ∷ []) i) ≡ cond t (cond s (v.bytes ∷ written log i) (written log i) ++ w.bytes ∷ []) (cond s (v.bytes ∷ written log i) (written log i))
    by true true e = ap (λ (xs : List Block). v.bytes ∷ xs) e
    by true false e = ap (λ (xs : List Block). v.bytes ∷ xs) e
    by false true e = e
    by false false e = e

module _ (ss : List Block) (log : List Put) (w : Put) (inside : w.block.0 < length ss) where
  held_here : held ss (log ++ w ∷ []) w.block.0 ≡ held ss log w.block.0 ++ w.bytes ∷ []
  held_here =
      let t : ltb w.block.0 (length ss) ≡ true = lt-ltb _ _ inside in
      let e : eqb w.block.0 w.block.0 ≡ true = eq-eqb _ _ refl in
      rw (t, written_push log w w.block.0, e)

  held_other : (i : ℕ) → (i ≡ w.block.0 → ⊥) → held ss (log ++ w ∷ []) i ≡ held ss log i
  held_other i ne =
      let e : eqb i w.block.0 ≡ false = ne_eqb _ _ ne in
      ap (λ (xs : List Block). cond (ltb i (length ss)) xs []) (rw (written_push log w i, e))

  pub shows_push : (i : ℕ) → shows ss (log ++ w ∷ []) i ≡ put (shows ss log) w.block.0 w.bytes i
  unfolding shows
  shows_push i =
      ⊎_elim
      (λ e. rw (eq-eqb i w.block.0 e) (rw (e, held_here) (newest_push (get_or ss w.block.0 []) (held ss log w.block.0) w.bytes)))
      (λ ne. rw (ne_eqb i w.block.0 ne) (ap (newest_of (get_or ss i [])) (held_other i ne)))
      (cases_eq i w.block.0)

  pub contents_push : (i : ℕ) (x : Block) → In x (contents ss (log ++ w ∷ []) i) → In x (contents ss log i) ⊎ Is w.block.0 w.bytes i x
  unfolding contents
  contents_push i x h =
      ⊎_elim
      (λ e. ⊎_elim inl (λ k. inr (e, k)) (in_push x (get_or ss i [] ∷ held ss log i) w.bytes (rw (e, ← held_here) (rw e at h))))
      (λ ne. inl (rw (held_other i ne) at h))
      (cases_eq i w.block.0)

-- ---- an empty log

empty_held : (ss : List Block) (i : ℕ) → held ss [] i ≡ []
empty_held ss i = by (ltb i (length ss))
  where
    by : (t : Bool) → cond {A = List Block} t [] [] ≡ []
    by true = refl
    by false = refl

pub shows_landed : (ss : List Block) (i : ℕ) → shows ss [] i ≡ get_or ss i []
unfolding shows
shows_landed ss i = ap (newest_of (get_or ss i [])) (empty_held ss i)

pub only_landed : (ss : List Block) (i : ℕ) (x : Block) → In x (contents ss [] i) → x ≡ shows ss [] i
unfolding contents In
only_landed ss i x h =
    ⊎_elim (λ e. e ∙ sym (shows_landed ss i)) (λ q. absurd (rw (empty_held ss i) at q)) h

-- ---- a log lands

pub shows_step : (ss : List Block) (w : Put) (ws : List Put) (i : ℕ) → shows (set ss w.block.0 w.bytes) ws i ≡ shows ss (w ∷ ws) i
unfolding shows
shows_step ss w ws i =
    ⊎_elim
    (λ l.
    let t : ltb i (length ss) ≡ true = lt-ltb _ _ l in
    ⊎_elim
    (λ e. let q : eqb i w.block.0 ≡ true = eq-eqb _ _ e in let g : get_or (set ss w.block.0 w.bytes) i [] ≡ w.bytes = rw (← e) (get_or-set_same ss i w.bytes [] l) in rw (length-set ss w.block.0 w.bytes, t, q, g))
    (λ ne. let q : eqb i w.block.0 ≡ false = ne_eqb _ _ ne in rw (length-set ss w.block.0 w.bytes, t, q, get_or-set_other ss w.block.0 i w.bytes [] ne))
    (cases_eq i w.block.0))
    (λ l.
    let t : ltb i (length ss) ≡ false = le-ltb _ _ l in
    let g : get_or (set ss w.block.0 w.bytes) i [] ≡ [] = get_or_past (set ss w.block.0 w.bytes) i [] (rw (length-set ss w.block.0 w.bytes) l) in
    rw (length-set ss w.block.0 w.bytes, t, g, get_or_past ss i [] l))
    (cases_lt i (length ss))

pub length_replay : (ss : List Block) (log : List Put) → length (replay ss log) ≡ length ss
length_replay ss [] = refl
length_replay ss (w ∷ ws) = length_replay (set ss w.block.0 w.bytes) ws ∙ length-set ss w.block.0 w.bytes

pub shows_replay : (ss : List Block) (log : List Put) (i : ℕ) → shows (replay ss log) [] i ≡ shows ss log i
shows_replay ss [] i = refl
shows_replay ss (w ∷ ws) i = shows_replay (set ss w.block.0 w.bytes) ws i ∙ shows_step ss w ws i

-- ---- a block that there is

module _ (ss : List Block) (log : List Put) (b : ℕ) (l : b < length ss) where
  held_all : held ss log b ≡ written log b
  held_all = let t : ltb b (length ss) ≡ true = lt-ltb _ _ l in rw t

  pub shows_is : (x : Block) → x ≡ get_or ss b x → (r : Block) → r ≡ newest_of x (written log b) → r ≡ shows ss log b
  unfolding shows
  shows_is x is r h = rw (held_all, ← get_or_read ss b x l is []) h

  pub chosen_is : (n : ℕ) (r : Block) → r ≡ get_or (get_or ss b [] ∷ written log b) (n % (1 + length (written log b))) [] → r ≡ chosen n ss log b
  unfolding chosen contents
  chosen_is n r h =
      let e : 1 + length (written log b) ≡ suc (length (written log b)) = omega arith in rw (held_all, ← e) h

-- ---- the blocks land one after another

chosen_same : (n : ℕ) (ss ts : List Block) (log : List Put) (b : ℕ) → length ts ≡ length ss → get_or ts b [] ≡ get_or ss b [] → chosen n ts log b ≡ chosen n ss log b
unfolding chosen contents
chosen_same n ss ts log b size here = rw (size, here)

pub landed_more : (landing : List ℕ) (ss ts : List Block) (log : List Put) (at : ℕ) (x : Block) → at < length ss → length ts ≡ length ss → ((k : ℕ) → k < at → get_or ts k [] ≡ chosen (pick landing k) ss log k) → get_or ts at [] ≡ get_or ss at [] → x ≡ chosen (pick landing at) ts log at → (k : ℕ) → k < at + 1 → get_or (set ts at x) k [] ≡ chosen (pick landing k) ss log k
landed_more landing ss ts log at x l size below here is k h =
    ⊎_elim
    (λ e. rw e (get_or-set_same ts at x [] (omega arith) ∙ is ∙ chosen_same (pick landing at) ss ts log at size here))
    (λ ne. get_or-set_other ts at k x [] ne ∙ below k (omega (arith, ne)))
    (cases_eq k at)

pub landed_above : (ss ts : List Block) (at : ℕ) (x : Block) → ((k : ℕ) → at ≤ k → get_or ts k [] ≡ get_or ss k []) → (k : ℕ) → at + 1 ≤ k → get_or (set ts at x) k [] ≡ get_or ss k []
landed_above ss ts at x above k h = get_or-set_other ts at k x [] (λ e. omega (arith, e)) ∙ above k (omega arith)
