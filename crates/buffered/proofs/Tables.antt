-- What a table of waiting blocks shows and holds, as places are filled and emptied.
use Rattle.std.proofs.Common.{◌≡◌, ℕ, zero, suc, ◌<◌, Bool, true, false, cond, eqb, ◌⊎◌, List, [], ◌∷◌, length, set, Some, None, refl, ap, inl, inr, ⊎_elim, arith}
use Rattle.std.proofs.lemmas.Bool.{eqb-true, eq-eqb, ne_eqb, cases_eq}
use Rattle.std.proofs.lemmas.Bool.Decides.{nat_tests}
use Rattle.device.specs.Model.{In, put}
use Rattle.buffered.specs.Buffered.{Table, over, standing, at_place, Used, number, contents, Holds, Found, Absent, Empty, waiting}
use Rattle.device.specs.declared.put.Put.{Put}

-- x waits for block b
abbrev pub Waits : Table → ℕ → List ℕ → Type 0
Waits [] b x = ⊥
Waits (None ∷ ws) b x = Waits ws b x
Waits (Some w ∷ ws) b x = ((b ≡ w.block.0) × (x ≡ w.bytes)) ⊎ Waits ws b x

-- what may stand is what waits and what may stand below

split : (t : Bool) (w x : List ℕ) (xs : List (List ℕ)) → In x (cond t (w ∷ xs) xs) → ((t ≡ true) × (x ≡ w)) ⊎ In x xs
unfolding In
split true w x xs h = ⊎_elim (λ e. inl (refl, e)) inr h
split false w x xs h = inr h

more : (t : Bool) (w x : List ℕ) (xs : List (List ℕ)) → In x xs → In x (cond t (w ∷ xs) xs)
unfolding In
more true w x xs h = inr h
more false w x xs h = h

pub standing_cases : (ws : Table) (S : ℕ → List (List ℕ)) (b : ℕ) (x : List ℕ) → In x (standing ws S b) → In x (S b) ⊎ Waits ws b x
standing_cases [] S b x h = inl h
standing_cases (None ∷ ws) S b x h = standing_cases ws S b x h
standing_cases (Some w ∷ ws) S b x h =
    ⊎_elim
    (λ e. inr (inl (eqb-true b w.block.0 e.0, e.1)))
    (λ k. ⊎_elim inl (λ q. inr (inr q)) (standing_cases ws S b x k))
    (split (eqb b w.block.0) w.bytes x (standing ws S b) h)

pub standing_below : (ws : Table) (S : ℕ → List (List ℕ)) (b : ℕ) (x : List ℕ) → In x (S b) → In x (standing ws S b)
standing_below [] S b x h = h
standing_below (None ∷ ws) S b x h = standing_below ws S b x h
standing_below (Some w ∷ ws) S b x h = more (eqb b w.block.0) w.bytes x (standing ws S b) (standing_below ws S b x h)

pub standing_waits : (ws : Table) (S : ℕ → List (List ℕ)) (b : ℕ) (x : List ℕ) → Waits ws b x → In x (standing ws S b)
unfolding In
standing_waits [] S b x h = absurd h
standing_waits (None ∷ ws) S b x h = standing_waits ws S b x h
standing_waits (Some w ∷ ws) S b x h =
    ⊎_elim
    (λ e. rw (eq-eqb b w.block.0 e.0) (inl e.1))
    (λ q. more (eqb b w.block.0) w.bytes x (standing ws S b) (standing_waits ws S b x q))
    h

-- reading

pub over_found : (ws : Table) (f : ℕ → List ℕ) (b i : ℕ) → Found ws b i → over ws f b ≡ contents (at_place ws i)
over_found [] f b i h = absurd (omega (arith, h.within))
over_found (None ∷ ws) f b zero h = absurd h.here
over_found (None ∷ ws) f b (suc i) h =
    over_found ws f b i (record { small = omega (arith, h.small); within = omega (arith, h.within); here = h.here; first = λ k l. h.first (suc k) (omega arith) })
over_found (Some w ∷ ws) f b zero h = rw (eq-eqb b w.block.0 h.here)
over_found (Some w ∷ ws) f b (suc i) h =
    rw (ne_eqb b w.block.0 (h.first 0 (omega arith)))
    (over_found ws f b i (record { small = omega (arith, h.small); within = omega (arith, h.within); here = h.here; first = λ k l. h.first (suc k) (omega arith) }))

pub over_absent : (ws : Table) (f : ℕ → List ℕ) (b : ℕ) → Absent ws b → over ws f b ≡ f b
over_absent [] f b h = refl
over_absent (None ∷ ws) f b h = over_absent ws f b (λ k l. h (suc k) (omega arith))
over_absent (Some w ∷ ws) f b h =
    rw (ne_eqb b w.block.0 (h 0 (omega arith))) (over_absent ws f b (λ k l. h (suc k) (omega arith)))

-- a place is filled

pub over_filled : (ws : Table) (f : ℕ → List ℕ) (w : Put) (i : ℕ) → i < length ws → ((k : ℕ) → k < i → Holds (at_place ws k) w.block.0 → ⊥) → (Used (at_place ws i) → w.block.0 ≡ number (at_place ws i)) → (j : ℕ) → over (set ws i (Some w)) f j ≡ put (over ws f) w.block.0 w.bytes j
over_filled [] f w i l before here j = absurd (omega arith)
over_filled (None ∷ ws) f w zero l before here j = refl
over_filled (Some v ∷ ws) f w zero l before here j =
    let e : w.block.0 ≡ v.block.0 = here tt in grind (arith, nat_tests)
over_filled (None ∷ ws) f w (suc i) l before here j =
    over_filled ws f w i (omega arith) (λ k m. before (suc k) (omega arith)) here j
over_filled (Some v ∷ ws) f w (suc i) l before here j =
    let ih = over_filled ws f w i (omega arith) (λ k m. before (suc k) (omega arith)) here j in
    let ne : w.block.0 ≡ v.block.0 → ⊥ = before 0 (omega arith) in
    grind (arith, nat_tests, ih, ne)

pub waits_filled : (ws : Table) (w : Put) (i j : ℕ) (x : List ℕ) → Waits (set ws i (Some w)) j x → Waits ws j x ⊎ ((j ≡ w.block.0) × (x ≡ w.bytes))
waits_filled [] w i j x h = absurd h
waits_filled (None ∷ ws) w zero j x h = ⊎_elim inr inl h
waits_filled (Some v ∷ ws) w zero j x h = ⊎_elim inr (λ k. inl (inr k)) h
waits_filled (None ∷ ws) w (suc i) j x h = waits_filled ws w i j x h
waits_filled (Some v ∷ ws) w (suc i) j x h =
    ⊎_elim (λ e. inl (inl e)) (λ k. ⊎_elim (λ a. inl (inr a)) inr (waits_filled ws w i j x k)) h

-- a block is sent down

over_put : (ws : Table) (f : ℕ → List ℕ) (b : ℕ) (c : List ℕ) → Absent ws b → (j : ℕ) → over ws (put f b c) j ≡ put (over ws f) b c j
over_put [] f b c h j = refl
over_put (None ∷ ws) f b c h j = over_put ws f b c (λ k l. h (suc k) (omega arith)) j
over_put (Some v ∷ ws) f b c h j =
    let ih = over_put ws f b c (λ k l. h (suc k) (omega arith)) j in
    let ne : b ≡ v.block.0 → ⊥ = h 0 (omega arith) in
    grind (arith, nat_tests, ih, ne)

abbrev Later : Table → ℕ → Type 0
Later ws i = (k : ℕ) → i < k → k < length ws → Holds (at_place ws k) (number (at_place ws i)) → ⊥

pub over_sent : (ws : Table) (f : ℕ → List ℕ) (i : ℕ) → Used (at_place ws i) → Later ws i → (j : ℕ) → over (set ws i None) (put f (number (at_place ws i)) (contents (at_place ws i))) j ≡ over ws f j
over_sent [] f i u h j = absurd u
over_sent (None ∷ ws) f zero u h j = absurd u
over_sent (Some v ∷ ws) f zero u h j = over_put ws f v.block.0 v.bytes (λ k l. h (suc k) (omega arith) (omega arith)) j
over_sent (None ∷ ws) f (suc i) u h j = over_sent ws f i u (λ k l m. h (suc k) (omega arith) (omega arith)) j
over_sent (Some v ∷ ws) f (suc i) u h j =
    ap (cond (eqb j v.block.0) v.bytes) (over_sent ws f i u (λ k l m. h (suc k) (omega arith) (omega arith)) j)

pub waits_sent : (ws : Table) (i j : ℕ) (x : List ℕ) → Waits (set ws i None) j x → Waits ws j x
waits_sent [] i j x h = h
waits_sent (None ∷ ws) zero j x h = h
waits_sent (Some v ∷ ws) zero j x h = inr h
waits_sent (None ∷ ws) (suc i) j x h = waits_sent ws i j x h
waits_sent (Some v ∷ ws) (suc i) j x h = ⊎_elim inl (λ k. inr (waits_sent ws i j x k)) h

pub waits_place : (ws : Table) (i : ℕ) → Used (at_place ws i) → Waits ws (number (at_place ws i)) (contents (at_place ws i))
waits_place [] i u = absurd u
waits_place (None ∷ ws) zero u = absurd u
waits_place (Some v ∷ ws) zero u = inl (refl, refl)
waits_place (None ∷ ws) (suc i) u = waits_place ws i u
waits_place (Some v ∷ ws) (suc i) u = inr (waits_place ws i u)

-- a block that waits hides what the same block shows below

over_other : (ws : Table) (f : ℕ → List ℕ) (b j : ℕ) (c : List ℕ) → (j ≡ b → ⊥) → over ws (put f b c) j ≡ over ws f j
over_other [] f b j c ne = rw (ne_eqb j b ne)
over_other (None ∷ ws) f b j c ne = over_other ws f b j c ne
over_other (Some v ∷ ws) f b j c ne = ap (cond (eqb j v.block.0) v.bytes) (over_other ws f b j c ne)

pub over_hidden : (ws : Table) (f : ℕ → List ℕ) (i : ℕ) (c : List ℕ) → Used (at_place ws i) → (j : ℕ) → over ws (put f (number (at_place ws i)) c) j ≡ over ws f j
over_hidden [] f i c u j = absurd u
over_hidden (None ∷ ws) f zero c u j = absurd u
over_hidden (Some v ∷ ws) f zero c u j =
    ⊎_elim
    (λ e. rw (eq-eqb j v.block.0 e))
    (λ ne. ap (cond (eqb j v.block.0) v.bytes) (over_other ws f v.block.0 j c ne))
    (cases_eq j v.block.0)
over_hidden (None ∷ ws) f (suc i) c u j = over_hidden ws f i c u j
over_hidden (Some v ∷ ws) f (suc i) c u j = ap (cond (eqb j v.block.0) v.bytes) (over_hidden ws f i c u j)

-- an empty table

pub over_empty : (ws : Table) (f : ℕ → List ℕ) → Empty ws → (j : ℕ) → over ws f j ≡ f j
over_empty [] f h j = refl
over_empty (None ∷ ws) f h j = over_empty ws f (λ k l. h (suc k) (omega arith)) j
over_empty (Some v ∷ ws) f h j = absurd (h 0 (omega arith) tt)

pub waits_empty : (ws : Table) (j : ℕ) (x : List ℕ) → Empty ws → Waits ws j x → ⊥
waits_empty [] j x h w = w
waits_empty (None ∷ ws) j x h w = waits_empty ws j x (λ k l. h (suc k) (omega arith)) w
waits_empty (Some v ∷ ws) j x h w = h 0 (omega arith) tt

pub waiting_sent : (ws : Table) (i : ℕ) → Used (at_place ws i) → waiting (set ws i None) < waiting ws
waiting_sent [] i u = absurd u
waiting_sent (None ∷ ws) zero u = absurd u
waiting_sent (Some v ∷ ws) zero u = omega arith
waiting_sent (None ∷ ws) (suc i) u = waiting_sent ws i u
waiting_sent (Some v ∷ ws) (suc i) u = omega (arith, waiting_sent ws i u)
