-- Several writes, one after another.
use Rattle.std.proofs.Common.{◌≡◌, ℕ, zero, suc, ◌+◌, ◌<◌, ◌≤◌, Bool, true, false, cond, ltb, ◌⊎◌, List, [], ◌∷◌, ◌++◌, length, get_or, take, drop, Some, None, Option, sym, refl, ap, ◌∙◌, inl, inr, ⊎_elim, arith}
use Rattle.std.proofs.lemmas.Bool.{cases_eq, eq-eqb, ne_eqb, ltb-true, lt-ltb, le-ltb}
use Rattle.device.specs.Model.{Model, Block, Stands, put, Is}
use Rattle.device.specs.Effect.{puts, PutAt, first_outside}
use Rattle.device.specs.declared.put.Put.{Put}
use Rattle.std.proofs.lemmas.List.{take_more, drop_more, drop_all}
use Rattle.base.specs.declared.number.BlockNo.{BlockNo}
use Rattle.device.specs.Model.{Lost, Written, Torn}
use Rattle.device.specs.Answers.{WriteFault}
use Rattle.device.specs.Effect.{Outcome, Altered, accepted, broken, Named, WriteAllFault, CutLeaves}
use Rattle.device.specs.declared.fault.Fault.{Fault}
use Rattle.device.specs.declared.fault.Fault.TheVariants.{PowerGone, NoSuchBlock}

-- ---- the first block past the end

pub outside_here : (n : ℕ) (ws : List Put) (i : ℕ) (d : Put) → i < length ws → n ≤ (get_or ws i d).block.0 → first_outside n (drop i ws) ≡ Some (get_or ws i d).block
unfolding first_outside
outside_here n ws i d l h =
    let e : ltb (get_or ws i d).block.0 n ≡ false = le-ltb _ _ h in rw (drop_more ws i d l, e)

pub outside_more : (n : ℕ) (ws : List Put) (i : ℕ) (d : Put) → i < length ws → (get_or ws i d).block.0 < n → first_outside n (drop i ws) ≡ first_outside n (drop (i + 1) ws)
unfolding first_outside
outside_more n ws i d l h =
    let e : ltb (get_or ws i d).block.0 n ≡ true = lt-ltb _ _ h in rw (drop_more ws i d l, e)

pub outside_none : (n : ℕ) (ws : List Put) (i : ℕ) → length ws ≤ i → first_outside n (drop i ws) ≡ None
unfolding first_outside
outside_none n ws i h = rw (drop_all i ws h)

-- where no block is past the end, each is below the count
below_or_past : (n : ℕ) (w : Put) (o : Option BlockNo) → cond (ltb w.block.0 n) o (Some w.block) ≡ None → (w.block.0 < n) × (o ≡ None)
below_or_past n w o = by (ltb w.block.0 n) refl
  where
    by : (t : Bool) → ltb w.block.0 n ≡ t → cond t o (Some w.block) ≡ None → (w.block.0 < n) × (o ≡ None)
    by true h f = (ltb-true _ _ h, f)
    by false h f = let z : ◌≡◌ {A = ℕ} 0 1 = cc in absurd (omega arith)

pub inside_at : (n : ℕ) (ws : List Put) (i : ℕ) (d : Put) → first_outside n ws ≡ None → i < length ws → (get_or ws i d).block.0 < n
unfolding first_outside
inside_at n [] i d e l = absurd (omega arith)
inside_at n (w ∷ ws) zero d e l = (below_or_past n w (first_outside n ws) e).0
inside_at n (w ∷ ws) (suc i) d e l = inside_at n ws i d (below_or_past n w (first_outside n ws) e).1 (omega arith)

-- ---- what is shown and named

puts_push : (f : ℕ → Block) (ws : List Put) (w : Put) → puts f (ws ++ w ∷ []) ≡ put (puts f ws) w.block.0 w.bytes
puts_push f [] w = refl
puts_push f (v ∷ ws) w = puts_push (put f v.block.0 v.bytes) ws w

put_cases : (f : ℕ → Block) (c : ℕ) (x : Block) (b : ℕ) → (put f c x b ≡ f b) ⊎ Is c x b (put f c x b)
put_cases f c x b =
    ⊎_elim (λ e. inr (e, rw (eq-eqb b c e))) (λ ne. inl (rw (ne_eqb b c ne))) (cases_eq b c)

-- each block shows what it did, or one of the puts
puts_cases : (f : ℕ → Block) (ws : List Put) (b : ℕ) → (puts f ws b ≡ f b) ⊎ PutAt b (puts f ws b) ws
puts_cases f [] b = inl refl
puts_cases f (w ∷ ws) b =
    ⊎_elim
    (λ e. ⊎_elim (λ k. inl (e ∙ k)) (λ k. inr (inl (k.0, e ∙ k.1))) (put_cases f w.block.0 w.bytes b))
    (λ k. inr (inr k))
    (puts_cases (put f w.block.0 w.bytes) ws b)

put_in_front : (b : ℕ) (x : Block) (i : ℕ) (ws : List Put) → PutAt b x (take i ws) → PutAt b x ws
put_in_front b x zero ws h = absurd h
put_in_front b x (suc i) [] h = absurd h
put_in_front b x (suc i) (w ∷ ws) h = ⊎_elim inl (λ k. inr (put_in_front b x i ws k)) h

put_here : (b : ℕ) (x : Block) (ws : List Put) (i : ℕ) (d : Put) → i < length ws → Is (get_or ws i d).block.0 (get_or ws i d).bytes b x → PutAt b x ws
put_here b x [] i d l h = absurd (omega arith)
put_here b x (w ∷ ws) zero d l h = inl h
put_here b x (w ∷ ws) (suc i) d l h = inr (put_here b x ws i d (omega arith) h)

named_here : (ws : List Put) (i : ℕ) (d : Put) → i < length ws → Named (get_or ws i d).block ws
named_here [] i d l = absurd (omega arith)
named_here (w ∷ ws) zero d l = inl refl
named_here (w ∷ ws) (suc i) d l = inr (named_here ws i d (omega arith))

put_last : (b : ℕ) (x : Block) (ws : List Put) (w : Put) → PutAt b x ws ⊎ Is w.block.0 w.bytes b x → PutAt b x (ws ++ w ∷ [])
put_last b x [] w h = ⊎_elim (λ k. absurd k) inl h
put_last b x (v ∷ ws) w h =
    ⊎_elim (⊎_elim inl (λ k. inr (put_last b x ws w (inl k)))) (λ k. inr (put_last b x ws w (inr k))) h

-- ---- one write more

pub altered_none : (m : Model) → Altered accepted [] m m
altered_none m = record { count = refl; power = refl; shows = refl; joined = λ b x h. inl h }

altered_push : (ws : List Put) (w : Put) (m k n : Model) → Altered accepted ws m k → Written w.block.0 w.bytes k n → Altered accepted (ws ++ w ∷ []) m n
altered_push ws w m k n a h = record {
  count = h.count ∙ a.count;
  power = h.on ∙ sym h.was_on ∙ a.power;
  shows = h.shown ∙ ap (λ (f : ℕ → Block). put f w.block.0 w.bytes) a.shows ∙ sym (puts_push m.shown ws w);
  joined = λ b x s.
      ⊎_elim
      (λ q. ⊎_elim inl (λ p. inr (put_last b x ws w (inl p))) (a.joined b x q))
      (λ p. inr (put_last b x ws w (inr p)))
      (h.stands b x s);
}

module _ (ws : List Put) (i : ℕ) (d : Put) (l : i < length ws) (m k n : Model) (a : Altered accepted (take i ws) m k) where
  abbrev w : Put
  w = get_or ws i d

  pub altered_more : Written w.block.0 w.bytes k n → Altered accepted (take (i + 1) ws) m n
  altered_more h = rw (take_more ws i d l) (altered_push (take i ws) w m k n a h)

  so_far : (b : ℕ) → n.shown b ≡ k.shown b → (n.shown b ≡ m.shown b) ⊎ PutAt b (n.shown b) ws
  so_far b e =
      let s : n.shown b ≡ puts m.shown (take i ws) b = e ∙ ap (λ (f : ℕ → Block). f b) a.shows in
      ⊎_elim (λ q. inl (s ∙ q)) (λ q. inr (rw s (put_in_front b _ i ws q))) (puts_cases m.shown (take i ws) b)

  joined_so_far : (b : ℕ) (x : Block) → Stands k b x → Stands m b x ⊎ PutAt b x ws
  joined_so_far b x s = ⊎_elim inl (λ q. inr (put_in_front b x i ws q)) (a.joined b x s)

  broken_lost : Lost k n → Altered broken ws m n
  broken_lost h = record {
    count = h.kept.count ∙ a.count;
    power = h.off;
    shows = λ b. so_far b (ap (λ (f : ℕ → Block). f b) h.kept.shown);
    joined = λ b x s. joined_so_far b x (h.kept.stands b x s);
  }

  torn_shown : (b : ℕ) → (n.shown ≡ k.shown) ⊎ (n.shown ≡ put k.shown w.block.0 w.bytes) → (n.shown b ≡ m.shown b) ⊎ PutAt b (n.shown b) ws
  torn_shown b =
      ⊎_elim
      (λ e. so_far b (ap (λ (f : ℕ → Block). f b) e))
      (λ e.
      let at : n.shown b ≡ put k.shown w.block.0 w.bytes b = ap (λ (f : ℕ → Block). f b) e in
      ⊎_elim
      (λ q. so_far b (at ∙ q))
      (λ q. inr (put_here b (n.shown b) ws i d l (q.0, at ∙ q.1)))
      (put_cases k.shown w.block.0 w.bytes b))

  broken_torn : Torn w.block.0 w.bytes k n → Altered broken ws m n
  broken_torn h = record {
    count = h.count ∙ a.count;
    power = h.off;
    shows = λ b. torn_shown b h.shown;
    joined = λ b x s. ⊎_elim (joined_so_far b x) (λ q. inr (put_here b x ws i d l q)) (h.stands b x s);
  }

  -- the write at i was refused: only power gone does that
  pub refused_at : first_outside m.count ws ≡ None → (e : Fault) → WriteFault w.block w.bytes k n e → WriteAllFault ws m n e
  refused_at inside (PowerGone p) h =
      (rw h.0 (named_here ws i d l), inside, ⊎_elim broken_lost broken_torn h.1)
  refused_at inside (NoSuchBlock p) h =
      absurd (omega (arith, h.past, inside_at m.count ws i d inside l, a.count))

-- ---- what a cut leaves

pub cut_altered : (o : Outcome) (ws : List Put) (m n : Model) → Altered o ws m n → CutLeaves ws m n
cut_altered o ws m n a z c b = a.joined b (z.shown b) (c.landed b)

pub cut_refused : (ws : List Put) (m n : Model) (e : Fault) → WriteAllFault ws m n e → CutLeaves ws m n
cut_refused ws m n (PowerGone p) h = cut_altered broken ws m n h.2
cut_refused ws m n (NoSuchBlock p) h = λ z c b. inl (rw h.1 at (c.landed b))
