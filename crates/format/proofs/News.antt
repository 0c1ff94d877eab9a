-- The blocks of a new card, one by one.
use Rattle.std.proofs.Common.{◌≡◌, ℕ, zero, suc, ◌+◌, ◌-◌, ◌<◌, ◌≤◌, Bool, true, false, ◌&&◌, ltb, leb, ◌⊎◌, List, [], ◌∷◌, length, get_or, take, None, Ok, Err, sym, refl, ap, ◌∙◌, subst, inl, inr, arith}
use Rattle.std.proofs.lemmas.Bool.{lt-ltb, lt-leb, le-leb, leb-true, and_parts, cond-true}
use Rattle.base.specs.declared.refusal.Refusal.{Refusal}
use Rattle.base.specs.declared.refusal.Refusal.TheVariants.{BadLimits, SmallDevice}
use Rattle.device.proofs.Effects.{altered_more, refused_at}
use Rattle.device.specs.Model.{Model, Block, Written}
use Rattle.device.specs.Answers.{refusal_of, WriteFault, SyncAnswer, SyncFault}
use Rattle.device.specs.Effect.{first_outside, Altered, accepted, WriteAllFault}
use Rattle.device.specs.declared.fault.Fault.{Fault}
use Rattle.device.specs.declared.fault.Fault.TheVariants.{PowerGone as Gone, NoSuchBlock}
use Rattle.device.specs.declared.fault.Synced.{Synced}
use Rattle.device.specs.declared.put.Put.{Put}
use Rattle.layout.specs.Format.{Geometry, blank, in_limits, encode}
use Rattle.rule.specs.Agree.{from}
use Rattle.rule.specs.Card.{block}
use Rattle.rule.specs.Changing.{store, blanks, format, synced}
use Rattle.rule.specs.Check.{Answer, ◌>>=◌, check}
use Rattle.layout.specs.Sizes.{sizes}
use Rattle.layout.specs.declared.geometry.Geometry.{Geometry as CardGeometry}
use Rattle.format.specs.Formats.{new_block, new_card, SyncedAfter, BrokenOff, ByPlan, Formats}

blanks_length : (i n : ℕ) → length (blanks (from i n)) ≡ n
blanks_length i zero = refl
blanks_length i (suc n) = ap suc (blanks_length (suc i) n)

blanks_at : (i n k : ℕ) (d : Put) → k < n → get_or (blanks (from i n)) k d ≡ store (i + k) blank
blanks_at i zero k d l = absurd (omega arith)
blanks_at i (suc n) zero d l = ap (λ (b : ℕ). store b blank) (omega arith)
blanks_at i (suc n) (suc k) d l = blanks_at (suc i) n k d (omega arith) ∙ ap (λ (b : ℕ). store b blank) (omega arith)

new_length : (g : Geometry) → 2 ≤ g.blocks → length (new_card g) ≡ g.blocks
new_length g l = omega (arith, blanks_length 2 (g.blocks - 2))

new_at : (g : Geometry) (i : ℕ) (d : Put) → i < g.blocks → get_or (new_card g) i d ≡ store i (new_block g i)
new_at g zero d l = refl
new_at g (suc zero) d l = refl
new_at g (suc (suc i)) d l = blanks_at 2 (g.blocks - 2) i d (omega arith) ∙ ap (λ (b : ℕ). store b blank) (omega arith)

inside_all : (n : ℕ) (ws : List Put) → ((i : ℕ) (d : Put) → i < length ws → (get_or ws i d).block.0 < n) → first_outside n ws ≡ None
unfolding first_outside
inside_all n [] h = refl
inside_all n (w ∷ ws) h =
    cond-true (ltb w.block.0 n) _ _ (lt-ltb _ _ (h 0 w (omega arith))) ∙ inside_all n ws (λ i d l. h (suc i) d (omega arith))

new_inside : (n : ℕ) (g : Geometry) → 2 ≤ g.blocks → g.blocks ≤ n → first_outside n (new_card g) ≡ None
new_inside n g two l = inside_all n (new_card g) (λ i d k.
    let b : i < g.blocks = omega (arith, k, new_length g two) in
    let e = ap (λ (w : Put). w.block.0) (new_at g i d b) in omega (arith, e, b, l))

-- ---- the blocks written one by one

two_blocks : (N S : ℕ) → in_limits N S ≡ true → 2 ≤ N
two_blocks N S e =
    let a = and_parts (leb 2 S) (leb S 256 && (leb (S + 2) N && leb N 4096)) e in
    let b = and_parts (leb S 256) (leb (S + 2) N && leb N 4096) a.1 in
    let c = and_parts (leb (S + 2) N) (leb N 4096) b.1 in
    omega (arith, leb-true (S + 2) N c.0)

module _ (g : CardGeometry) where
  -- as many puts as blocks, all of them on the device
  pub as_many : length (new_card (sizes g)) ≡ g.blocks
  as_many = new_length (sizes g) (two_blocks g.blocks g.slots g.ok)

  pub card_inside : (n : ℕ) → g.blocks ≤ n → first_outside n (new_card (sizes g)) ≡ None
  card_inside n l = new_inside n (sizes g) (two_blocks g.blocks g.slots g.ok) l

  -- one more
  module _ (i : ℕ) (x : Block) (l : i < g.blocks) (e : x ≡ encode (new_block (sizes g) i)) (m k n : Model) (h : Altered accepted (take i (new_card (sizes g))) m k) where
    d : Put
    d = store i (new_block (sizes g) i)

    put_is : record { block = block i; bytes = x } ≡ get_or (new_card (sizes g)) i d
    put_is = ap (λ (y : Block). record { block = block i; bytes = y }) e ∙ sym (new_at (sizes g) i d l)

    pub written_more : Written i x k n → Altered accepted (take (i + 1) (new_card (sizes g))) m n
    written_more w =
        altered_more (new_card (sizes g)) i d (omega (arith, as_many)) m k n h (subst (λ (p : Put). Written p.block.0 p.bytes k n) put_is w)

    pub write_refused_at : g.blocks ≤ m.count → (f : Fault) → WriteFault (block i) x k n f → WriteAllFault (new_card (sizes g)) m n f
    write_refused_at room f w =
        refused_at (new_card (sizes g)) i d (omega (arith, as_many)) m k n h (card_inside m.count room) f (subst (λ (p : Put). WriteFault p.block p.bytes k n f) put_is w)

-- ---- the plan

unchecked : {A : Type 0} (t : Bool) (r : Refusal) (k : Unit {0} → Answer A) → t ≡ false → (check t r >>= k) ≡ Err r
unfolding ◌>>=◌ check
unchecked t r k e = ap (λ (b : Bool). check b r >>= k) e

checked : {A : Type 0} (t : Bool) (r : Refusal) (k : Unit {0} → Answer A) → t ≡ true → (check t r >>= k) ≡ k tt
unfolding ◌>>=◌ check
checked t r k e = ap (λ (b : Bool). check b r >>= k) e

module _ (n N S : ℕ) where
  pub format_outside : in_limits N S ≡ false → format n N S ≡ Err (BadLimits N)
  unfolding format
  format_outside e = unchecked _ _ _ e

  pub format_small : in_limits N S ≡ true → n < N → format n N S ≡ Err (SmallDevice N)
  unfolding format
  format_small e l = checked _ _ _ e ∙ unchecked _ _ _ (lt-leb N n l)

  pub format_plan : in_limits N S ≡ true → N ≤ n → format n N S ≡ Ok (new_card (record { blocks = N; slots = S }))
  unfolding format
  format_plan e l = checked _ _ _ e ∙ checked _ _ _ (le-leb N n l)

-- ---- the whole call

module _ (g : CardGeometry) (N S : ℕ) (blocks : g.blocks ≡ N) (slots : g.slots ≡ S) (m n : Model) (r : Answer (Unit {0})) (room : N ≤ m.count) where
  as_planned : SyncedAfter (new_card (sizes g)) m r n ⊎ BrokenOff (new_card (sizes g)) m r n → Formats N S m r n
  as_planned h =
      subst (λ (y : ℕ). Formats N y m r n) slots (subst (λ (x : ℕ). Formats x g.slots m r n) blocks (subst (λ (z : Answer (List Put)). ByPlan z m r n) (sym (format_plan m.count g.blocks g.slots g.ok (omega arith))) h))

  -- power gone while the blocks were written
  pub write_refused : (e : Refusal) (f : Fault) → r ≡ Err e → e ≡ refusal_of f → WriteAllFault (new_card (sizes g)) m n f → Formats N S m r n
  write_refused e (Gone b) p q h = as_planned (inr (record { at = b; named = h.0; answer = p ∙ ap Err q; altered = h.2 }))
  write_refused e (NoSuchBlock b) p q h =
      let none = card_inside g m.count (omega arith) in
      let some = h.0 in
      let z : ◌≡◌ {A = ℕ} 0 1 = cc in absurd (omega arith)

  -- power gone at the sync
  pub sync_refused : (k : Model) (e : Refusal) (f : Fault) → Altered accepted (new_card (sizes g)) m k → r ≡ Err e → e ≡ refusal_of f → SyncFault k n f → Formats N S m r n
  sync_refused k e (Gone b) a p q h = as_planned (inl (record { written = k; altered = a; answer = inr (b, h.0, p ∙ ap Err q, h.1) }))
  sync_refused k e (NoSuchBlock b) a p q h = absurd h

  -- the device's answer to the sync
  pub sync_answered : (k : Model) (a : Synced) → Altered accepted (new_card (sizes g)) m k → r ≡ synced a → SyncAnswer k n a → Formats N S m r n
  sync_answered k a alt p h = as_planned (inl (record { written = k; altered = alt; answer = inl (a, p, h) }))

pub refused_early : (N S : ℕ) (m : Model) (e : Refusal) → format m.count N S ≡ Err e → Formats N S m (Err e) m
refused_early N S m e h = subst (λ (z : Answer (List Put)). ByPlan z m (Err e) m) (sym h) (refl, refl)
