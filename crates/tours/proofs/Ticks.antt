-- How many marks there are, and where they are queued.
use Rattle.std.proofs.Common.{◌≡◌, ℕ, zero, suc, ◌+◌, ◌<◌, ◌≤◌, Bool, true, false, ◌⊎◌, List, [], ◌∷◌, length, get_or, set, replicate, sym, refl, ap, ◌∙◌, inl, inr, arith}
use Rattle.std.proofs.Math.Logic.{∥∥₁_map}
use Rattle.std.proofs.lemmas.List.{get_or-set_same, get_or-set_other}
use Rattle.std.proofs.lemmas.Bool.{cases_eq}
use Rattle.base.specs.declared.number.SlotNo.{SlotNo}
use Rattle.rule.proofs.Steps.{clash}
use Rattle.tours.specs.Ticks.{Marked, ticks, queued, InQueue, Listed}

pub ticks_few : (ms : List Bool) → ticks ms ≤ length ms
unfolding ticks
ticks_few [] = omega arith
ticks_few (true ∷ ms) = let h = ticks_few ms in omega arith
ticks_few (false ∷ ms) = let h = ticks_few ms in omega arith

-- where one is not set there is room
pub ticks_room : (ms : List Bool) (s : ℕ) → s < length ms → get_or ms s false ≡ false → ticks ms < length ms
unfolding ticks
ticks_room [] s l e = absurd (omega arith)
ticks_room (true ∷ ms) zero l e = let z : ◌≡◌ {A = ℕ} 0 1 = cc in absurd (omega arith)
ticks_room (true ∷ ms) (suc s) l e = let h = ticks_room ms s (omega arith) e in omega arith
ticks_room (false ∷ ms) s l e = let h = ticks_few ms in omega arith

-- the queue has room for one slot more
pub queue_room : (ms : List Bool) (n s : ℕ) → length ms ≡ 256 → n ≡ ticks ms → s < 256 → get_or ms s false ≡ false → n < 256
queue_room ms n s l c small free = let h = ticks_room ms s (omega arith) free in omega arith

pub ticks_set : (ms : List Bool) (s : ℕ) → s < length ms → get_or ms s false ≡ false → ticks (set ms s true) ≡ ticks ms + 1
unfolding ticks
ticks_set [] s l e = absurd (omega arith)
ticks_set (true ∷ ms) zero l e = let z : ◌≡◌ {A = ℕ} 0 1 = cc in absurd (omega arith)
ticks_set (true ∷ ms) (suc s) l e = let h = ticks_set ms s (omega arith) e in omega arith
ticks_set (false ∷ ms) zero l e = omega arith
ticks_set (false ∷ ms) (suc s) l e = ticks_set ms s (omega arith) e

pub ticks_none : (n : ℕ) → ticks (replicate n false) ≡ 0
unfolding ticks
ticks_none zero = refl
ticks_none (suc n) = ticks_none n

none_marked : (n t : ℕ) → get_or (replicate n false) t false ≡ false
none_marked zero t = refl
none_marked (suc n) zero = refl
none_marked (suc n) (suc t) = none_marked n t

pub none_listed : (n : ℕ) (ss : List SlotNo) → Listed (replicate n false) ss 0
none_listed n ss t h = clash (sym (none_marked n t) ∙ h)

module _ (ms : List Bool) (s : ℕ) (l : s < length ms) where
  pub marked_new : Marked (set ms s true) s
  marked_new = get_or-set_same ms s true false l

  pub marked_old : (t : ℕ) → Marked ms t → Marked (set ms s true) t
  marked_old t h = elim (cases_eq t s) [
    | inl e ↦ ap (λ (i : ℕ). get_or (set ms s true) i false) e ∙ marked_new
    | inr ne ↦ get_or-set_other ms s t true false ne ∙ h
  ]

  marked_was : (t : ℕ) → Marked (set ms s true) t → (t ≡ s) ⊎ Marked ms t
  marked_was t h = elim (cases_eq t s) [ inl e ↦ inl e | inr ne ↦ inr (sym (get_or-set_other ms s t true false ne) ∙ h) ]

-- one slot more in the queue
module _ (ss : List SlotNo) (n : ℕ) (at : SlotNo) where
  pub queued_old : (i : ℕ) → i < n → queued (set ss n at) i ≡ queued ss i
  queued_old i h = ap (λ (s : SlotNo). s.0) (get_or-set_other ss n i at (record { 0 = 0 }) (λ e. omega arith))

  pub queued_new : n < length ss → queued (set ss n at) n ≡ at.0
  queued_new h = ap (λ (s : SlotNo). s.0) (get_or-set_same ss n at (record { 0 = 0 }) h)

  pub listed_more : (ms : List Bool) → at.0 < length ms → n < length ss → Listed ms ss n → Listed (set ms at.0 true) (set ss n at) (n + 1)
  listed_more ms l room all t h = elim (marked_was ms at.0 l t h) [
    | inl e ↦ ∣ record { place = n; low = omega arith; is = queued_new room ∙ sym e } ∣₁
    | inr old ↦ ∥∥₁_map (all t old) (λ (q : InQueue ss n t). record { place = q.place; low = (let a = q.low in omega arith); is = queued_old q.place q.low ∙ q.is })
  ]
