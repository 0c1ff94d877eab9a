-- How the reached slots and the held bodies move under each accepted changing call: what joins, what leaves, and nothing else.
use Rattle.std.specs.Prelude.{◌≡◌, ℕ, suc, ◌-◌, Bool, false, cond, not, ◌&&◌, ◌||◌, List, [], ◌∷◌, length, Some, None, Ok, Option, ◌==◌, nat_eq, nat_lt}
use Rattle.base.specs.declared.owner.Kind.{Kind}
use Rattle.base.specs.declared.owner.Handle.{Handle}
use Rattle.device.specs.declared.put.Put.{Put}
use Rattle.device.specs.Effect.{puts}
use Rattle.layout.specs.Format.{Name, Geometry, Slot, entry_of}
use Rattle.rule.specs.Agree.{Shown, View, seen, slot_at, count, number, good, Place, found, first, those, from, some_is, reached, held, slots_of, bodies_of, free_slots, free_bodies, round, free_slot, free_body}
use Rattle.rule.specs.Card.{Card, Plan}
use Rattle.rule.specs.Reading.{child_of}
use Rattle.rule.specs.Changing.{open_place, create, write, shorten, remove, format}
use Rattle.moves.specs.Tied.{Tied, sized}

-- of the slots, exactly these are reached, and of the bodies, exactly these are held
pub record Marked (g : Geometry) (v : View) (slots bodies : ℕ → Bool) : Type 0 where
  pub reached : (s : ℕ) → reached g v s ≡ slots s
  pub held : (b : ℕ) → held g v b ≡ bodies b

-- marks that agree with the blocks shown serve in their place: to choose what is free, and to count it
abbrev pub MarksServe : Type 0
MarksServe = (g : Geometry) (v : View) (slots bodies : ℕ → Bool) → Marked g v slots bodies →
    ((at : ℕ) → free_slot g v at ≡ first (λ s. not (slots s)) (round 0 g.slots at))
    × ((at : ℕ) → free_body g v at ≡ first (λ b. not (bodies b)) (round (suc g.slots) g.blocks at))
    × (free_slots g v ≡ length (those (λ s. not (slots s)) (slots_of g)))
    × (free_bodies g v ≡ length (those (λ b. not (bodies b)) (bodies_of g)))

-- ---- create and write: what joins

-- the body that a new entry takes: none if there is a place for it
abbrev pub body_taken : Geometry → View → Card → Option Place → Option ℕ
body_taken g v c (Some q) = None
body_taken g v c None = free_body g v c.next_body

-- the new slot is reached; if the folder f, whose slot is r, gained a leaf, its body is held
abbrev pub CreateMoves : Type 0
CreateMoves = (g : Geometry) (c : Card) (shown : Shown) (d : Kind) (f : Handle) (n : Name) (p : Plan Handle) (r : Slot) →
    Tied g c shown → create d f n c shown ≡ Ok p → slot_at g (seen g shown) f.slot.0 ≡ Some r →
    Marked g (seen g (puts shown p.puts))
    (λ s. reached g (seen g shown) s || s == p.answer.slot.0)
    (λ b. held g (seen g shown) b || some_is (body_taken g (seen g shown) c (open_place g (seen g shown) f r)) (nat_eq b))

-- the body that leaf k of a file of so many leaves takes: none if it is below the count
abbrev pub body_added : Geometry → View → Card → ℕ → ℕ → Option ℕ
body_added g v c k leaves = cond (nat_lt k leaves) None (free_body g v c.next_body)

-- the body that was added is held
abbrev pub WriteMoves : Type 0
WriteMoves = (g : Geometry) (c : Card) (shown : Shown) (h : Handle) (k : ℕ) (x : List ℕ) (p : Plan (Unit {0})) (r : Slot) →
    Tied g c shown → write h k x c shown ≡ Ok p → slot_at g (seen g shown) h.slot.0 ≡ Some r →
    Marked g (seen g (puts shown p.puts))
    (reached g (seen g shown))
    (λ b. held g (seen g shown) b || some_is (body_added g (seen g shown) c k (count r)) (nat_eq b))

-- ---- shorten and remove: what leaves

-- one of these leaves of h, whose slot is r, is good and lies in block b
abbrev pub good_among : View → Handle → Slot → ℕ → List ℕ → Bool
good_among v h r b [] = false
good_among v h r b (k ∷ ks) = (good v h r k && b == number r k) || good_among v h r b ks

-- block b is a good leaf of h, whose slot is r, from leaf n on
abbrev pub good_from : View → Handle → Slot → ℕ → ℕ → Bool
good_from v h r n b = good_among v h r b (from n (count r - n))

-- the bodies of the good leaves from n on are free
abbrev pub ShortenMoves : Type 0
ShortenMoves = (g : Geometry) (c : Card) (shown : Shown) (h : Handle) (n : ℕ) (p : Plan (Unit {0})) (r : Slot) →
    Tied g c shown → shorten h n c shown ≡ Ok p → slot_at g (seen g shown) h.slot.0 ≡ Some r →
    Marked g (seen g (puts shown p.puts))
    (reached g (seen g shown))
    (λ b. held g (seen g shown) b && not (good_from (seen g shown) h r n b))

-- the slot of the child a that find takes, and the bodies of its good leaves, are free
abbrev pub RemoveMoves : Type 0
RemoveMoves = (g : Geometry) (c : Card) (shown : Shown) (f : Handle) (n : Name) (p : Plan (Unit {0})) (r : Slot) (q : Place) (a : Handle) (t : Slot) →
    Tied g c shown → remove f n c shown ≡ Ok p → slot_at g (seen g shown) f.slot.0 ≡ Some r →
    found g (seen g shown) f r n ≡ Some q → child_of (entry_of g q.cell) ≡ a → slot_at g (seen g shown) a.slot.0 ≡ Some t →
    Marked g (seen g (puts shown p.puts))
    (λ s. reached g (seen g shown) s && not (s == a.slot.0))
    (λ b. held g (seen g shown) b && not (good_from (seen g shown) a t 0 b))

-- ---- format: only the root is reached, and nothing is held

abbrev pub FormatMoves : Type 0
FormatMoves = (n N S : ℕ) (ws : List Put) (shown : Shown) → format n N S ≡ Ok ws →
    Marked (sized N S) (seen (sized N S) (puts shown ws)) (λ s. nat_eq s 0) (λ b. false)
