-- What a surveyed card's memory and the blocks shown have in common, from the end of the survey on.
use Rattle.std.specs.Prelude.{◌≡◌, ℕ, suc, ◌<◌, ◌≤◌, true, List, length, Ok}
use Rattle.base.specs.declared.owner.Kind.{Kind}
use Rattle.base.specs.declared.owner.Handle.{Handle}
use Rattle.device.specs.declared.put.Put.{Put}
use Rattle.device.specs.Effect.{puts}
use Rattle.layout.specs.Format.{Name, Geometry, in_limits}
use Rattle.layout.specs.Identities.{told}
use Rattle.rule.specs.Agree.{Shown, seen}
use Rattle.rule.specs.Card.{Card, Plan, is_root, opened, opening, surveyed}
use Rattle.rule.specs.Changing.{last_identity, create, write, shorten, remove, format}
use Rattle.rule.specs.Readings.{InRange}

-- the card is of geometry g and its root is good; no shown block tells an identity above the highest, which has 32 bits;
-- the cursors are in range; and every block is whole, so that a folder body that is written again keeps its other entries
pub record Tied (g : Geometry) (c : Card) (shown : Shown) : Type 0 where
  pub limits : in_limits g.blocks g.slots ≡ true
  pub ready : c.ready ≡ Ok g
  pub root : is_root (seen g shown 1) ≡ true
  pub counted : (b : ℕ) → told g (seen g shown b) ≤ c.highest
  pub narrow : c.highest ≤ last_identity
  pub range : InRange g c
  pub whole : (b : ℕ) → 0 < b → b < g.blocks → length (shown b) ≡ 512

-- so it is when the survey of a card that opened has ended
abbrev pub TiedStarts : Type 0
TiedStarts = (n : ℕ) (shown : Shown) (g : Geometry) → opening n shown ≡ Ok g → (surveyed (opened n shown) shown).highest ≤ last_identity →
    ((b : ℕ) → 0 < b → b < g.blocks → length (shown b) ≡ 512) → Tied g (surveyed (opened n shown) shown) shown

-- ---- and so it stays after each accepted call

abbrev pub CreateStaysTied : Type 0
CreateStaysTied = (g : Geometry) (c : Card) (shown : Shown) (d : Kind) (f : Handle) (n : Name) (p : Plan Handle) →
    Tied g c shown → create d f n c shown ≡ Ok p → Tied g p.card (puts shown p.puts)

abbrev pub WriteStaysTied : Type 0
WriteStaysTied = (g : Geometry) (c : Card) (shown : Shown) (h : Handle) (k : ℕ) (x : List ℕ) (p : Plan (Unit {0})) →
    Tied g c shown → write h k x c shown ≡ Ok p → Tied g p.card (puts shown p.puts)

abbrev pub ShortenStaysTied : Type 0
ShortenStaysTied = (g : Geometry) (c : Card) (shown : Shown) (h : Handle) (n : ℕ) (p : Plan (Unit {0})) →
    Tied g c shown → shorten h n c shown ≡ Ok p → Tied g p.card (puts shown p.puts)

abbrev pub RemoveStaysTied : Type 0
RemoveStaysTied = (g : Geometry) (c : Card) (shown : Shown) (f : Handle) (n : Name) (p : Plan (Unit {0})) →
    Tied g c shown → remove f n c shown ≡ Ok p → Tied g p.card (puts shown p.puts)

-- ---- and so it is again after a format

abbrev pub sized : ℕ → ℕ → Geometry
sized N S = record { blocks = N; slots = S }

-- a new card, opened and surveyed: only the root's identity is told
abbrev pub new_card : Geometry → Card
new_card g = record { ready = Ok g; highest = 1; next_slot = 0; next_body = suc g.slots }

abbrev pub FormatTies : Type 0
FormatTies = (n N S : ℕ) (ws : List Put) (shown : Shown) → format n N S ≡ Ok ws →
    (surveyed (opened n (puts shown ws)) (puts shown ws) ≡ new_card (sized N S)) × Tied (sized N S) (new_card (sized N S)) (puts shown ws)
