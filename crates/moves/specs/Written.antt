-- A leaf that was written reads back.
use Rattle.std.specs.Prelude.{◌≡◌, ℕ, ◌≤◌, List, Ok}
use Rattle.base.specs.declared.owner.Handle.{Handle}
use Rattle.device.specs.Effect.{puts}
use Rattle.layout.specs.Format.{Geometry}
use Rattle.rule.specs.Agree.{Shown}
use Rattle.rule.specs.Card.{Card, Plan}
use Rattle.rule.specs.Changing.{write}
use Rattle.rule.specs.Reading.{read}
use Rattle.moves.specs.Tied.{Tied}

-- after an accepted write that leaf of that file reads as the bytes that were given, byte for byte
abbrev pub WrittenReadsBack : Type 0
WrittenReadsBack = (g : Geometry) (c : Card) (shown : Shown) (h : Handle) (k : ℕ) (x : List ℕ) (p : Plan (Unit {0})) →
    Tied g c shown → write h k x c shown ≡ Ok p → (room : ℕ) → 496 ≤ room → read h k room (Ok g) (puts shown p.puts) ≡ Ok x
