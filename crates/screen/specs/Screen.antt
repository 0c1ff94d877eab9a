-- What a program in C is answered for one leaf of one file.
use Rattle.std.specs.Prelude.{ℕ, ◌+◌, List, length, Ok, Err, Result, nat_le}
use Rattle.base.specs.Refusals.{number_of}
use Rattle.base.specs.declared.refusal.Refusal.TheVariants.{BadLength}
use Rattle.base.specs.declared.refusal.PathRefusal.{PathRefusal}
use Rattle.device.specs.Plain.{block, blocks_in}
use Rattle.rule.specs.Agree.{Shown}
use Rattle.rule.specs.Card.{Ready, opening}
use Rattle.rule.specs.Check.{Answer, ◌>>=◌, check}
use Rattle.rule.specs.Reading.{components, all_named, path, read}

-- a path's refusal, without the component
abbrev pub lower : {A : Type 0} → Result A PathRefusal → Answer A
lower (Ok a) = Ok a
lower (Err e) = Err e.lower

-- leaf k of the file at the path p, into a buffer of `room` bytes: the rule's path, then its read.
-- That every component is a name, and that there is room, is looked at before the card
unfoldable pub leaf_at : List ℕ → ℕ → ℕ → Ready → Shown → Answer (List ℕ)
leaf_at p k room ready shown = do
  _ ← lower (all_named 0 (components p))
  _ ← check (nat_le 496 room) (BadLength room)
  h ← lower (path p ready shown)
  read h k room ready shown

-- the same on the whole blocks of an image
abbrev pub screen_answer : List ℕ → List ℕ → ℕ → ℕ → Answer (List ℕ)
screen_answer image p k room = leaf_at p k room (opening (blocks_in image) (block image)) (block image)

-- the length, or 1,000 and the refusal's number
abbrev pub told : Answer (List ℕ) → ℕ
told (Ok x) = length x
told (Err e) = 1000 + number_of e
