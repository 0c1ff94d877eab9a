-- The classes of what a leaf shows, and how they are counted.
use Rattle.std.specs.Prelude.{◌≡◌, ◌≢◌, ℕ, ◌+◌, ◌<◌, ◌≤◌, ◌⊎◌, min, Bool, true, false, nat_lt, List, length, take, Option, Some, Ok, Err, Vec, slice_get, vec_items}
use Rattle.std.specs.Option.{option_map}
use Rattle.std.specs.declared.alloc.Global.{Global}
use Rattle.base.specs.declared.refusal.Refusal.{Refusal}
use Rattle.base.specs.declared.refusal.Refusal.TheVariants.{NoSuchLeaf}
use Rattle.trial.specs.declared.answer.Answer.{Answer}
use Rattle.trial.specs.declared.answer.Answer.TheVariants.{Leaf}
use Rattle.choir.specs.declared.parts.Part.{Part}
use Rattle.choir.specs.declared.counting.Shown.{Shown}
use Rattle.choir.specs.declared.counting.Shown.TheVariants.{Old, New, Refused, Absent, Other}
use Rattle.choir.specs.declared.counting.Tally.{Tally}

-- the bytes of leaf k of an edition, if it has that leaf
abbrev pub leaf_of : List (Vec ℕ Global) → ℕ → Option (List ℕ)
leaf_of leaves k = option_map vec_items (slice_get leaves k)

-- the class of bytes that were read of leaf k of a part
abbrev pub Class : Part → ℕ → List ℕ → Shown → Type 0
Class p k x Old = leaf_of p.old.items k ≡ Some x
Class p k x New = (leaf_of p.new.items k ≡ Some x) × (leaf_of p.old.items k ≢ Some x)
Class p k x Other = (leaf_of p.old.items k ≢ Some x) × (leaf_of p.new.items k ≢ Some x)
Class p k x s = ⊥

-- what n bytes of a buffer show of leaf k of a part, whose file has that many leaves
abbrev pub ReadShows : Part → ℕ → ℕ → ℕ → List ℕ → Shown → Type 0
ReadShows p k count n buffer s =
    ((k < count) × (n ≤ length buffer) × Class p k (take n buffer) s) ⊎ (((count ≤ k) ⊎ (length buffer < n)) × (s ≡ Other))

-- the class of a refused read of a leaf that the file has (true), or has not
abbrev pub refused_class : Bool → Refusal → Shown
refused_class true r = Refused
refused_class false (NoSuchLeaf k) = Absent
refused_class false r = Other

-- what leaf k of a part shows by an answer
abbrev pub Shows : Part → ℕ → ℕ → Answer → Shown → Type 0
Shows p k count (Leaf (Ok n) buffer) s = ReadShows p k count n buffer.items s
Shows p k count (Leaf (Err r) buffer) s = s ≡ refused_class (nat_lt k count) r
Shows p k count a s = s ≡ Other

-- one more, as far as 32 bits go
abbrev pub more : ℕ → ℕ
more n = min (n + 1) 4294967295

-- one leaf more in its class, and in no other
abbrev pub noted : Shown → Tally → Tally
noted Old t = record { old = more t.old; new = t.new; refused = t.refused; absent = t.absent; other = t.other }
noted New t = record { old = t.old; new = more t.new; refused = t.refused; absent = t.absent; other = t.other }
noted Refused t = record { old = t.old; new = t.new; refused = more t.refused; absent = t.absent; other = t.other }
noted Absent t = record { old = t.old; new = t.new; refused = t.refused; absent = more t.absent; other = t.other }
noted Other t = record { old = t.old; new = t.new; refused = t.refused; absent = t.absent; other = more t.other }
