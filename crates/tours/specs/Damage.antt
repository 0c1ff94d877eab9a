-- Lists of leaves that are not good, as the caller's lines have them.
use Rattle.std.specs.Prelude.{ℕ, Bool, false, not, List, map, slice_index_or}
use Rattle.base.specs.declared.owner.Handle.{Handle}
use Rattle.layout.specs.Format.{Geometry, Slot}
use Rattle.rule.specs.Agree.{View, those, from, good, count, slot_at, slots_of}
use Rattle.rule.specs.Reading.{DamageLine, bad_leaves_of, bad_leaves}
use Rattle.listing.specs.declared.line.DamageLine.{DamageLine as DamageRow}

-- a line of the rule, as the caller gets it
abbrev pub damage_row : DamageLine → DamageRow
damage_row l = record { slot = record { 0 = l.slot }; leaf = record { 0 = l.leaf } }

-- those of some leaves of h, whose slot is r, that are not good
abbrev pub leaf_rows : View → Handle → Slot → List ℕ → List DamageRow
leaf_rows v h r ks = map (λ k. record { slot = h.slot; leaf = record { 0 = k } }) (those (λ k. not (good v h r k)) ks)

-- among all its leaves
abbrev pub leaves_rows : View → Handle → Slot → List DamageRow
leaves_rows v h r = leaf_rows v h r (from 0 (count r))

-- among the leaves of slot s
abbrev pub slot_rows : Geometry → View → ℕ → List DamageRow
slot_rows g v s = map damage_row (bad_leaves_of v s (slot_at g v s))

-- among the leaves of some slots
abbrev pub marked_rows : Geometry → View → List Bool → List ℕ → List DamageRow
marked_rows g v marks ss = map damage_row (bad_leaves g v (those (λ s. slice_index_or marks s false) ss))

-- of all marked slots
abbrev pub damage_rows : Geometry → View → List Bool → List DamageRow
damage_rows g v marks = marked_rows g v marks (slots_of g)
