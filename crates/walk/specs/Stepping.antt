-- Handles and steps down from a folder, as the code answers them.
use Rattle.std.specs.Prelude.{◌≡◌, Ok}
use Rattle.base.specs.declared.owner.Kind.TheVariants.{Folder}
use Rattle.base.specs.declared.owner.Handle.{Handle}
use Rattle.base.specs.declared.refusal.Refusal.TheVariants.{NoSuchName}
use Rattle.layout.specs.Format.{Geometry, Name, Slot, entry_of}
use Rattle.rule.specs.Agree.{View, found}
use Rattle.rule.specs.Check.{Answer, ◌>>=◌, demand}
use Rattle.rule.specs.Reading.{fits, kind_is, child_of}
use Rattle.walk.specs.Copies.{copied}
use Rattle.walk.specs.declared.entry.Found.{Found}

-- from the folder f, whose slot is r, to the child of the first sound entry with the name n
abbrev pub stepped : Geometry → View → Handle → Name → Slot → Answer Handle
stepped g v f n r = demand (found g v f r n) (NoSuchName f.slot) >>= λ q. Ok (child_of (entry_of g q.cell))

-- the same, if f is a folder
abbrev pub entered : Geometry → View → Handle → Name → Slot → Answer Handle
entered g v f n r = kind_is Folder f r >>= stepped g v f n

-- what was found is where the step leads, and its slot is the child's
pub record Enters (g : Geometry) (v : View) (x : Answer Handle) (a : Found) : Type 0 where
  pub child : x ≡ Ok a.child.handle
  pub slot : fits g v a.child.handle ≡ Ok (copied a.child.slot)
