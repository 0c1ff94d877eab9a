-- What the types of cards say has at most one proof.
use Rattle.std.specs.Prelude.{Ok, Err}
use Rattle.std.specs.Coded.{le_prop, Unit-prop}
use Rattle.std.proofs.Props.{props}
use Rattle.device.specs.Model.{Model}
use Rattle.layout.specs.declared.geometry.Geometry.{Geometry as CardGeometry}
use Rattle.marks.specs.declared.mark.Marks.{Marks}
use Rattle.change.specs.declared.plan.Memory.{Memory}
use Rattle.card_lists.specs.Ready.{Kept, Fitting}
use Rattle.card.specs.Valid.{Sees, Seen, Knows, Known}
use Rattle.card.specs.declared.progress.Progress.{Progress}

pub Fitting-prop : (c : Kept) (m : Model) → IsProp (Fitting c m)
Fitting-prop (Ok g) m = le_prop
Fitting-prop (Err e) m = Unit-prop

Sees-prop : (g : CardGeometry) (p : Progress) (m : Model) → IsProp (Sees g p m)
Sees-prop g p m = Prim.hlevel props

pub Seen-prop : (c : Kept) (p : Progress) (m : Model) → IsProp (Seen c p m)
Seen-prop (Ok g) p m = Sees-prop g p m
Seen-prop (Err e) p m = Unit-prop

pub Knows-prop : (g : CardGeometry) (mem : Memory) (ms : Marks) (m : Model) → IsProp (Knows g mem ms m)
Knows-prop g mem ms m = Prim.hlevel props

pub Known-prop : (c : Kept) (mem : Memory) (ms : Marks) (m : Model) → IsProp (Known c mem ms m)
Known-prop (Ok g) mem ms m = Knows-prop g mem ms m
Known-prop (Err e) mem ms m = Unit-prop
