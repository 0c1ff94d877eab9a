-- Calls of a device leave it as large as it was, so a card still fits on it.
use Rattle.std.proofs.Common.{◌≡◌, Ok, Err, inl, inr, arith}
use Rattle.device.specs.Model.{Model}
use Rattle.device.specs.declared.fault.Fault.{Fault}
use Rattle.device.specs.declared.fault.Fault.TheVariants.{PowerGone, NoSuchBlock}
use Rattle.layout.specs.declared.geometry.Geometry.{Geometry as CardGeometry}
use Rattle.rule.specs.Check.{Answer}
use Rattle.walk.specs.Still.{Failed, Gives}
use Rattle.card_lists.specs.Ready.{Kept, Fitting}

pub fits_moved : (c : Kept) (m n : Model) → n.count ≡ m.count → Fitting c m → Fitting c n
fits_moved (Ok g) m n e f = omega (arith, e, f)
fits_moved (Err x) m n e f = tt

failed_count : (g : CardGeometry) (m n : Model) (e : Fault) → Failed g m n e → n.count ≡ m.count
failed_count g m n (PowerGone b) h = h.kept.count
failed_count g m n (NoSuchBlock b) h = h.0.kept.count

pub gives_count : {A B : Type 0} (g : CardGeometry) (r : Answer A) (x : Answer B) (P : A → Type 0) (m n : Model) → Gives g r x P m n → n.count ≡ m.count
gives_count g (Ok a) x P m n h = h.0.kept.count
gives_count g (Err e) x P m n (inl h) = h.0.kept.count
gives_count g (Err e) x P m n (inr h) = failed_count g m n h.0 h.2
