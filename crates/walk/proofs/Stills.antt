-- One read after another.
use Rattle.std.proofs.Common.{◌<◌, Ok, Err, Result, sym, refl, ◌∙◌, arith}
use Rattle.base.specs.declared.number.BlockNo.{BlockNo}
use Rattle.device.specs.Model.{Model, Kept, Stayed}
use Rattle.device.specs.Answers.{ReadFault}
use Rattle.device.specs.declared.fault.Fault.{Fault}
use Rattle.device.specs.declared.fault.Fault.TheVariants.{PowerGone, NoSuchBlock}
use Rattle.layout.specs.declared.geometry.Geometry.{Geometry as CardGeometry}
use Rattle.walk.specs.Still.{Still, Failed, Says}

pub still : (m : Model) → Still m m
still m = record { kept = record { count = refl; shown = refl; stands = λ i x h. h }; power = refl }

pub still_read : (m n : Model) → Stayed m n → Still m n
still_read m n s = record { kept = s.kept; power = s.on ∙ sym s.was_on }

kept_then : (m k n : Model) → Kept m k → Kept k n → Kept m n
kept_then m k n p q = record { count = q.count ∙ p.count; shown = q.shown ∙ p.shown; stands = λ i x h. p.stands i x (q.stands i x h) }

pub still_then : (m k n : Model) → Still m k → Still k n → Still m n
still_then m k n p q = record { kept = kept_then m k n p.kept q.kept; power = q.power ∙ p.power }

-- a block of the card was asked for
pub failed_read : (g : CardGeometry) (b : BlockNo) (m n : Model) (e : Fault) → b.0 < g.blocks → ReadFault b m n e → Failed g m n e
failed_read g b m n (PowerGone p) low h = h.1
failed_read g b m n (NoSuchBlock p) low h = (still_read m n h.stayed, omega (arith, h.past))

pub failed_then : (g : CardGeometry) (m k n : Model) (e : Fault) → Still m k → Failed g k n e → Failed g m n e
failed_then g m k n (PowerGone p) s h = record { kept = kept_then m k n s.kept h.kept; off = h.off }
failed_then g m k n (NoSuchBlock p) s h = (still_then m k n s h.0, omega (arith, s.kept.count, h.1))

-- an answer after reads
pub says_then : {A : Type 0} (g : CardGeometry) (r : Result A Fault) (P Q : A → Type 0) (m k n : Model) → Still m k → ((a : A) → P a → Q a) → Says g r P k n → Says g r Q m n
says_then g (Ok v) P Q m k n s f h = (still_then m k n s h.0, f v h.1)
says_then g (Err e) P Q m k n s f h = failed_then g m k n e s h
