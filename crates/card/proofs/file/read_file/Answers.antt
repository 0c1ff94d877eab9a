use Rattle.std.proofs.Common.{subst, inl, arith}
use Rattle.std.proofs.lemmas.Result.{err_from_is_err_and}
use Rattle.layout.specs.Sizes.{sizes}
use Rattle.layout.proofs.Numbers.{length_numbers}
use Rattle.rule.specs.Agree.{Shown, seen}
use Rattle.walk.specs.Copies.{copied, LeafIs}
use Rattle.walk.specs.Still.{shows}
use Rattle.walk.proofs.Stills.{still_then}
use Rattle.walk.proofs.Stepping.{refused_as, gives_exit}
use Rattle.card.proofs.Files.{bytes_err, bytes_past, leaf_gives}
use Rattle.card.proofs.file.read_file.Goals as goal

pub returns-in_err-slot : goal.returns-in_err-slot
returns-in_err-slot g c =
    let p = err_from_is_err_and c.from_residual.result c.from_residual.ensures.1 in
    gives_exit c.args.g.now _ _ c.from_residual.result _ _ _ _ p.1 p.2
    (refused_as c.args.g.now _ _ _ _ _ (bytes_err (sizes c.args.g.now) (shows c.args.g.now (g.D.Device.model c.args.device.now)) c.args.handle.now c.args.leaf.0 _) c.in_err-slot.ensures)

pub returns-then-leaf-slot : goal.returns-then-leaf-slot
returns-then-leaf-slot g c =
    let e = c.in_ok-slot.ensures in
    let s = c.in_ok-slot.slot in
    inl (e.0, bytes_past (sizes c.args.g.now) (shows c.args.g.now (g.D.Device.model c.args.device.now)) c.args.handle.now c.args.leaf.0 (copied s) e.1 (omega (arith, c.if-leaf-slot.true, length_numbers s.count s.numbers)))

pub returns : goal.returns
returns g c =
    let geo = c.args.g.now in
    let m = g.D.Device.model c.args.device.now in
    let e = c.in_ok-slot.ensures in
    let d = c.in_ok-copy.ensures in
    let s = c.in_ok-slot.slot in
    leaf_gives geo m _ c.args.handle.now c.args.leaf.0 (copied s) e.1 (omega (arith, c.if-leaf-slot.false, length_numbers s.count s.numbers)) c.in_ok-copy.copy c.number.result c.ok_or.result c.ok_or.ensures.value c.number.ensures
    (subst (λ (f : Shown). LeafIs (seen (sizes geo) f) c.args.handle.now (copied s) c.args.leaf.0 c.in_ok-copy.copy) e.0.kept.shown d.1) (still_then _ _ _ e.0 d.0)
