use Rattle.std.proofs.Common.{inl, arith}
use Rattle.layout.specs.Sizes.{sizes}
use Rattle.walk.specs.Still.{shows}
use Rattle.walk.proofs.Stills.{still}
use Rattle.card.proofs.Opens.{sized_small, sized_good, sized_bad, root_some, root_none}
use Rattle.card.proofs.open.open_sized.Goals as goal

pub returns-then-count-g : goal.returns-then-count-g
returns-then-count-g g c =
    let m = g.D.Device.model c.args.device.now in
    inl (still _, sized_small m.count m.shown (sizes c.args.g) (omega (arith, c.count.ensures, c.if-count-g.true)))

pub returns-in-Some : goal.returns-in-Some
returns-in-Some g c =
    let m = g.D.Device.model c.args.device.now in
    let e = c.in_ok-root.ensures in
    (e.0, sized_good m.count m.shown (sizes c.args.g) (omega (arith, c.count.ensures, c.if-count-g.false)) (root_some (sizes c.args.g) (shows c.args.g m) c.args.g.ok _ e.1 _ _ c.in-Some.is c.if-is_root.ensures), omega (arith, c.count.ensures, c.if-count-g.false))

pub returns-in_default : goal.returns-in_default
returns-in_default g c =
    let m = g.D.Device.model c.args.device.now in
    let e = c.in_ok-root.ensures in
    inl (e.0, sized_bad m.count m.shown (sizes c.args.g) (omega (arith, c.count.ensures, c.if-count-g.false)) (root_some (sizes c.args.g) (shows c.args.g m) c.args.g.ok _ e.1 _ _ c.in-Some.is c.if-is_root.ensures))

pub returns-in_default-2 : goal.returns-in_default-2
returns-in_default-2 g c =
    let m = g.D.Device.model c.args.device.now in
    let e = c.in_ok-root.ensures in
    inl (e.0, sized_bad m.count m.shown (sizes c.args.g) (omega (arith, c.count.ensures, c.if-count-g.false)) (root_none (sizes c.args.g) (shows c.args.g m) c.args.g.ok _ e.1 c.in_default.is))
