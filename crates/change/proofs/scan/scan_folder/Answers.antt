use Rattle.std.proofs.Common.{◌≡◌, ℕ, None, sym, ap, ◌∙◌, subst, arith, rules}
use Rattle.std.specs.Option.{IsSome}
use Rattle.base.specs.declared.owner.Kind.TheVariants.{File}
use native.Mathlib.Nat.{sub-zero}
use Rattle.layout.specs.Sizes.{sizes}
use Rattle.layout.proofs.Numbers.{length_numbers}
use Rattle.rule.specs.Agree.{Shown, seen, from, places_over}
use Rattle.walk.specs.Copies.{copied}
use Rattle.walk.specs.Still.{shows}
use Rattle.walk.proofs.Stills.{still, still_then}
use Rattle.change.specs.Scanning.{first_sought, LeafScanned}
use Rattle.change.specs.declared.scan.Sought.TheVariants.{Open}
use Rattle.change.proofs.Scanning.{scan_found, scan_on, vacant_on, scan_end, scan_file}
use Rattle.change.proofs.scan.scan_folder.Goals as goal

pub returns-then-eq : goal.returns-then-eq
returns-then-eq g c =
    let file : c.args.folder.now.slot.kind ≡ File = search rules in
    (still _, scan_file (sizes c.args.known.now.geometry) (shows c.args.known.now.geometry (g.D.Device.model c.args.device.now)) c.args.known.now.marks.now c.args.folder.now.handle (copied c.args.folder.now.slot) c.args.sought file)

pub loop-k-init : goal.loop-k-init
loop-k-init g c =
    let v = shows c.args.known.now.geometry (g.D.Device.model c.args.device.now) in
    let all = length_numbers c.args.folder.now.slot.count c.args.folder.now.slot.numbers ∙ sym (sub-zero c.args.folder.now.slot.count) in (
      still _,
      ap (λ (m : ℕ). first_sought (sizes c.args.known.now.geometry) c.args.known.now.marks.now c.args.folder.now.handle c.args.sought (places_over v c.args.folder.now.handle (copied c.args.folder.now.slot) (from 0 m))) all,
      ap (λ (m : ℕ). first_sought (sizes c.args.known.now.geometry) c.args.known.now.marks.now c.args.folder.now.handle Open (places_over v c.args.folder.now.handle (copied c.args.folder.now.slot) (from 0 m))) all,
    )

pub returns-then-is_some : goal.returns-then-is_some
returns-then-is_some g c =
    let some : IsSome c.in_ok-here.here.found = search rules in
    let v = shows c.args.known.now.geometry (g.D.Device.model c.args.device.now) in
    let e = c.in_ok-here.ensures in
    let moved = subst (λ (f : Shown). LeafScanned (sizes c.args.known.now.geometry) (seen (sizes c.args.known.now.geometry) f) c.args.known.now.marks.now c.args.folder.now.handle (copied c.args.folder.now.slot) c.loop-k.k c.args.sought c.loop-k.vacant c.in_ok-here.here) c.loop-k.invariant.0.kept.shown e.1 in
    (still_then _ _ _ c.loop-k.invariant.0 e.0, scan_found _ _ _ _ _ _ _ _ (omega arith) _ _ moved c.loop-k.invariant.1 some)

pub loop-k-preserved : goal.loop-k-preserved
loop-k-preserved g c =
    let none : c.in_ok-here.here.found ≡ None = search rules in
    let v = shows c.args.known.now.geometry (g.D.Device.model c.args.device.now) in
    let e = c.in_ok-here.ensures in
    let moved = subst (λ (f : Shown). LeafScanned (sizes c.args.known.now.geometry) (seen (sizes c.args.known.now.geometry) f) c.args.known.now.marks.now c.args.folder.now.handle (copied c.args.folder.now.slot) c.loop-k.k c.args.sought c.loop-k.vacant c.in_ok-here.here) c.loop-k.invariant.0.kept.shown e.1 in (
      still_then _ _ _ c.loop-k.invariant.0 e.0,
      scan_on _ _ _ _ _ _ _ _ (omega arith) _ _ moved c.loop-k.invariant.1 none,
      vacant_on _ _ _ _ _ _ _ _ (omega arith) _ _ moved _ c.loop-k.invariant.2,
    )

pub returns : goal.returns
returns g c =
    (c.loop-k.invariant.0, scan_end _ _ _ _ _ _ _ _ (omega arith) c.loop-k.vacant c.loop-k.invariant.1 c.loop-k.invariant.2)
