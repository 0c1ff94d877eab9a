use Rattle.std.proofs.Common.{ℕ, sym, ap, ◌∙◌, subst, arith, rules}
use denote.Enum.Bare.{same_true}
use Rattle.base.specs.contracts.owner.Kind.{the_type}
use native.Mathlib.Nat.{sub-zero}
use Rattle.layout.specs.Sizes.{sizes}
use Rattle.layout.proofs.Numbers.{length_numbers}
use Rattle.rule.specs.Agree.{Shown, seen, from, places_over}
use Rattle.walk.specs.Copies.{copied}
use Rattle.walk.specs.Finding.{FirstIs, first_hit, leaf_places}
use Rattle.walk.specs.Still.{shows}
use Rattle.walk.proofs.Stills.{still, still_then}
use Rattle.walk.proofs.Finding.{leaf_found, leaf_next, file_none}
use Rattle.walk.proofs.entry.find_entry.Goals as goal

pub returns-then-eq : goal.returns-then-eq
returns-then-eq g c =
    (still _, file_none (sizes c.args.g.now) (shows c.args.g.now (g.D.Device.model c.args.device.now)) c.args.folder.now.handle c.args.name.now (copied c.args.folder.now.slot) (same_true the_type (search rules) _ _ (sym c.if-eq.ensures)) _)

pub loop-k-init : goal.loop-k-init
loop-k-init g c =
    (still _, ap (λ (m : ℕ). first_hit (sizes c.args.g.now) (shows c.args.g.now (g.D.Device.model c.args.device.now)) c.args.folder.now.handle c.args.name.now (places_over (shows c.args.g.now (g.D.Device.model c.args.device.now)) c.args.folder.now.handle (copied c.args.folder.now.slot) (from 0 m))) (length_numbers c.args.folder.now.slot.count c.args.folder.now.slot.numbers ∙ sym (sub-zero c.args.folder.now.slot.count)))

pub returns-then-is_some : goal.returns-then-is_some
returns-then-is_some g c =
    let e = c.in_ok-found.ensures in
    let moved = subst (λ (f : Shown). FirstIs (sizes c.args.g.now) (seen (sizes c.args.g.now) f) c.args.folder.now.handle c.args.name.now (first_hit (sizes c.args.g.now) (seen (sizes c.args.g.now) f) c.args.folder.now.handle c.args.name.now (leaf_places (seen (sizes c.args.g.now) f) c.args.folder.now.handle (copied c.args.folder.now.slot) c.loop-k.k)) c.in_ok-found.found) c.loop-k.invariant.0.kept.shown e.1 in
    (still_then _ _ _ c.loop-k.invariant.0 e.0, leaf_found (sizes c.args.g.now) (shows c.args.g.now (g.D.Device.model c.args.device.now)) c.args.folder.now.handle c.args.name.now _ (copied c.args.folder.now.slot) c.loop-k.k c.args.folder.now.slot.count c.loop-k.invariant.1 (omega arith) c.in_ok-found.found c.if-is_some.ensures moved)

pub loop-k-preserved : goal.loop-k-preserved
loop-k-preserved g c =
    let e = c.in_ok-found.ensures in
    let moved = subst (λ (f : Shown). FirstIs (sizes c.args.g.now) (seen (sizes c.args.g.now) f) c.args.folder.now.handle c.args.name.now (first_hit (sizes c.args.g.now) (seen (sizes c.args.g.now) f) c.args.folder.now.handle c.args.name.now (leaf_places (seen (sizes c.args.g.now) f) c.args.folder.now.handle (copied c.args.folder.now.slot) c.loop-k.k)) c.in_ok-found.found) c.loop-k.invariant.0.kept.shown e.1 in
    (still_then _ _ _ c.loop-k.invariant.0 e.0, leaf_next (sizes c.args.g.now) (shows c.args.g.now (g.D.Device.model c.args.device.now)) c.args.folder.now.handle c.args.name.now _ (copied c.args.folder.now.slot) c.loop-k.k c.args.folder.now.slot.count c.loop-k.invariant.1 (omega arith) c.in_ok-found.found c.if-is_some.ensures moved)
