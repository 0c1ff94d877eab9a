use Rattle.std.proofs.Common.{◌≡◌, None, subst, inl, rules}
use Rattle.std.specs.Option.{IsSome}
use Rattle.layout.specs.Format.{blank_cell}
use Rattle.layout.specs.Sizes.{sizes}
use Rattle.rule.specs.Agree.{Shown, seen}
use Rattle.walk.specs.Copies.{copied, SlotIs}
use Rattle.walk.proofs.Stills.{still_then}
use Rattle.change.specs.Scanning.{Scanned}
use Rattle.change.specs.declared.scan.Sought.TheVariants.{Entry as AnyEntry}
use Rattle.change.proofs.Removes.{cell_changed, spot_child, no_slot, low_child, not_empty, removed}
use Rattle.change.proofs.remove.remove_found.Goals as goal

pub returns-in_default : goal.returns-in_default
returns-in_default g c m n s w =
    let e = c.in_ok-slot.ensures in
    let child = spot_child c.args.known.now.geometry _ _ w.place c.args.spot.now c.child_at-handle.result w.spot (c.child_at-handle.ensures w.spot.inside) in
    let there = subst (λ (f : Shown). SlotIs (sizes c.args.known.now.geometry) (seen (sizes c.args.known.now.geometry) f) c.child_at-handle.result.slot.0 c.in_ok-slot.field-0) s.kept.shown e.1 in
    no_slot _ _ c.args.known.now.memory _ _ _ _ _ w c.child_at-handle.result child _ there c.in_default.is

pub returns-then-is_some : goal.returns-then-is_some
returns-then-is_some g c m n s w =
    let some : IsSome c.in_ok-inside.inside.found = search rules in
    let e = c.in_ok-slot.ensures in
    let d = c.in_ok-inside.ensures in
    let one = still_then _ _ _ s e.0 in
    let child = spot_child c.args.known.now.geometry _ _ w.place c.args.spot.now c.child_at-handle.result w.spot (c.child_at-handle.ensures w.spot.inside) in
    let there = subst (λ (f : Shown). SlotIs (sizes c.args.known.now.geometry) (seen (sizes c.args.known.now.geometry) f) c.child_at-handle.result.slot.0 c.in_ok-slot.field-0) s.kept.shown e.1 in
    let inside = subst (λ (f : Shown). Scanned (sizes c.args.known.now.geometry) (seen (sizes c.args.known.now.geometry) f) c.args.known.now.marks.now c.child_at-handle.result (copied c.in-Some.slot) AnyEntry c.in_ok-inside.inside) one.kept.shown d.1 in
    inl (still_then _ _ _ one d.0, not_empty _ _ _ _ _ _ _ _ w c.child_at-handle.result child _ c.in-Some.slot there c.in-Some.is c.in_ok-inside.inside inside some)

pub returns : goal.returns
returns g c m n s w =
    let none : c.in_ok-inside.inside.found ≡ None = search rules in
    let e = c.in_ok-slot.ensures in
    let d = c.in_ok-inside.ensures in
    let one = still_then _ _ _ s e.0 in
    let child = spot_child c.args.known.now.geometry _ _ w.place c.args.spot.now c.child_at-handle.result w.spot (c.child_at-handle.ensures w.spot.inside) in
    let there = subst (λ (f : Shown). SlotIs (sizes c.args.known.now.geometry) (seen (sizes c.args.known.now.geometry) f) c.child_at-handle.result.slot.0 c.in_ok-slot.field-0) s.kept.shown e.1 in
    let inside = subst (λ (f : Shown). Scanned (sizes c.args.known.now.geometry) (seen (sizes c.args.known.now.geometry) f) c.args.known.now.marks.now c.child_at-handle.result (copied c.in-Some.slot) AnyEntry c.in_ok-inside.inside) one.kept.shown d.1 in
    let low = low_child _ _ c.args.known.now.memory _ _ _ _ _ w c.child_at-handle.result child _ c.in-Some.slot there c.in-Some.is c.in_ok-inside.inside inside in
    let entry = cell_changed _ _ _ w.place c.args.spot.now blank_cell c.cell_put-entry.result w.spot (c.cell_put-entry.ensures w.spot.inside) in
    (still_then _ _ _ one d.0, removed _ _ _ _ _ _ _ _ w c.child_at-handle.result child _ c.in-Some.slot there c.in-Some.is c.in_ok-inside.inside inside none _ _ entry (c.blank_put-own.ensures low) _ c.planned.ensures)
