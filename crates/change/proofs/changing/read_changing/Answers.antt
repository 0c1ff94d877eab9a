use Rattle.std.proofs.Common.{sym, refl, ◌∙◌, inl}
use Rattle.std.proofs.lemmas.Result.{err_from_is_err_and}
use Rattle.walk.proofs.Stepping.{refused_as}
use Rattle.change.proofs.Checks.{no_fit, far, near}
use Rattle.change.proofs.changing.read_changing.Goals as goal

pub returns-in_err-slot : goal.returns-in_err-slot
returns-in_err-slot g c t =
    let p = err_from_is_err_and c.from_residual.result c.from_residual.ensures.1 in
    rw (p.1, p.2) (refused_as c.args.known.now.geometry _ _ _ _ _ (no_fit _ _ _ _ _) c.in_err-slot.ensures)

pub returns-then-not-is_reached : goal.returns-then-not-is_reached
returns-then-not-is_reached g c t =
    let e = c.in_ok-slot.ensures in
    inl (e.0, far _ _ _ _ _ e.1 (sym (t.slot_is c.args.handle.now.slot.0) ∙ sym c.if-not-is_reached.ensures))

pub returns-in_err-want_kind : goal.returns-in_err-want_kind
returns-in_err-want_kind g c t =
    let e = c.in_ok-slot.ensures in
    let p = err_from_is_err_and c.from_residual-in_err-want_kind.result c.from_residual-in_err-want_kind.ensures.1 in
    rw (p.1, p.2) (inl (e.0, near _ _ _ _ _ e.1 (sym (t.slot_is c.args.handle.now.slot.0) ∙ sym c.if-not-is_reached.ensures) ∙ c.in_err-want_kind.ensures))

pub returns : goal.returns
returns g c t =
    let e = c.in_ok-slot.ensures in
    (e.0, (refl, near _ _ _ _ _ e.1 (sym (t.slot_is c.args.handle.now.slot.0) ∙ sym c.if-not-is_reached.ensures) ∙ c.in_ok-want_kind.ensures))
