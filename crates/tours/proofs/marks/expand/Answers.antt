use Rattle.std.proofs.Common.{ℕ, sym, ap, ◌∙◌, subst}
use Rattle.std.specs.Option.{option_map}
use Rattle.layout.specs.Format.{handle}
use Rattle.layout.specs.Sizes.{sizes}
use Rattle.layout.proofs.Numbers.{length_numbers}
use Rattle.rule.specs.Agree.{Shown, seen}
use Rattle.walk.specs.Copies.{copied}
use Rattle.tours.specs.Marks.{LeavesDone, Done}
use Rattle.tours.proofs.Marking.{moved_back, worked_then, done_folder}
use Rattle.tours.proofs.marks.expand.Goals as goal

pub returns : goal.returns
returns g c =
    let z = sizes c.args.g.now in
    let m = g.D.Device.model c.args.device.now in
    let k = g.D.Device.model c.read_slot.new.device in
    let s = c.args.at.0 in
    let copy = c.in-Some.slot in
    let r = copied copy in
    let f = handle s r.identity in
    let e = c.in_ok-slot.ensures in
    let at = sym e.1 ∙ ap (option_map copied) c.in-Some.is in
    let ms' = c.mark_leaves.new.work.marks in
    worked_then c.args.g.now c.mark_leaves.result (LeavesDone z (seen z k.shown) f r copy.count) (Done z (seen z m.shown) s) m k _ c.args.work.now c.mark_leaves.new.work e.0
    (λ h. done_folder z (seen z m.shown) s r ms' at
    (subst (λ (n : ℕ). LeavesDone z (seen z m.shown) f r n ms') (sym (length_numbers copy.count copy.numbers))
    (moved_back (λ (sh : Shown). LeavesDone z (seen z sh) f r copy.count ms') m k e.0 h)))
    c.mark_leaves.ensures
