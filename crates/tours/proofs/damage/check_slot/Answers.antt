use Rattle.std.proofs.Common.{sym, ap, ◌∙◌, subst, arith}
use Rattle.std.specs.Option.{option_map}
use Rattle.layout.specs.Format.{handle}
use Rattle.layout.specs.Sizes.{sizes}
use Rattle.rule.specs.Agree.{Shown, seen}
use Rattle.walk.specs.Copies.{copied}
use Rattle.walk.proofs.Stills.{says_then}
use Rattle.tours.specs.Lists.{Adds}
use Rattle.tours.specs.Damage.{leaves_rows, slot_rows}
use Rattle.tours.proofs.Adding.{adds_is}
use Rattle.tours.proofs.Damages.{slot_there}
use Rattle.tours.proofs.damage.check_slot.Goals as goal

pub returns-clause-added : goal.returns-clause-added
returns-clause-added g c =
    let z = sizes c.args.g.now in
    let m = g.D.Device.model c.args.device.now in
    let k = g.D.Device.model c.read_slot.new.device in
    let n = g.D.Device.model c.check_leaves.new.device in
    let s = c.args.at.0 in
    let r = copied c.in-Some.slot in
    let h = handle s r.identity in
    let e = c.in_ok-slot.ensures in
    let there = slot_there z (seen z m.shown) s r (sym e.1 ∙ ap (option_map copied) c.in-Some.is) in
    let was = c.args.lines.now in
    let now = c.check_leaves.new.lines in
    says_then c.args.g.now c.check_leaves.result
    (λ _. Adds 65535 (leaves_rows (seen z k.shown) h r) was.count was.lines.now now.count now.lines.now)
    (λ _. Adds 65535 (slot_rows z (seen z m.shown) s) was.count was.lines.now now.count now.lines.now)
    m k n e.0
    (λ _ w. adds_is 65535 65535 _ _ _ _ _ _ (omega arith) there
    (subst (λ (sh : Shown). Adds 65535 (leaves_rows (seen z sh) h r) was.count was.lines.now now.count now.lines.now) e.0.kept.shown w))
    c.check_leaves.ensures.added
