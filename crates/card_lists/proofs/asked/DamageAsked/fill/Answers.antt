use Rattle.std.proofs.Common.{false, get_or, subst}
use Rattle.layout.specs.Sizes.{sizes}
use Rattle.listing.specs.Lines.{Sofar}
use Rattle.rule.specs.Agree.{Shown, seen, those, slots_of}
use Rattle.rule.specs.Reading.{bad_leaves}
use Rattle.walk.proofs.Stills.{still_then}
use Rattle.tours.specs.Damage.{damage_rows}
use Rattle.card_lists.proofs.Lining.{damage_is}
use Rattle.card_lists.proofs.asked.DamageAsked.fill.Goals as goal

pub returns : goal.returns
returns g c =
    let z = sizes c.args.g.now in
    let m = g.D.Device.model c.args.device.now in
    let k = g.D.Device.model c.mark_reached.new.device in
    let e = c.in_ok-marks.ensures in
    let w = c.in_ok-damage_lines.ensures in
    let marks = c.in_ok-marks.marks in
    record {
      still = still_then m k _ e.0 w.0;
      items = bad_leaves z (seen z m.shown) (those (λ s. get_or marks s false) (slots_of z));
      rule = damage_is z m.shown marks e.1;
      sofar = subst (λ (sh : Shown). Sofar c.args.lines.now (damage_rows z (seen z sh) marks) c.in_ok-damage_lines.field-0 c.damage_lines.new.lines) e.0.kept.shown w.1;
    }
