use Rattle.std.proofs.Common.{subst}
use Rattle.std.proofs.lemmas.Result.{err_from_is_err_and}
use Rattle.layout.specs.Sizes.{sizes}
use Rattle.listing.specs.Lines.{Sofar}
use Rattle.rule.specs.Agree.{Shown, seen, places}
use Rattle.walk.specs.Copies.{copied}
use Rattle.walk.proofs.Stills.{still_then}
use Rattle.walk.proofs.Stepping.{refused_as}
use Rattle.tours.specs.Lists.{entry_row, entry_rows, entry_lines}
use Rattle.card_lists.proofs.Lining.{list_ok, list_err, fills_exit}
use Rattle.card_lists.proofs.asked.EntriesAsked.fill.Goals as goal

pub returns-in_err-slot : goal.returns-in_err-slot
returns-in_err-slot g c =
    let m = g.D.Device.model c.args.device.now in
    let p = err_from_is_err_and c.from_residual.result c.from_residual.ensures.1 in
    fills_exit entry_row c.args.g.now _ m _ c.args.lines.now c.from_residual.result _ _ p.1 p.2
    (refused_as c.args.g.now _ _ _ _ _ (list_err (sizes c.args.g.now) m.shown c.args.self.now.folder _) c.in_err-slot.ensures)

pub returns : goal.returns
returns g c =
    let z = sizes c.args.g.now in
    let m = g.D.Device.model c.args.device.now in
    let k = g.D.Device.model c.read_kind.new.device in
    let f = c.args.self.now.folder in
    let e = c.in_ok-slot.ensures in
    let w = c.in_ok-list_entries.ensures in
    let r = copied c.in_ok-slot.slot in
    record {
      still = still_then m k _ e.0 w.0;
      items = entry_lines z (seen z m.shown) f (places (seen z m.shown) f r);
      rule = list_ok z m.shown f r e.1;
      sofar = subst (λ (sh : Shown). Sofar c.args.lines.now (entry_rows z (seen z sh) f (places (seen z sh) f r)) c.in_ok-list_entries.field-0 c.list_entries.new.lines) e.0.kept.shown w.1;
    }
