use Rattle.std.proofs.Common.{Err, sym, ap, ◌∙◌, inl}
use Rattle.std.proofs.lemmas.Result.{err_from_is_err_and}
use Rattle.layout.specs.Sizes.{sizes}
use Rattle.walk.proofs.Stills.{still, still_read}
use Rattle.card.proofs.Opens.{opening_empty, opening_bad, sized_then, opening_then, opening_refused, cover_told, cover_missed}
use Rattle.card.proofs.open.open_card.Goals as goal

pub returns-then-count-eq0 : goal.returns-then-count-eq0
returns-then-count-eq0 g c =
    let m = g.D.Device.model c.args.device.now in
    inl (still _, opening_empty m.count m.shown (sym c.count.ensures ∙ c.if-count-eq0.true))

pub returns-in_err-g : goal.returns-in_err-g
returns-in_err-g g c =
    let m = g.D.Device.model c.args.device.now in
    let e = c.in_ok-block.ensures in
    let p = err_from_is_err_and c.from_residual-in_err-g.result c.from_residual-in_err-g.ensures.1 in
    let t = cover_missed c.in_ok-block.block c.parse_cover.result _ c.parse_cover.ensures _ c.in_err-g.ensures.value in
    opening_refused c.from_residual-in_err-g.result _ m _ _ (p.1 ∙ ap Err (p.2 ∙ t.1)) (still_read _ _ e.stayed) (opening_bad m.count m.shown e.within _ e.bytes t.0)

pub returns : goal.returns
returns g c =
    let e = c.in_ok-block.ensures in
    let s = still_read _ _ e.stayed in
    opening_then c.open_sized.result _ _ _ _ (g.D.Device.model c.open_sized.new.device) s
    (sized_then _ _ (sizes c.in_ok-g.g) _ s e.within e.bytes (cover_told c.in_ok-block.block c.parse_cover.result _ c.parse_cover.ensures c.in_ok-g.g c.in_ok-g.ensures.value))
    c.open_sized.ensures
