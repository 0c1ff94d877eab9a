use Rattle.std.proofs.Common.{◌≡◌, length, arith}
use Rattle.walk.specs.Still.{shows}
use Rattle.walk.proofs.Stills.{still_read}
use Rattle.card.proofs.Progresses.{shown_next, learned_more, examined_so}
use Rattle.card.proofs.progress.Progress.examine_next.Goals as goal

pub returns-clause-examined : goal.returns-clause-examined
returns-clause-examined g c = λ w.
    let e = c.in_ok-block.ensures in
    let m = g.D.Device.model c.args.device.now in
    let geo = c.args.g.now in
    let p = c.args.self.now in
    let long : length c.in_ok-block.block ≡ 512 = omega arith in (
      still_read _ _ e.stayed,
      (
        learned_more geo m p w c.in_ok-block.block e.bytes (record { 0 = c.max.result }) c.examine.new.self c.requires long
            (λ s. c.examine.ensures (shows geo m) s w.low c.requires (shown_next geo m p w c.in_ok-block.block e.bytes)),
        examined_so geo m p w c.in_ok-block.block e.bytes c.examine.new.self c.max.result _ c.max.ensures c.highest_told-told.ensures.told,
      ),
    )
