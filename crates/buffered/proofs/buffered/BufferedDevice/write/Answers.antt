use Rattle.std.proofs.Common.{◌<◌, arith}
use Rattle.buffered.proofs.Buffers.{written_placed, accepted_placed}
use Rattle.buffered.proofs.buffered.BufferedDevice.write.Goals as goal

pub returns : goal.returns
returns g c =
    let h = c.in_ok-i.ensures in
    let l : c.args.at.0 < (g.D.Device.model c.args.self.now.below).count = omega arith in
    record {
      answer = written_placed _ _ _ _ _ c.if-self.false l h;
      exact = accepted_placed _ _ _ _ _ c.if-self.false h;
    }
