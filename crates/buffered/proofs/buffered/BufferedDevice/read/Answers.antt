use Rattle.std.proofs.Common.{◌≡◌, ◌<◌, arith, rules}
use Rattle.buffered.specs.Card.{on}
use Rattle.buffered.specs.Steps.{met, waits}
use Rattle.buffered.proofs.Buffers.{alone, read_below, read_found, same_stayed}
use Rattle.buffered.proofs.buffered.BufferedDevice.read.Goals as goal
use Rattle.buffered.proofs.buffered.BufferedDevice.read.Goals.{in-Err-PowerGone, in_default-matches, in_default-matches-2}

pub returns-in-Some : goal.returns-in-Some
returns-in-Some g c =
    let s = on c.args.self.now in
    let l : c.args.at.0 < s.below.count = omega arith in
    let h = c.in-Some.ensures in
    let shown = read_found s.table s.below _ _ _ h.found h.is in
    record {
      answer = record { within = l; bytes = grind (arith, shown, h.is); stayed = same_stayed s c.if-self.false };
      exact = waits c.if-self.false l _ h.found (grind (arith, h.is)) (alone s);
    }

pub returns-clause-answer : goal.returns-clause-answer
returns-clause-answer g c =
    let is : c.match-matches.self ≡ met c.read-answer.result = elim c.match-matches.branch [ in-Err-PowerGone w ↦ search rules | in_default-matches w ↦ search rules | in_default-matches-2 w ↦ search rules ] in
    read_below _ _ _ _ _ c.if-self.false is (omega arith) c.in_default.ensures c.read-answer.ensures
