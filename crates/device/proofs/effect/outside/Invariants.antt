use Rattle.std.proofs.Common.{◌≡◌, drop}
use Rattle.device.specs.Effect.{first_outside}
use Rattle.device.proofs.effect.outside.Given as goal

abbrev pub invariant-loop-put : goal.invariant-loop-put
invariant-loop-put l = first_outside l.count l.puts ≡ first_outside l.count (drop l.put-index l.puts)
