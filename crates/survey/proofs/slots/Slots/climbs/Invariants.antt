use Rattle.std.proofs.Common.{◌≡◌, ◌-◌}
use Rattle.rule.specs.Agree.{climbs}
use Rattle.survey.specs.Known.{up_by}
use Rattle.survey.proofs.slots.Slots.climbs.Given as goal

abbrev pub invariant-loop-i : goal.invariant-loop-i
invariant-loop-i l = climbs (up_by l.self) (l.most - l._i) l.at.0 ≡ climbs (up_by l.self) l.most l.initial.at.0
