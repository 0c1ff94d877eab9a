use Rattle.std.proofs.Common.{◌≡◌}
use Rattle.std.specs.Iterator.Adapters.{enumerate_source, enumerate_count}
use Rattle.rule.specs.Reading.{all_named, components}
use Rattle.walk.specs.Paths.{names_left}
use Rattle.walk.proofs.path.check_path.Given as goal

abbrev pub invariant-loop-component : goal.invariant-loop-component
invariant-loop-component l =
    all_named 0 (components l.path) ≡ all_named (enumerate_count l.component-iterator) (names_left (enumerate_source l.component-iterator))
