-- A path, name by name.
use Rattle.std.specs.Prelude.{ℕ, suc, cond, List, [], ◌∷◌, Some, None, Option, ◌==◌}
use denote.Ref.{Bor}
use Rattle.layout.specs.Format.{Name}
use Rattle.rule.specs.Reading.{parted}
use Rattle.walk.specs.declared.components.Components.{Components}

-- where the first name ends: at the first '/', or at the end
abbrev pub name_end : List ℕ → ℕ
name_end [] = 0
name_end (x ∷ xs) = let rest = name_end xs in cond (x == 47) 0 (suc rest)

-- the names of what is left of a path
abbrev pub names_in : Option (Bor (List ℕ)) → List Name
names_in None = []
names_in (Some p) = parted p.now

abbrev pub names_left : Components → List Name
names_left c = names_in c.rest
