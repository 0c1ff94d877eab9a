-- A buffered card over any device.
use Rattle.buffered.specs.Buffered.{State}
use Rattle.buffered.specs.declared.buffered.Buffered.{Buffered}

-- how it stands
abbrev pub on : {D : Type 0} {d : _} → Buffered D d → State
on {D} {d} c = record { table = c.table; gone = c.gone; below = d.model c.below }
