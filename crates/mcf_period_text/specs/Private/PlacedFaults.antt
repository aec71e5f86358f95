-- Where faults stand, as the code has it.
use Rattle.mcf_period_text.specs.PeriodFaultRows.{FaultPlace}
use Rattle.mcf_period_text.specs.declared.faults.Placed.{Placed}

-- the cells of where a fault stands
abbrev pub placed_in : Placed → FaultPlace
placed_in at = record { table = at.table.now; line = at.line.items; column = at.column.now; period = at.period.now }
