use Rattle.std.proofs.Common.{◌≡◌, map}
use Rattle.std.specs.List.{range_with_len}
use Rattle.mcf_period_units.specs.PeriodEntries.{entry_at, time_at}
use Rattle.mcf_period_units.specs.UnitRows.{unit_row}
use Rattle.mcf_period_units.proofs.unit_rows.unit_rows.Given as goal

abbrev pub invariant-loop-place : goal.invariant-loop-place
invariant-loop-place l =
    l.made.items ≡ map (λ row. unit_row l.scales (entry_at l.tables.places row) (time_at l.times.places.items row)) (range_with_len 1 l.place)
