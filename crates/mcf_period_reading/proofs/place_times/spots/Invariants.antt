use Rattle.std.proofs.Common.{◌≡◌, map}
use Rattle.std.specs.List.{range_with_len}
use Rattle.mcf_table.specs.Heads.{cells_of}
use Rattle.mcf_reading.specs.Cells.{cell_at}
use Rattle.mcf_period_reading.specs.PlaceTimes.{spot_of}
use Rattle.mcf_period_reading.proofs.place_times.spots.Given as goal

abbrev pub invariant-loop-place : goal.invariant-loop-place
invariant-loop-place l =
    l.made.items
    ≡ map (λ row. spot_of l.names l.periods (cell_at (cells_of l.records row) l.columns.name) (cell_at (cells_of l.records row) l.columns.period)) (range_with_len 1 l.place)
