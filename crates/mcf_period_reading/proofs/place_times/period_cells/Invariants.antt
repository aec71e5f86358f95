use Rattle.std.proofs.Common.{◌≡◌, map}
use Rattle.std.specs.List.{flat_map, range_with_len}
use Rattle.mcf_table.specs.Heads.{cells_of}
use Rattle.mcf_reading.specs.Cells.{cell_at}
use Rattle.mcf_period_reading.specs.PlaceTimes.{filled}
use Rattle.mcf_period_reading.proofs.place_times.period_cells.Given as goal

abbrev pub invariant-loop-place : goal.invariant-loop-place
invariant-loop-place l =
    map (λ name. name.now) l.made.items ≡ flat_map (λ row. filled (cell_at (cells_of l.records row) l.column)) (range_with_len 1 l.place)
