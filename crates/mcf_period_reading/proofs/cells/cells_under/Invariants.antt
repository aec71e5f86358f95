use Rattle.std.proofs.Common.{◌≡◌, map}
use Rattle.std.specs.List.{range_with_len}
use Rattle.mcf_table.specs.Heads.{cells_of}
use Rattle.mcf_reading.specs.Cells.{cell_at}
use Rattle.mcf_period_reading.proofs.cells.cells_under.Given as goal

abbrev pub invariant-loop-place : goal.invariant-loop-place
invariant-loop-place l =
    map (λ cell. cell.now) l.made.items ≡ map (λ row. cell_at (cells_of l.records row) l.column) (range_with_len 1 l.place)
