use Rattle.std.proofs.Common.{◌≡◌, map}
use Rattle.std.specs.List.{range_with_len}
use Rattle.mcf_forms.specs.Cells.{cell_at}
use Rattle.mcf_forms.proofs.cells.cells_below.Given as goal

abbrev pub invariant-loop-row : goal.invariant-loop-row
invariant-loop-row l = map (λ cell. cell.now) l.made.items ≡ map (λ row. cell_at l.records row l.place) (range_with_len 1 l.row)
