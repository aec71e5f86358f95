use Rattle.std.proofs.Common.{◌≡◌, map, take}
use Rattle.mcf_table.specs.Heads.{cells_of}
use Rattle.mcf_forms.proofs.filled.cells_of.Given as goal

abbrev pub invariant-loop-place : goal.invariant-loop-place
invariant-loop-place l = map (λ cell. cell.now) l.made.items ≡ take l.place (cells_of l.records l.row)
