use Rattle.std.proofs.Common.{◌≡◌, ◌∷◌, [], ◌++◌}
use Rattle.std.specs.List.{flat_map, range_with_len}
use Rattle.mcf_forms.specs.Matrices.{heads_row, row_routes}
use Rattle.mcf_forms.proofs.matrices.listed.Given as goal

abbrev pub invariant-loop-row : goal.invariant-loop-row
invariant-loop-row l = l.made ≡ (heads_row l.routes ∷ []) ++ flat_map (row_routes l.routes) (range_with_len 1 l.row)
