-- The reach of a model, as sums of lists.
-- Source: own
use Rattle.std.specs.Prelude.{List, [], ◌∷◌, ℤ, pos, ◌+ℤ◌}
use Rattle.mcf_model.specs.declared.rows.RouteRow.{RouteRow}
use Rattle.mcf_model.specs.Model.{size}

-- the sum of the absolute values of numbers
abbrev pub sizes : List ℤ → ℤ
sizes [] = pos 0
sizes (x ∷ xs) = size x +ℤ sizes xs

-- the sum of the absolute values of the least amounts of routes
abbrev pub leasts : List RouteRow → ℤ
leasts [] = pos 0
leasts (row ∷ rows) = size row.least +ℤ leasts rows
