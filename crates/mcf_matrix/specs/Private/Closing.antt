-- The test of a cut that a row of a matrix stands for.
use Rattle.std.specs.Prelude.{ℕ, ◌<◌, Bool, true, false, List}
use Rattle.mcf_flows.specs.declared.problem.Side.{Side}
use Rattle.mcf_flows.specs.declared.problem.Side.TheVariants.{Send, Take}
use Rattle.mcf_matrix.specs.Costs.{Costs, IsAllowed}
use Rattle.mcf_matrix.specs.Cuts.{IsClosedMark}
use Rattle.mcf_matrix.specs.PlaceSums.{is_marked}

-- the mark of the rows whose pairs may not lead to columns of the other mark
abbrev pub closing_mark : Side → Bool
closing_mark Send = true
closing_mark Take = false

-- no allowed pair of row i leads out of a set
abbrev pub IsRowClosed : Costs → ℕ → Bool → List Bool → Side → Type 0
IsRowClosed m i mark columns side = (j : ℕ) → j < m.columns → IsAllowed m i j → IsClosedMark mark (is_marked columns j) side
