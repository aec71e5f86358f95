-- What is answered for a matrix of doubles.
-- Source: own
use Rattle.std.specs.Prelude.{◌≡◌, ⊤, ℕ, min, false, IsTrue, List, pos}
use Rattle.mcf_matrix.specs.Costs.{Costs}
use Rattle.mcf_matrix.specs.Covers.{IsShortCover}
use Rattle.mcf_matrix.specs.Matchings.{IsLeastMatching, IsMatching}
use Rattle.mcf_matrix.specs.MatrixPrices.{IsShownMatching}
use Rattle.mcf_matrix_doubles.specs.DoublePrices.{in_units}
use Rattle.mcf_matrix_doubles.specs.Rounding.{IsNearlyLeastMatching, costs_read, most_lost}
use Rattle.mcf_matrix_doubles.specs.Spans.{IsNarrow, IsWide}
use Rattle.mcf_double_solver.specs.declared.assigning.DoubleAssigned.{DoubleAssigned}
use Rattle.mcf_double_solver.specs.declared.assigning.DoubleAssigned.TheVariants.{Least, Infeasible, NotShown}

-- the matching that is answered, with its prices, or the cover, shows what it is answered for
abbrev pub IsShownAnswer : Costs → DoubleAssigned → Type 0
IsShownAnswer m (Least found) =
    IsShownMatching (costs_read found.unit found.is_rounded m) found.column_of.items (in_units found.unit found.row_prices.items) (in_units found.unit found.column_prices.items)
IsShownAnswer m (Infeasible cover) = IsShortCover m cover.rows.items cover.columns.items
IsShownAnswer m NotShown = ⊤

-- the matching that is answered is a least one for the costs that are read, and where a cover is
-- answered there is none
abbrev pub IsRightAnswer : Costs → DoubleAssigned → Type 0
IsRightAnswer m (Least found) = IsLeastMatching (costs_read found.unit found.is_rounded m) found.column_of.items
IsRightAnswer m (Infeasible cover) = (x : List ℕ) → ¬ IsMatching m x
IsRightAnswer m NotShown = ⊤

-- no matching costs less than the one that is answered, by more than reading loses
abbrev pub IsNearAnswer : Costs → DoubleAssigned → Type 0
IsNearAnswer m (Least found) = IsNearlyLeastMatching m found.column_of.items (most_lost found.unit found.is_rounded (pos (min m.rows m.columns)))
IsNearAnswer m (Infeasible cover) = ⊤
IsNearAnswer m NotShown = ⊤

-- if the bits of the costs span 118 places at most, the matching is answered for the costs
-- themselves
abbrev pub IsExactIfNarrow : Costs → DoubleAssigned → Type 0
IsExactIfNarrow m (Least found) = IsNarrow m → found.is_rounded ≡ false
IsExactIfNarrow m (Infeasible cover) = ⊤
IsExactIfNarrow m NotShown = ⊤

-- a matching is answered for costs rounded down only if their bits span more, as the unit shows
abbrev pub IsRoundedOnlyIfWide : Costs → DoubleAssigned → Type 0
IsRoundedOnlyIfWide m (Least found) = IsTrue found.is_rounded → IsWide found.unit m
IsRoundedOnlyIfWide m (Infeasible cover) = ⊤
IsRoundedOnlyIfWide m NotShown = ⊤
