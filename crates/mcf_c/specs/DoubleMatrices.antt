-- What a call for a matrix of doubles hands out.
-- Source: own
use Rattle.std.specs.Prelude.{◌≡◌, ◌^◌, min, nat_lt, Bool, List, ℤ, map, pos, ◌+ℤ◌, ◌*ℤ◌}
use Rattle.mcf_c.specs.Handing.{mark_of}
use Rattle.mcf_c.specs.declared.double_matrices.McfDoubles.{McfDoubles}
use Rattle.mcf_c.specs.declared.double_matrices.McfScale.{McfScale}
use Rattle.mcf_c.specs.declared.wide.McfWide.{McfWide}
use Rattle.mcf_matrix.specs.Costs.{Costs}
use Rattle.mcf_matrix.specs.Covers.{IsShortCover}
use Rattle.mcf_matrix.specs.PlaceSums.{at_place, sum_below}
use Rattle.mcf_matrix_doubles.specs.DoubleTables.{DoubleTable, double_costs}
use Rattle.mcf_matrix_doubles.specs.Rounding.{costs_read, most_lost}

-- the table that the arrays are
abbrev pub doubles_of : McfDoubles → DoubleTable
doubles_of m = record { entries = m.costs.now; rows = m.rows; columns = m.columns; stride = m.stride }

-- the costs that the arrays state, in units of 2^-1074
abbrev pub double_costs_of : McfDoubles → Costs
double_costs_of m = double_costs (doubles_of m)

-- whether a scale tells that costs are rounded down: any number but 0 does
abbrev pub tells_rounded : McfScale → Bool
tells_rounded s = nat_lt 0 s.is_rounded

-- the costs that the arrays state, or the same rounded down, as a scale tells
abbrev pub costs_by : McfScale → McfDoubles → Costs
costs_by s m = costs_read s.unit (tells_rounded s) (double_costs_of m)

-- how far above the least the sum of a matching may then be
abbrev pub gap_by : McfScale → McfDoubles → ℤ
gap_by s m = most_lost s.unit (tells_rounded s) (pos (min m.rows m.columns))

-- the same of a plan, by the total supply
abbrev pub plan_gap_by : McfScale → McfDoubles → List ℤ → ℤ
plan_gap_by s m supplies = most_lost s.unit (tells_rounded s) (sum_below (at_place supplies) m.rows)

-- the whole number of two words
abbrev pub wide_value : McfWide → ℤ
wide_value w = pos w.low +ℤ w.high *ℤ pos (2 ^ 64)

-- the whole numbers of a list of two words each
abbrev pub wide_values : List McfWide → List ℤ
wide_values wides = map wide_value wides

-- too few rows and columns that meet all allowed pairs, by the mark of each
pub record HandsWideCover (m : Costs) (row_marks column_marks : List McfWide) : Type 0 where
  pub rows : List Bool
  pub columns : List Bool
  pub cover : IsShortCover m rows columns
  pub rows_marked : wide_values row_marks ≡ map mark_of rows
  pub columns_marked : wide_values column_marks ≡ map mark_of columns
