-- What a call for a cost matrix hands out.
-- Source: own
use Rattle.std.specs.Prelude.{◌≡◌, ◌≢◌, ◌≤◌, ◌⊎◌, ◌↔◌, ℕ, Bool, List, ℤ, map}
use Rattle.mcf_c.specs.Handing.{mark_of}
use Rattle.mcf_c.specs.declared.matrices.McfMatrix.{McfMatrix}
use Rattle.mcf_c.specs.declared.statuses.TheConstants.{ACCEPTED, BLOCKED, BUFFER_TOO_SMALL, INVALID_INPUT, NOT_SHOWN, NO_MEMORY, REJECTED}
use Rattle.mcf_matrix.specs.Costs.{Costs}
use Rattle.mcf_matrix.specs.Covers.{IsShortCover}
use Rattle.mcf_matrix.specs.Tables.{Table, whole_costs}

-- the table that the arrays are
abbrev pub table_of : McfMatrix → Table
table_of m = record { entries = m.costs.now; rows = m.rows; columns = m.columns; stride = m.stride }

-- the costs that the arrays state
abbrev pub costs_of : McfMatrix → Costs
costs_of m = whole_costs (table_of m)

-- too few rows and columns that meet all allowed pairs, by the mark of each
pub record HandsCover (m : Costs) (row_marks column_marks : List ℤ) : Type 0 where
  pub rows : List Bool
  pub columns : List Bool
  pub cover : IsShortCover m rows columns
  pub rows_marked : row_marks ≡ map mark_of rows
  pub columns_marked : column_marks ≡ map mark_of columns

-- an array for rows, one for the prices of rows or one for those of columns has another length
abbrev pub LacksLines : ℕ → ℕ → ℕ → ℕ → ℕ → Type 0
LacksLines rows columns entries row_prices column_prices = (entries ≢ rows) ⊎ (row_prices ≢ rows) ⊎ (column_prices ≢ columns)

-- what a call answers that finds a least assignment or plan, beside it: its statuses, whether its
-- arrays are a matrix, that it wants memory for some lines, which are rows and columns, or lacks
-- room, and what stays as it was
pub record AnswersMatrix {Entry Price : Type 0} (IsGiven LacksRoom : Type 0) (lines status : ℕ) (found found' : List Entry) (u u' v v' : List Price) : Type 0 where
  pub statuses : (status ≤ BUFFER_TOO_SMALL) ⊎ (status ≡ NOT_SHOWN)
  pub within : status ≤ BLOCKED → IsGiven
  pub fault : status ≡ INVALID_INPUT → ¬ IsGiven
  pub memory : status ≡ NO_MEMORY → 1 ≤ lines
  pub room : status ≡ BUFFER_TOO_SMALL → LacksRoom
  pub found_stays : BLOCKED ≤ status → found' ≡ found
  pub row_prices_stay : INVALID_INPUT ≤ status → u' ≡ u
  pub column_prices_stay : INVALID_INPUT ≤ status → v' ≡ v

-- what a call answers that judges whether prices show an assignment or a plan least: its statuses,
-- whether its arrays are a matrix, and that it wants memory for some lines
pub record JudgesMatrix (IsGiven IsShown : Type 0) (lines status : ℕ) : Type 0 where
  pub statuses : status ≤ NO_MEMORY
  pub exact : status ≤ REJECTED → (status ≡ ACCEPTED) ↔ IsShown
  pub within : status ≤ REJECTED → IsGiven
  pub fault : status ≡ INVALID_INPUT → ¬ IsGiven
  pub memory : status ≡ NO_MEMORY → 1 ≤ lines
