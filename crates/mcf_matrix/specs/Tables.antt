-- The storage of matrices: a list of whole numbers, row after row.
-- Source: own
use Rattle.std.specs.Prelude.{◌≡◌, ℕ, ◌+◌, ◌*◌, ◌<◌, ◌≤◌, ◌⊎◌, Option, Some, None, IfSome, List, length, ℤ, pos, if◌then◌else◌, int_lt, slice_index_or}
use Rattle.mcf_flows.specs.Limits.{limits}
use Rattle.mcf_flows.specs.WellFormed.{IsUpTo}
use Rattle.mcf_matrix.specs.declared.matrix.TheConstants.{FORBIDDEN}
use Rattle.mcf_matrix.specs.declared.matrix.MatrixFault.{MatrixFault}
use Rattle.mcf_matrix.specs.declared.matrix.MatrixFault.TheVariants.{Beyond, Shape}
use Rattle.mcf_matrix.specs.Costs.{Costs, AreSmallCosts, HasSmallCost, IsPlace}

-- the list of entries, the numbers of rows and columns, and the distance from one row to the next
pub record Table : Type 0 where
  pub entries : List ℤ
  pub rows : ℕ
  pub columns : ℕ
  pub stride : ℕ

-- the entry for row i and column j
abbrev pub entry : Table → ℕ → ℕ → ℤ
entry t i j = slice_index_or t.entries (i * t.stride + j) (pos 0)

-- the cost that an entry stands for; the greatest number of 64 bits stands for no cost: it forbids
-- the pair
abbrev pub cost_of : ℤ → Option ℤ
cost_of z = if int_lt z FORBIDDEN then Some z else None

-- the entry is a cost within the limit of costs, or forbids its pair
abbrev pub IsSmallEntry : ℤ → Type 0
IsSmallEntry z = IfSome (cost_of z) (IsUpTo limits.cost)

-- the costs that a table states
abbrev pub whole_costs : Table → Costs
whole_costs t = record { rows = t.rows; columns = t.columns; cost = λ i j. cost_of (entry t i j) }

-- rows don't overlap, and each lies inside the list
pub record IsShaped (t : Table) : Type 0 where
  pub apart : t.columns ≤ t.stride
  pub inside : (i : ℕ) → i < t.rows → i * t.stride + t.columns ≤ length t.entries

-- the invariant of a matrix
pub record IsMatrix (t : Table) : Type 0 where
  pub shaped : IsShaped t
  pub small : AreSmallCosts (whole_costs t)

-- (i, j) comes before (k, l), row after row
abbrev pub IsEarlier : ℕ → ℕ → ℕ → ℕ → Type 0
IsEarlier i j k l = (i < k) ⊎ ((i ≡ k) × (j < l))

-- the cost for row i and column j is the first, row after row, that lies beyond the limit of costs
pub record IsFirstBeyond (m : Costs) (i j : ℕ) : Type 0 where
  pub place : IsPlace m i j
  pub beyond : ¬ HasSmallCost m i j
  pub first : (k l : ℕ) → IsPlace m k l → IsEarlier k l i j → HasSmallCost m k l

-- the fault of a table: its shape, or the first cost that is beyond the limit
abbrev pub IsFaultOf : Table → MatrixFault → Type 0
IsFaultOf t Shape = ¬ IsShaped t
IsFaultOf t (Beyond i j) = IsShaped t × IsFirstBeyond (whole_costs t) i j
