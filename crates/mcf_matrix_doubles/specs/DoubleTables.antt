-- Matrices of doubles as they are stored: a list of their bits, row after row.
-- Source: own
use Rattle.std.specs.Prelude.{ℕ, ◌+◌, ◌*◌, ◌<◌, ◌≤◌, List, length, slice_index_or}
use Rattle.mcf_matrix.specs.Costs.{Costs}
use Rattle.mcf_matrix.specs.Tables.{IsEarlier}
use Rattle.mcf_matrix_doubles.specs.declared.double_matrix.DoubleFault.{DoubleFault}
use Rattle.mcf_matrix_doubles.specs.declared.double_matrix.DoubleFault.TheVariants.{NoNumber, Shape}
use Rattle.mcf_matrix_doubles.specs.Doubles.{IsEntry, double_cost}

-- so many rows and columns, and the distance from one row to the next
pub record DoubleTable : Type 0 where
  pub entries : List ℕ
  pub rows : ℕ
  pub columns : ℕ
  pub stride : ℕ

-- the bits for row i and column j
abbrev pub bits_at : DoubleTable → ℕ → ℕ → ℕ
bits_at t i j = slice_index_or t.entries (i * t.stride + j) 0

-- the costs that a table states, in units of 2^-1074
abbrev pub double_costs : DoubleTable → Costs
double_costs t = record { rows = t.rows; columns = t.columns; cost = λ i j. double_cost (bits_at t i j) }

-- rows don't overlap, and each lies inside the list
pub record IsShaped (t : DoubleTable) : Type 0 where
  pub apart : t.columns ≤ t.stride
  pub inside : (i : ℕ) → i < t.rows → i * t.stride + t.columns ≤ length t.entries

-- each entry is a finite double or +infinity
abbrev pub AreEntries : DoubleTable → Type 0
AreEntries t = (i j : ℕ) → i < t.rows → j < t.columns → IsEntry (bits_at t i j)

-- what every matrix of doubles keeps
pub record IsDoubleMatrix (t : DoubleTable) : Type 0 where
  pub shaped : IsShaped t
  pub entries : AreEntries t

-- the entry for row i and column j is the first, row after row, that is none
pub record IsFirstRefused (t : DoubleTable) (i j : ℕ) : Type 0 where
  pub row : i < t.rows
  pub column : j < t.columns
  pub refused : ¬ IsEntry (bits_at t i j)
  pub first : (k l : ℕ) → k < t.rows → l < t.columns → IsEarlier k l i j → IsEntry (bits_at t k l)

-- what is wrong with a table: its shape, or the first entry that is a NaN or -infinity
abbrev pub IsFaultOf : DoubleTable → DoubleFault → Type 0
IsFaultOf t Shape = ¬ IsShaped t
IsFaultOf t (NoNumber i j) = IsShaped t × IsFirstRefused t i j
