-- Sets of rows and columns that exclude every transport plan: the rows must send more than the
-- columns that they may use can take, or the columns must receive more than the rows that may use
-- them have.
-- Source: AMO 6.7 (Hoffman's condition), Hall 1935
use Rattle.std.specs.Prelude.{◌≡◌, ℕ, IsTrue, Bool, List, length, ℤ, ◌<ℤ◌}
use Rattle.mcf_flows.specs.declared.problem.Side.{Side}
use Rattle.mcf_flows.specs.declared.problem.Side.TheVariants.{Send, Take}
use Rattle.mcf_flows.specs.Network.{when}
use Rattle.mcf_matrix.specs.Costs.{Costs, IsAllowed, IsPlace}
use Rattle.mcf_matrix.specs.PlaceSums.{at_place, is_marked, sum_below}

-- the sum of the masses (supplies or demands) of the marked places
abbrev pub mass_in : List ℤ → List Bool → ℕ → ℤ
mass_in masses marks n = sum_below (λ i. when (is_marked marks i) (at_place masses i)) n

-- if the row is marked, so is the column; or, for the other side, the reverse
abbrev pub IsClosedMark : Bool → Bool → Side → Type 0
IsClosedMark row column Send = IsTrue row → IsTrue column
IsClosedMark row column Take = IsTrue column → IsTrue row

-- no allowed pair leads out of the set
abbrev pub AreClosed : Costs → List Bool → List Bool → Side → Type 0
AreClosed m rows columns side = (i j : ℕ) → IsPlace m i j → IsAllowed m i j → IsClosedMark (is_marked rows i) (is_marked columns j) side

-- the marked rows supply more than the marked columns demand; or, for the other side, less
abbrev pub IsUneven : ℤ → ℤ → Side → Type 0
IsUneven supply demand Send = demand <ℤ supply
IsUneven supply demand Take = supply <ℤ demand

-- a set that no allowed pair leaves, and whose supplies and demands differ in the wrong direction
pub record IsTransportCut (m : Costs) (supplies demands : List ℤ) (rows columns : List Bool) (side : Side) : Type 0 where
  pub supply_per_row : length supplies ≡ m.rows
  pub demand_per_column : length demands ≡ m.columns
  pub mark_per_row : length rows ≡ m.rows
  pub mark_per_column : length columns ≡ m.columns
  pub closed : AreClosed m rows columns side
  pub uneven : IsUneven (mass_in supplies rows m.rows) (mass_in demands columns m.columns) side
