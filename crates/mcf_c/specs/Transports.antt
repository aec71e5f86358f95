-- What a call for a transport problem hands out.
-- Source: own
use Rattle.std.specs.Prelude.{◌≡◌, ℕ, ◌+◌, ◌≤◌, Bool, List, length, ℤ, drop, map, take}
use Rattle.mcf_c.specs.Handing.{mark_of}
use Rattle.mcf_c.specs.Verdicts.{side_number}
use Rattle.mcf_flows.specs.declared.problem.Side.{Side}
use Rattle.mcf_matrix.specs.declared.shipment.Shipment.{Shipment}
use Rattle.mcf_matrix.specs.Costs.{Costs}
use Rattle.mcf_matrix.specs.Cuts.{IsTransportCut}
use Rattle.mcf_matrix.specs.Plans.{IsShownPlan}

-- one supply and one price for each row, one demand and one price for each column, and room for one
-- entry less than rows and columns
pub record HasRooms (rows columns : ℕ) (supplies demands : List ℤ) (plan row_prices column_prices : ℕ) : Type 0 where
  pub supply_per_row : length supplies ≡ rows
  pub demand_per_column : length demands ≡ columns
  pub price_per_row : row_prices ≡ rows
  pub price_per_column : column_prices ≡ columns
  pub room : rows + columns ≤ plan + 1

-- the room begins with so many entries of a plan that the prices show least, and is as it was after
-- them
pub record HandsPlan (m : Costs) (supplies demands : List ℤ) (old new : List Shipment) (used : ℕ) (u v : List ℤ) : Type 0 where
  pub fits : used ≤ length new
  pub shown : IsShownPlan m supplies demands (take used new) u v
  pub rest : drop used new ≡ drop used old

-- rows and columns that have more to send, or to take, than they can, by the mark of each, and the
-- number of the side
pub record MarksCut (m : Costs) (supplies demands row_marks column_marks : List ℤ) (told : ℕ) : Type 0 where
  pub rows : List Bool
  pub columns : List Bool
  pub side : Side
  pub cut : IsTransportCut m supplies demands rows columns side
  pub rows_marked : row_marks ≡ map mark_of rows
  pub columns_marked : column_marks ≡ map mark_of columns
  pub tells_side : told ≡ side_number side
