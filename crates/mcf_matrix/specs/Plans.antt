-- Transport plans: the amount that goes from each row to each column (the transportation problem).
-- Source: Hitchcock 1941, AMO 1.3
use Rattle.std.specs.Prelude.{◌≡◌, ℕ, ◌<◌, ◌==◌, IfSome, List, [], ◌∷◌, length, ℤ, pos, ◌+ℤ◌, ◌*ℤ◌, ◌≤ℤ◌, ◌<ℤ◌, unwrap_or}
use Rattle.std.specs.List.{All}
use Rattle.mcf_flows.specs.Network.{when}
use Rattle.mcf_matrix.specs.declared.shipment.Shipment.{Shipment}
use Rattle.mcf_matrix.specs.Costs.{Costs, IsAllowed, IsPlace}
use Rattle.mcf_matrix.specs.MatrixPrices.{AreFeasiblePrices, reduced_cost}
use Rattle.mcf_matrix.specs.PlaceSums.{at_place, sum_below}

-- the sum of a term over the entries of a plan
abbrev pub plan_sum : (Shipment → ℤ) → List Shipment → ℤ
plan_sum term [] = pos 0
plan_sum term (s ∷ plan) = term s +ℤ plan_sum term plan

-- the amount that leaves row i
abbrev pub sent_from : List Shipment → ℕ → ℤ
sent_from plan i = plan_sum (λ s. when (s.row == i) s.amount) plan

-- the amount that comes to column j
abbrev pub received_at : List Shipment → ℕ → ℤ
received_at plan j = plan_sum (λ s. when (s.column == j) s.amount) plan

-- the pair of an entry is allowed, and its amount isn't below 0
pub record IsShipment (m : Costs) (s : Shipment) : Type 0 where
  pub place : IsPlace m s.row s.column
  pub allowed : IsAllowed m s.row s.column
  pub amount : pos 0 ≤ℤ s.amount

-- each row sends its supply, and each column receives its demand
pub record IsPlan (m : Costs) (supplies demands : List ℤ) (plan : List Shipment) : Type 0 where
  pub one_per_row : length supplies ≡ m.rows
  pub one_per_column : length demands ≡ m.columns
  pub shipments : All (IsShipment m) plan
  pub meets_supplies : (i : ℕ) → i < m.rows → sent_from plan i ≡ at_place supplies i
  pub meets_demands : (j : ℕ) → j < m.columns → received_at plan j ≡ at_place demands j

-- the sum of cost times amount
abbrev pub plan_cost : Costs → List Shipment → ℤ
plan_cost m plan = plan_sum (λ s. unwrap_or (m.cost s.row s.column) (pos 0) *ℤ s.amount) plan

-- no plan costs less
pub record IsLeastPlan (m : Costs) (supplies demands : List ℤ) (plan : List Shipment) : Type 0 where
  pub feasible : IsPlan m supplies demands plan
  pub least : (other : List Shipment) → IsPlan m supplies demands other → plan_cost m plan ≤ℤ plan_cost m other

-- the reduced cost of a pair that is used is 0 (complementary slackness)
-- Source: AMO 9.3
abbrev pub IsTightShipment : Costs → List ℤ → List ℤ → Shipment → Type 0
IsTightShipment m u v s = pos 0 <ℤ s.amount → IfSome (m.cost s.row s.column) (λ c. reduced_cost u v s.row s.column c ≡ pos 0)

-- a plan with prices that show it to be least: no reduced cost is below 0, and those of used pairs
-- are 0
-- Source: AMO 9.3
pub record IsShownPlan (m : Costs) (supplies demands : List ℤ) (plan : List Shipment) (u v : List ℤ) : Type 0 where
  pub feasible : IsPlan m supplies demands plan
  pub prices : AreFeasiblePrices m u v
  pub tight : All (IsTightShipment m u v) plan

-- the sum of price times supply over the rows, plus that of price times demand over the columns
abbrev pub mass_total : Costs → List ℤ → List ℤ → List ℤ → List ℤ → ℤ
mass_total m supplies demands u v =
    sum_below (λ i. at_place u i *ℤ at_place supplies i) m.rows +ℤ sum_below (λ j. at_place v j *ℤ at_place demands j) m.columns
