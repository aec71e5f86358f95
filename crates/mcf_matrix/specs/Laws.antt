-- The laws behind the judges.
-- Source: AMO 12.4, König 1931
use Rattle.std.specs.Prelude.{◌≡◌, ℕ, Bool, List, ℤ}
use Rattle.mcf_flows.specs.declared.problem.Side.{Side}
use Rattle.mcf_matrix.specs.declared.shipment.Shipment.{Shipment}
use Rattle.mcf_matrix.specs.Costs.{Costs}
use Rattle.mcf_matrix.specs.Covers.{IsShortCover}
use Rattle.mcf_matrix.specs.Cuts.{IsTransportCut}
use Rattle.mcf_matrix.specs.Matchings.{IsLeastMatching, IsMatching, matching_cost}
use Rattle.mcf_matrix.specs.MatrixPrices.{IsShownMatching, price_total}
use Rattle.mcf_matrix.specs.Plans.{IsLeastPlan, IsPlan, IsShownPlan, mass_total, plan_cost}

-- if some prices show a matching to be least, no matching costs less (weak duality)
abbrev pub ShownMatchingsAreLeast : Type 0
ShownMatchingsAreLeast = (m : Costs) (x : List ℕ) (u v : List ℤ) → IsShownMatching m x u v → IsLeastMatching m x

-- if some prices show a matching to be least, it costs the sum of all prices
abbrev pub ShownMatchingsCostThePrices : Type 0
ShownMatchingsCostThePrices = (m : Costs) (x : List ℕ) (u v : List ℤ) → IsShownMatching m x u v → matching_cost m x ≡ price_total m u v

-- if there is a short cover, there is no matching
abbrev pub CoveredHasNoMatching : Type 0
CoveredHasNoMatching = (m : Costs) (rows columns : List Bool) (x : List ℕ) → IsShortCover m rows columns → ¬ IsMatching m x

-- if some prices show a plan to be least, no plan costs less (weak duality)
-- Source: AMO 9.4
abbrev pub ShownPlansAreLeast : Type 0
ShownPlansAreLeast =
    (m : Costs) (supplies demands : List ℤ) (plan : List Shipment) (u v : List ℤ) → IsShownPlan m supplies demands plan u v
    → IsLeastPlan m supplies demands plan

-- if some prices show a plan to be least, it costs the sum of price times supply or demand
-- Source: AMO 9.4
abbrev pub ShownPlansCostThePrices : Type 0
ShownPlansCostThePrices =
    (m : Costs) (supplies demands : List ℤ) (plan : List Shipment) (u v : List ℤ) → IsShownPlan m supplies demands plan u v
    → plan_cost m plan ≡ mass_total m supplies demands u v

-- if there is a cut, there is no plan (the easy half of Hoffman's condition)
-- Source: AMO 6.7
abbrev pub CutHasNoPlan : Type 0
CutHasNoPlan =
    (m : Costs) (supplies demands : List ℤ) (rows columns : List Bool) (side : Side) (plan : List Shipment)
    → IsTransportCut m supplies demands rows columns side → ¬ IsPlan m supplies demands plan
