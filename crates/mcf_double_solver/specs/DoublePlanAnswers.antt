-- What is answered for a matrix of doubles with supplies and demands.
-- Source: own
use Rattle.std.specs.Prelude.{◌≡◌, ⊤, false, IsTrue, ℤ, List}
use Rattle.mcf_matrix.specs.Costs.{Costs}
use Rattle.mcf_matrix.specs.Cuts.{IsTransportCut}
use Rattle.mcf_matrix.specs.declared.shipment.Shipment.{Shipment}
use Rattle.mcf_matrix.specs.PlaceSums.{at_place, sum_below}
use Rattle.mcf_matrix.specs.Plans.{IsLeastPlan, IsPlan, IsShownPlan}
use Rattle.mcf_matrix_doubles.specs.DoublePrices.{in_units}
use Rattle.mcf_matrix_doubles.specs.Rounding.{IsNearlyLeastPlan, costs_read, most_lost}
use Rattle.mcf_matrix_doubles.specs.Spans.{IsNarrow, IsWide}
use Rattle.mcf_double_solver.specs.declared.planning.DoublePlanned.{DoublePlanned}
use Rattle.mcf_double_solver.specs.declared.planning.DoublePlanned.TheVariants.{Least, Infeasible, NotShown}

-- the plan that is answered, with its prices, or the cut, shows what it is answered for
abbrev pub IsShownPlanAnswer : Costs → List ℤ → List ℤ → DoublePlanned → Type 0
IsShownPlanAnswer m supplies demands (Least found) =
    IsShownPlan (costs_read found.unit found.is_rounded m) supplies demands found.shipments.items (in_units found.unit found.row_prices.items) (in_units found.unit found.column_prices.items)
IsShownPlanAnswer m supplies demands (Infeasible cut) = IsTransportCut m supplies demands cut.rows.items cut.columns.items cut.side
IsShownPlanAnswer m supplies demands NotShown = ⊤

-- the plan that is answered is a least one for the costs that are read, and where a cut is answered
-- there is none
abbrev pub IsRightPlanAnswer : Costs → List ℤ → List ℤ → DoublePlanned → Type 0
IsRightPlanAnswer m supplies demands (Least found) = IsLeastPlan (costs_read found.unit found.is_rounded m) supplies demands found.shipments.items
IsRightPlanAnswer m supplies demands (Infeasible cut) = (plan : List Shipment) → ¬ IsPlan m supplies demands plan
IsRightPlanAnswer m supplies demands NotShown = ⊤

-- no plan costs less than the one that is answered, by more than reading loses
abbrev pub IsNearPlanAnswer : Costs → List ℤ → List ℤ → DoublePlanned → Type 0
IsNearPlanAnswer m supplies demands (Least found) =
    IsNearlyLeastPlan m supplies demands found.shipments.items (most_lost found.unit found.is_rounded (sum_below (at_place supplies) m.rows))
IsNearPlanAnswer m supplies demands (Infeasible cut) = ⊤
IsNearPlanAnswer m supplies demands NotShown = ⊤

-- if the bits of the costs span 118 places at most, the plan is answered for the costs themselves
abbrev pub IsExactPlanIfNarrow : Costs → DoublePlanned → Type 0
IsExactPlanIfNarrow m (Least found) = IsNarrow m → found.is_rounded ≡ false
IsExactPlanIfNarrow m (Infeasible cut) = ⊤
IsExactPlanIfNarrow m NotShown = ⊤

-- a plan is answered for costs rounded down only if their bits span more, as the unit shows
abbrev pub IsRoundedPlanOnlyIfWide : Costs → DoublePlanned → Type 0
IsRoundedPlanOnlyIfWide m (Least found) = IsTrue found.is_rounded → IsWide found.unit m
IsRoundedPlanOnlyIfWide m (Infeasible cut) = ⊤
IsRoundedPlanOnlyIfWide m NotShown = ⊤
