-- What is answered for a cost matrix.
-- Source: own
use Rattle.std.specs.Prelude.{⊤, ℕ, ℤ, List}
use Rattle.mcf_matrix.specs.Costs.{Costs}
use Rattle.mcf_matrix.specs.Covers.{IsShortCover}
use Rattle.mcf_matrix.specs.declared.shipment.Shipment.{Shipment}
use Rattle.mcf_matrix.specs.Matchings.{IsLeastMatching, IsMatching}
use Rattle.mcf_matrix.specs.MatrixPrices.{IsShownMatching}
use Rattle.mcf_matrix.specs.Cuts.{IsTransportCut}
use Rattle.mcf_matrix.specs.Plans.{IsLeastPlan, IsPlan, IsShownPlan}
use Rattle.mcf_matrix_solver.specs.declared.assigning.Assigned.{Assigned}
use Rattle.mcf_matrix_solver.specs.declared.assigning.Assigned.TheVariants.{Least as LeastAssigned, Infeasible, NotShown as NoneShown}
use Rattle.mcf_matrix_solver.specs.declared.planning.Planned.{Planned}
use Rattle.mcf_matrix_solver.specs.declared.planning.Planned.TheVariants.{Least as LeastPlanned, Infeasible as NoPlan, NotShown as NoPlanShown}

-- the matching that is answered, with its prices, or the cover, shows what it is answered for
abbrev pub IsShownAnswer : Costs → Assigned → Type 0
IsShownAnswer m (LeastAssigned found) = IsShownMatching m found.column_of.items found.row_prices.items found.column_prices.items
IsShownAnswer m (Infeasible cover) = IsShortCover m cover.rows.items cover.columns.items
IsShownAnswer m NoneShown = ⊤

-- the matching that is answered is a least one, and where a cover is answered there is none
abbrev pub IsRightAnswer : Costs → Assigned → Type 0
IsRightAnswer m (LeastAssigned found) = IsLeastMatching m found.column_of.items
IsRightAnswer m (Infeasible cover) = (x : List ℕ) → ¬ IsMatching m x
IsRightAnswer m NoneShown = ⊤

-- the plan that is answered, with its prices, or the cut, shows what it is answered for
abbrev pub IsShownPlanAnswer : Costs → List ℤ → List ℤ → Planned → Type 0
IsShownPlanAnswer m supplies demands (LeastPlanned found) = IsShownPlan m supplies demands found.shipments.items found.row_prices.items found.column_prices.items
IsShownPlanAnswer m supplies demands (NoPlan cut) = IsTransportCut m supplies demands cut.rows.items cut.columns.items cut.side
IsShownPlanAnswer m supplies demands NoPlanShown = ⊤

-- the plan that is answered is a least one, and where a cut is answered there is none
abbrev pub IsRightPlanAnswer : Costs → List ℤ → List ℤ → Planned → Type 0
IsRightPlanAnswer m supplies demands (LeastPlanned found) = IsLeastPlan m supplies demands found.shipments.items
IsRightPlanAnswer m supplies demands (NoPlan cut) = (plan : List Shipment) → ¬ IsPlan m supplies demands plan
IsRightPlanAnswer m supplies demands NoPlanShown = ⊤
