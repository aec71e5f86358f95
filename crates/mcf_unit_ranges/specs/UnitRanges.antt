-- For how many units the prices of a least plan tell what one more costs.
-- Source: own, after AMO 9.11 (changes of supplies)
use Rattle.std.specs.Prelude.{ℕ, List, length, ℤ, pos, ◌+ℤ◌, ◌-ℤ◌, ◌*ℤ◌, ◌≤ℤ◌, ◌<ℤ◌, Option, IfSome, ◌↔◌}
use Rattle.mcf_flows.specs.Network.{IsNode, at_node}
use Rattle.mcf_model.specs.Model.{IsPlan, IsSound, Model, plan_cost}
use Rattle.mcf_model.specs.Scaling.{scaled}
use Rattle.mcf_model.specs.Tables.{IsRouteNumber, route_at}
use Rattle.mcf_figures.specs.Figures.{saving}
use Rattle.mcf_figures.specs.FigureLaws.{HasPlanAt, IsPriced}
use Rattle.mcf_unit_ranges.specs.Changes.{with_room, with_units}
use Rattle.mcf_unit_ranges.specs.Spans.{directed}

-- what d units more from u to w make of the cost of a plan, if each costs the difference of the
-- prices of u and w
abbrev pub told_cost : Model → List ℤ → List ℤ → ℕ → ℕ → ℤ → ℤ
told_cost m prices plan u w d = plan_cost m plan +ℤ d *ℤ (at_node prices u -ℤ at_node prices w)

-- in some finer units, some plan with d units more from u to w costs just what the prices say
pub record HoldsFor (m : Model) (prices plan : List ℤ) (u w : ℕ) (d : ℤ) : Type 0 where
  pub finer : ℤ
  pub is_finer : pos 1 ≤ℤ finer
  pub reached : HasPlanAt (scaled finer (with_units m u w d)) (finer *ℤ told_cost m prices plan u w d)

-- what the prices say holds for so many units and for no more; none is no limit
abbrev pub IsUnitsRange : Model → List ℤ → List ℤ → ℕ → ℕ → Option ℤ → Type 0
IsUnitsRange m prices plan u w most = (d : ℤ) → pos 0 ≤ℤ d → HoldsFor m prices plan u w d ↔ IfSome most (λ z. d ≤ℤ z)

-- in no finer units does a plan with d units more from u to w cost less than the prices say
abbrev pub UnitsCostNoLess : Type 0
UnitsCostNoLess =
    (m : Model) (prices plan other : List ℤ) (u w : ℕ) (d k : ℤ) → IsSound m → IsPriced m prices plan → IsNode (length m.supplies) u
    → IsNode (length m.supplies) w → pos 1 ≤ℤ k → IsPlan (scaled k (with_units m u w d)) other
    → (k *ℤ told_cost m prices plan u w d) ≤ℤ plan_cost (scaled k (with_units m u w d)) other

-- ---- room on a route

-- in some finer units, some plan with d units more room on route k costs less by just d savings
pub record SavingHoldsFor (m : Model) (prices plan : List ℤ) (k : ℕ) (d : ℤ) : Type 0 where
  pub finer : ℤ
  pub is_finer : pos 1 ≤ℤ finer
  pub reached : HasPlanAt (scaled finer (with_room m k d)) (finer *ℤ (plan_cost m plan -ℤ d *ℤ saving prices (route_at m k)))

-- the saving holds for so many units and for no more; none is no limit
abbrev pub IsRoomRange : Model → List ℤ → List ℤ → ℕ → Option ℤ → Type 0
IsRoomRange m prices plan k most = (d : ℤ) → pos 0 ≤ℤ d → SavingHoldsFor m prices plan k d ↔ IfSome most (λ z. d ≤ℤ z)

-- where room on a route saves something, it saves that for so many units as units from the route's
-- head to its tail cost what the prices say: the route carries them back
abbrev pub RoomIsUnits : Type 0
RoomIsUnits =
    (m : Model) (prices plan : List ℤ) (k : ℕ) (d : ℤ) → IsSound m → IsPriced m prices plan → IsRouteNumber m k
    → pos 0 <ℤ saving prices (route_at m k) → pos 0 ≤ℤ d
    → SavingHoldsFor m prices plan k d
    ↔ HoldsFor m prices plan (directed prices (route_at m k)).head (directed prices (route_at m k)).tail d
