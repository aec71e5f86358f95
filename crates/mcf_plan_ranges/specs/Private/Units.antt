-- The residual network of a plan at unit capacity: an arc for one unit more on each route, and one
-- for one unit less.
use Rattle.std.specs.Prelude.{ℕ, suc, ◌-◌, Bool, true, false, List, [], ◌∷◌, ◌++◌, length, take, drop, replicate, ℤ, pos, ◌+ℤ◌, ◌-ℤ◌}
use Rattle.mcf_flows.specs.declared.arc.Arc.{Arc}
use Rattle.mcf_flows.specs.declared.problem.Problem.TheVariants.{Min}
use Rattle.mcf_flows.specs.Network.{Network, when}
use Rattle.mcf_figures.specs.Figures.{amount_at, may_carry}
use Rattle.mcf_model.specs.Model.{Model, Route, route_cost}
use Rattle.mcf_model.specs.Tables.{route_at}

-- the amount with one unit more, or one less
abbrev pub next : Bool → ℤ → ℤ
next false x = x +ℤ pos 1
next true x = x -ℤ pos 1

-- where a unit more begins its way, and where a unit less does
abbrev pub begins : Bool → Route → ℕ
begins false r = r.tail
begins true r = r.head

-- where it ends
abbrev pub ends : Bool → Route → ℕ
ends false r = r.head
ends true r = r.tail

-- the arc of one unit more, or of one less, on a route that carries x
abbrev pub unit_arc : Bool → Route → ℤ → Arc
unit_arc less r x =
    record {
      src = begins less r;
      dst = ends less r;
      low = pos 0;
      cap = when (may_carry r (next less x)) (pos 1);
      cost = route_cost r (next less x) -ℤ route_cost r x;
    }

-- both arcs of each route
abbrev pub units : List Route → List ℤ → List Arc
units [] plan = []
units (r ∷ routes) [] = []
units (r ∷ routes) (x ∷ plan) = unit_arc false r x ∷ unit_arc true r x ∷ units routes plan

-- both arcs of each route but one, whose place counts from 0
abbrev pub others : ℕ → List Route → List ℤ → List Arc
others i routes plan = units (take i routes) (take i plan) ++ units (drop (suc i) routes) (drop (suc i) plan)

-- one arc of route k, and both of the other routes; no place sends or takes
abbrev pub residual : Model → List ℤ → ℕ → Bool → Network
residual m plan k less =
    record {
      problem = Min;
      arcs = unit_arc less (route_at m k) (amount_at plan k) ∷ others (k - 1) m.routes plan;
      supplies = replicate (length m.supplies) (pos 0);
    }

-- the flow of 0
abbrev pub still : List Arc → List ℤ
still arcs = replicate (length arcs) (pos 0)
