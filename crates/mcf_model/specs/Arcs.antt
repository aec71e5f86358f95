-- The network of a model: an arc for each step of each route, and one for each step of its way
-- back.
-- Source: own
use Rattle.std.specs.Prelude.{ℕ, suc, Bool, true, false, List, [], ◌∷◌, ◌++◌, length, take, drop, ℤ, pos, neg_ℤ, ◌+ℤ◌, ◌-ℤ◌, Option, Some, None}
use Rattle.std.specs.Int.{int_min, int_max}
use Rattle.mcf_flows.specs.declared.arc.Arc.{Arc}
use Rattle.mcf_flows.specs.declared.problem.Problem.TheVariants.{Min}
use Rattle.mcf_flows.specs.Network.{Network, arc_sum, at_node, node_sum}
use Rattle.mcf_model.specs.declared.rows.Step.{Step}
use Rattle.mcf_model.specs.Model.{Model, Route, size}

-- the capacity of the last step's arc: the reach if the step has no limit
abbrev pub last_cap : ℤ → Option ℤ → ℤ
last_cap reach (Some last_most) = last_most
last_cap reach None = reach

-- the arc of a step before the last, if at least `rest` units are left to carry
abbrev pub step_arc : ℕ → ℕ → ℤ → Step → Arc
step_arc tail head rest s = record { src = tail; dst = head; low = int_min rest s.most; cap = s.most; cost = s.cost }

-- the arc of the last step, if at least `rest` units are left to carry
abbrev pub last_arc : ℕ → ℕ → ℤ → ℤ → ℤ → Arc
last_arc tail head rest cap last_cost = record { src = tail; dst = head; low = rest; cap = cap; cost = last_cost }

-- the arcs of the steps; the least amount fills their lower bounds in order
abbrev pub way : ℕ → ℕ → ℤ → List Step → ℤ → ℤ → List Arc
way tail head least [] cap last_cost = last_arc tail head least cap last_cost ∷ []
way tail head least (s ∷ steps) cap last_cost =
    step_arc tail head least s ∷ way tail head (least -ℤ int_min least s.most) steps cap last_cost

-- the arcs back, if a route is used both ways
abbrev pub way_back : Bool → ℕ → ℕ → List Step → ℤ → ℤ → List Arc
way_back true tail head steps cap last_cost = way head tail (pos 0) steps cap last_cost
way_back false tail head steps cap last_cost = []

-- the arcs of a route there
abbrev pub there : ℤ → Route → List Arc
there reach r = way r.tail r.head r.least r.steps (last_cap reach r.last_most) r.last_cost

-- the arcs of a route back, if it is used both ways
abbrev pub back : ℤ → Route → List Arc
back reach r = way_back r.both r.tail r.head r.steps (last_cap reach r.last_most) r.last_cost

-- the arcs of the routes
abbrev pub arcs_of : ℤ → List Route → List Arc
arcs_of reach [] = []
arcs_of reach (r ∷ routes) = there reach r ++ (back reach r ++ arcs_of reach routes)

-- the network of a model, in which a route without a limit has the reach as its capacity
abbrev pub network_of : ℤ → Model → Network
network_of reach m = record { problem = Min; arcs = arcs_of reach m.routes; supplies = m.supplies }

-- more than any route without a limit has to carry: 1 plus the sum of the absolute values of all
-- supplies and least amounts
abbrev pub reach_of : Model → ℤ
reach_of m =
    pos 1 +ℤ node_sum (λ v. size (at_node m.supplies v)) (length m.supplies) +ℤ arc_sum (λ a. size a.low) (arcs_of (pos 0) m.routes)

-- ---- plans and flows

-- the number of arcs of a way
abbrev pub way_length : List Step → ℕ
way_length steps = suc (length steps)

-- the sum of amounts
abbrev pub added : List ℤ → ℤ
added [] = pos 0
added (x ∷ xs) = x +ℤ added xs

-- x filled into the steps
abbrev pub fill : List Step → ℤ → List ℤ
fill [] x = x ∷ []
fill (s ∷ steps) x = int_min x s.most ∷ fill steps (x -ℤ int_min x s.most)

-- the part of x that goes there
abbrev pub goes : Bool → ℤ → ℤ
goes false x = x
goes true x = int_max x (pos 0)

-- the part of x that goes back, filled into the steps
abbrev pub flow_back : Bool → List Step → ℤ → List ℤ
flow_back false steps x = []
flow_back true steps x = fill steps (int_max (neg_ℤ x) (pos 0))

-- the flow of a plan
abbrev pub flow_of : List Route → List ℤ → List ℤ
flow_of [] plan = []
flow_of (r ∷ routes) [] = []
flow_of (r ∷ routes) (x ∷ plan) = fill r.steps (goes r.both x) ++ (flow_back r.both r.steps x ++ flow_of routes plan)

-- the number of arcs back
abbrev pub back_length : Bool → List Step → ℕ
back_length true steps = way_length steps
back_length false steps = 0

-- the amount that a route carries, from a flow that begins with its arcs: the flow there minus the
-- flow back
abbrev pub carried : Bool → List Step → List ℤ → ℤ
carried both steps flow = added (take (way_length steps) flow) -ℤ added (take (back_length both steps) (drop (way_length steps) flow))

-- the plan of a flow
abbrev pub plan_of : List Route → List ℤ → List ℤ
plan_of [] flow = []
plan_of (r ∷ routes) flow =
    carried r.both r.steps flow ∷ plan_of routes (drop (back_length r.both r.steps) (drop (way_length r.steps) flow))
