-- Models: places that send or take, routes between them, and plans. No network is named here.
-- Source: own
use Rattle.std.specs.Prelude.{◌≡◌, ℕ, ◌==◌, Bool, true, false, List, [], ◌∷◌, length, ℤ, pos, neg_ℤ, ◌+ℤ◌, ◌-ℤ◌, ◌*ℤ◌, ◌≤ℤ◌, Option, Some, None}
use Rattle.std.specs.Int.{int_min, int_max}
use Rattle.std.specs.List.{All, AllZip}
use Rattle.mcf_flows.specs.Network.{IsNode, at_node, when}
use Rattle.mcf_model.specs.declared.rows.Step.{Step}

-- ---- models

-- a route carries at least `least` units; these fill its steps in order, of which the last may have
-- no limit; a route both ways may carry a negative amount, which goes back
pub record Route : Type 0 where
  pub tail : ℕ
  pub head : ℕ
  pub least : ℤ
  pub steps : List Step
  pub last_most : Option ℤ
  pub last_cost : ℤ
  pub both : Bool

-- the supply of each place (it sends if above 0, and takes if below), and the routes; places count
-- from 1
pub record Model : Type 0 where
  pub supplies : List ℤ
  pub routes : List Route

-- ---- plans: a list of amounts, one for each route

-- the absolute value of an amount
abbrev pub size : ℤ → ℤ
size x = int_max x (neg_ℤ x)

-- the cost of x units: each step is filled before the next one is begun
abbrev pub charge : List Step → ℤ → ℤ → ℤ
charge [] last_cost x = last_cost *ℤ x
charge (s ∷ steps) last_cost x = s.cost *ℤ int_min x s.most +ℤ charge steps last_cost (x -ℤ int_min x s.most)

-- the capacity of all steps together, if the last has the capacity `last_most`
abbrev pub room : List Step → ℤ → ℤ
room [] last_most = last_most
room (s ∷ steps) last_most = s.most +ℤ room steps last_most

-- x fits the steps
abbrev pub Fits : List Step → Option ℤ → ℤ → Type 0
Fits steps (Some last_most) x = x ≤ℤ room steps last_most
Fits steps None x = Unit {0}

-- the amount for which x is charged: on a route both ways its absolute value
abbrev pub charged : Bool → ℤ → ℤ
charged true x = size x
charged false x = x

-- the route may carry x: no less than its least amount, and no more than its steps take
pub record MayCarry (r : Route) (x : ℤ) : Type 0 where
  pub enough : r.least ≤ℤ charged r.both x
  pub fits : Fits r.steps r.last_most (charged r.both x)

-- the cost of a route that carries x
abbrev pub route_cost : Route → ℤ → ℤ
route_cost r x = charge r.steps r.last_cost (charged r.both x)

-- a sum over the routes and the amounts that they carry
abbrev pub plan_sum : (Route → ℤ → ℤ) → List Route → List ℤ → ℤ
plan_sum term [] plan = pos 0
plan_sum term (r ∷ routes) [] = pos 0
plan_sum term (r ∷ routes) (x ∷ plan) = term r x +ℤ plan_sum term routes plan

-- the amount that leaves a place by its routes
abbrev pub leaving : List Route → List ℤ → ℕ → ℤ
leaving routes plan v = plan_sum (λ r x. when (r.tail == v) x) routes plan

-- the amount that comes to a place by its routes
abbrev pub arriving : List Route → List ℤ → ℕ → ℤ
arriving routes plan v = plan_sum (λ r x. when (r.head == v) x) routes plan

-- the cost of a plan
abbrev pub plan_cost : Model → List ℤ → ℤ
plan_cost m plan = plan_sum route_cost m.routes plan

-- each route carries an amount that it may carry, and each place sends its supply
pub record IsPlan (m : Model) (plan : List ℤ) : Type 0 where
  pub may_carry : AllZip MayCarry m.routes plan
  pub meets_supplies : (v : ℕ) → IsNode (length m.supplies) v → leaving m.routes plan v -ℤ arriving m.routes plan v ≡ at_node m.supplies v

-- no plan costs less
pub record IsLeastPlan (m : Model) (plan : List ℤ) : Type 0 where
  pub is_plan : IsPlan m plan
  pub least : (other : List ℤ) → IsPlan m other → plan_cost m plan ≤ℤ plan_cost m other

-- ---- models without faults

-- no step costs less than this
abbrev pub CostAtLeast : ℤ → List Step → ℤ → Type 0
CostAtLeast c [] last_cost = c ≤ℤ last_cost
CostAtLeast c (s ∷ steps) last_cost = (c ≤ℤ s.cost) × CostAtLeast c steps last_cost

-- costs rise from step to step
abbrev pub Rises : List Step → ℤ → Type 0
Rises [] last_cost = Unit {0}
Rises (s ∷ steps) last_cost = CostAtLeast s.cost steps last_cost × Rises steps last_cost

-- the last step's capacity isn't below 0
abbrev pub IsRoom : Option ℤ → Type 0
IsRoom (Some last_most) = pos 0 ≤ℤ last_most
IsRoom None = Unit {0}

-- no capacity of these steps is below 0
abbrev pub AreRooms : List Step → Option ℤ → Type 0
AreRooms [] last_most = IsRoom last_most
AreRooms (s ∷ steps) last_most = (pos 0 ≤ℤ s.most) × AreRooms steps last_most

-- no capacity of the steps after the first is below 0
abbrev pub Adds : List Step → Option ℤ → Type 0
Adds [] last_most = Unit {0}
Adds (s ∷ steps) last_most = AreRooms steps last_most

-- a route both ways has the least amount 0, no cost below 0, and no capacity below 0
abbrev pub MayBeBoth : Bool → ℤ → List Step → Option ℤ → ℤ → Type 0
MayBeBoth false least steps last_most last_cost = Unit {0}
MayBeBoth true least steps last_most last_cost = (least ≡ pos 0) × CostAtLeast (pos 0) steps last_cost × AreRooms steps last_most

-- the ends of a route are places, its costs don't fall, and no capacity after the first is below 0
pub record IsSoundRoute (places : ℕ) (r : Route) : Type 0 where
  pub tail_is_place : IsNode places r.tail
  pub head_is_place : IsNode places r.head
  pub rises : Rises r.steps r.last_cost
  pub adds : Adds r.steps r.last_most
  pub may_be_both : MayBeBoth r.both r.least r.steps r.last_most r.last_cost

-- each route is sound
abbrev pub IsSound : Model → Type 0
IsSound m = All (IsSoundRoute (length m.supplies)) m.routes

-- the cost of a unit is never below 0
abbrev pub HasNoEarnings : Model → Type 0
HasNoEarnings m = All (λ r. CostAtLeast (pos 0) r.steps r.last_cost) m.routes

-- the last step has a limit
abbrev pub IsLimited : Option ℤ → Type 0
IsLimited (Some last_most) = Unit {0}
IsLimited None = ⊥
