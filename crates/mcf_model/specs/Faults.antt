-- Faults of models: all of them, and the first route that has one, with its first fault.
-- Source: own
use Rattle.std.specs.Prelude.{ℕ, suc, ◌+◌, ◌≤◌, ◌==◌, nat_le, Bool, false, not, ◌&&◌, ◌||◌, List, [], ◌∷◌, ◌++◌, length, map, filter, find, ℤ, pos, int_lt, Option, Some, None, option_map, Result, Ok, Err}
use Rattle.std.specs.List.{All, list_any}
use Rattle.std.specs.Option.{is_none, option_or}
use Rattle.std.specs.Ordering.{int_eq}
use Rattle.mcf_model.specs.declared.faults.ModelFault.{ModelFault}
use Rattle.mcf_model.specs.declared.faults.RouteFault.{RouteFault}
use Rattle.mcf_model.specs.declared.faults.RouteFault.TheVariants.{Place, Steps, Room, FallingCost, BothWays, NoLimit}
use Rattle.mcf_model.specs.declared.rows.RouteRow.{RouteRow}
use Rattle.mcf_model.specs.declared.rows.Step.{Step}
use Rattle.mcf_model.specs.Model.{Model}
use Rattle.mcf_model.specs.Tables.{model_of, own_steps}

-- v is the number of a place
abbrev pub is_place : ℕ → ℕ → Bool
is_place places v = nat_le 1 v && nat_le v places

-- a cost is below 0
abbrev pub earns : List Step → ℤ → Bool
earns steps last_cost = list_any (λ s. int_lt s.cost (pos 0)) steps || int_lt last_cost (pos 0)

-- a limit is below 0
abbrev pub is_below : Option ℤ → Bool
is_below (Some most) = int_lt most (pos 0)
is_below None = false

-- a step has a capacity below 0; the only step of a route that isn't used both ways may have one
abbrev pub takes_below : List Step → Bool → Option ℤ → Bool
takes_below steps both last_most =
    list_any (λ s. int_lt s.most (pos 0)) steps || ((both || not (length steps == 0)) && is_below last_most)

-- the cost of the first step
abbrev pub first_cost : List Step → ℤ → ℤ
first_cost [] last_cost = last_cost
first_cost (s ∷ steps) last_cost = s.cost

-- a step costs less than the one before it
abbrev pub falls : List Step → ℤ → Bool
falls [] last_cost = false
falls (s ∷ steps) last_cost = int_lt (first_cost steps last_cost) s.cost || falls steps last_cost

-- a route both ways has a least amount other than 0, or a cost below 0
abbrev pub is_wrong_both_ways : List Step → RouteRow → Bool
is_wrong_both_ways own row = row.both && (not (int_eq row.least (pos 0)) || earns own row.last_cost)

-- some cost of some route is below 0
abbrev pub some_earn : List Step → List RouteRow → Bool
some_earn steps rows = list_any (λ row. earns (own_steps steps row) row.last_cost) rows

-- whether a route has a fault, in a model with this number of places and this table of steps;
-- `earning` says whether some cost of the model is below 0
abbrev pub applies : ℕ → List Step → Bool → RouteRow → RouteFault → Bool
applies places steps earning row Place = not (is_place places row.tail && is_place places row.head)
applies places steps earning row Steps = not (nat_le (row.first_step + row.step_count) (length steps))
applies places steps earning row Room = takes_below (own_steps steps row) row.both row.last_most
applies places steps earning row FallingCost = falls (own_steps steps row) row.last_cost
applies places steps earning row BothWays = is_wrong_both_ways (own_steps steps row) row
applies places steps earning row NoLimit = earning && is_none row.last_most

-- the faults of a route, in the order of their tests
abbrev pub route_faults : List RouteFault
route_faults = Place ∷ Steps ∷ Room ∷ FallingCost ∷ BothWays ∷ NoLimit ∷ []

-- all faults of the routes, which are numbered from a given number
abbrev pub faults_from : ℕ → List Step → Bool → ℕ → List RouteRow → List ModelFault
faults_from places steps earning number [] = []
faults_from places steps earning number (row ∷ rows) =
    map (λ what. record { route = number; what = what }) (filter (applies places steps earning row) route_faults)
    ++ faults_from places steps earning (suc number) rows

-- the first fault of a route
abbrev pub row_fault : ℕ → List Step → Bool → RouteRow → Option RouteFault
row_fault places steps earning row = find (applies places steps earning row) route_faults

-- the first fault in a list of routes, which are numbered from a given number, by a test of each
abbrev pub fault_from : (RouteRow → Option RouteFault) → ℕ → List RouteRow → Option ModelFault
fault_from test number [] = None
fault_from test number (row ∷ rows) =
    option_or (option_map (λ what. record { route = number; what = what }) (test row)) (fault_from test (suc number) rows)

-- the first route that has a fault, and its first fault
abbrev pub model_fault : ℕ → List Step → List RouteRow → Option ModelFault
model_fault places steps rows = fault_from (row_fault places steps (some_earn steps rows)) 1 rows

-- the first fault, or the model if there is none
abbrev pub model_unless : Option ModelFault → Model → Result Model ModelFault
model_unless (Some fault) m = Err fault
model_unless None m = Ok m

-- the result of making a model from supplies, a table of steps and routes: it, or the first fault
abbrev pub made_of_tables : List ℤ → List Step → List RouteRow → Result Model ModelFault
made_of_tables supplies steps rows = model_unless (model_fault (length supplies) steps rows) (model_of supplies steps rows)

-- the table has the steps of each route
abbrev pub AreListed : List Step → List RouteRow → Type 0
AreListed steps rows = All (λ row. row.first_step + row.step_count ≤ length steps) rows
