-- The problem in which each place with bounds has a limit. Where all routes have limits, none of
-- its plans brings more to a place than all amounts of the problem together; so one more than that
-- is a limit that changes no plan, and that no plan fills. It is needed where some cost is below 0.
-- Source: own
use Rattle.std.specs.Prelude.{◌≡◌, Bool, not, ◌&&◌, ◌||◌, List, map, ℤ, pos, ◌≤ℤ◌, ◌<ℤ◌, if◌then◌else◌, Option, Some, None, option_map}
use Rattle.std.specs.List.{list_any}
use Rattle.std.specs.Option.{is_none, option_or}
use Rattle.mcf_model.specs.Faults.{earns}
use Rattle.mcf_model.specs.Model.{Route}
use Rattle.mcf_places.specs.declared.places.Bounds.{Bounds}
use Rattle.mcf_places.specs.declared.places.Place.{Place}
use Rattle.mcf_places.specs.FinerPlanners.{finer}
use Rattle.mcf_places.specs.PlannerFaults.{is_open, place_earns}
use Rattle.mcf_places.specs.Planners.{EachPlace, IsPlan, Plan, Planner, cost, passes, total_missing}
use Rattle.mcf_places.specs.Throughput.{ample_limit}

-- ---- the limit that is missing

-- some bounds have no limit, though all routes have one, and some cost is below 0
abbrev pub lacks_limits : List Place → List Route → Bool
lacks_limits places routes =
    list_any (λ p. is_open p.through) places
    && (not (list_any (λ r. is_none r.last_most) routes)
    && (list_any (λ p. place_earns p.through) places || list_any (λ r. earns r.steps r.last_cost) routes))

-- the limit of bounds that need one and have none
abbrev pub limit_for : Planner → Option ℤ
limit_for P = if lacks_limits P.places P.routes then Some (ample_limit P.places P.routes) else None

-- bounds with this limit, if they have none
abbrev pub limited_bounds : Option ℤ → Bounds → Bounds
limited_bounds limit b = record { least = b.least; most = option_or b.most limit; cost = b.cost }

-- the place with such bounds
abbrev pub limited_place : Option ℤ → Place → Place
limited_place limit p = record { supply = p.supply; through = option_map (limited_bounds limit) p.through; penalty = p.penalty }

-- the problem with such bounds
abbrev pub limited : Planner → Planner
limited P =
    record {
      places = map (limited_place (limit_for P)) P.places;
      routes = P.routes;
      returning = P.returning;
      policy = P.policy;
    }

-- ---- it is the same problem

-- a plan of either problem is one of the other, at the same cost, and the same is missing
pub record IsSamePlan (P Q : Planner) (x : Plan) : Type 0 where
  pub kept : IsPlan P x → IsPlan Q x
  pub back : IsPlan Q x → IsPlan P x
  pub same_cost : cost Q x ≡ cost P x
  pub same_missing : total_missing Q x ≡ total_missing P x

-- limits change no plan, in finer units either
pub record LimitsChangeNoPlan : Type 0 where
  pub same : (P : Planner) (x : Plan) → IsSamePlan P (limited P) x
  pub same_in_finer_units : (k : ℤ) (P : Planner) (x : Plan) → pos 1 ≤ℤ k → IsSamePlan (finer k P) (finer k (limited P)) x

-- ---- no plan fills its limits

-- z is less than the limit, if there is one
abbrev pub IsBelow : Option ℤ → ℤ → Type 0
IsBelow (Some most) z = z <ℤ most
IsBelow None z = Unit {0}

-- less passes through each place than the limit of bounds that need one and have none
abbrev pub PlansFillNoLimit : Type 0
PlansFillNoLimit = (P : Planner) (x : Plan) → IsPlan P x → EachPlace (λ v p. IsBelow (limit_for P) (passes P x v p)) 1 P.places
