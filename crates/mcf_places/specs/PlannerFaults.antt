-- Faults of planners' problems: all of them.
-- Source: own
use Rattle.std.specs.Prelude.{◌&&◌, ◌≡◌, ◌≤◌, ℕ, nat_lt, Bool, true, false, ◌||◌, List, [], ◌∷◌, ◌++◌, length, map, pos, ◌+ℤ◌, ◌≤ℤ◌, int_lt, ◌⊎◌, Option, Some, None, Result, Ok, Err}
use Rattle.std.specs.Global.{Vec}
use Rattle.std.specs.List.{All, list_any}
use Rattle.std.specs.Option.{is_none, is_some}
use Rattle.mcf_flows.specs.Network.{IsNode}
use Rattle.mcf_model.specs.declared.rows.RouteRow.{RouteRow}
use Rattle.mcf_model.specs.declared.rows.Step.{Step}
use Rattle.mcf_model.specs.Faults.{faults_from, some_earn}
use Rattle.mcf_model.specs.Laws.{StepsTake}
use Rattle.mcf_model.specs.Model.{CostAtLeast, IsLimited}
use Rattle.mcf_model.specs.Tables.{route_of}
use Rattle.mcf_places.specs.declared.faults.PlannerFault.{PlannerFault}
use Rattle.mcf_places.specs.declared.faults.PenaltyFlaw.{PenaltyFlaw}
use Rattle.mcf_places.specs.declared.faults.PenaltyFlaw.TheVariants.{Below, Idle, Lacking}
use Rattle.mcf_places.specs.declared.faults.PlannerFault.TheVariants.{Size, Total, Penalty, BelowPenalty, IdlePenalty, NoPenalty, NoLimit, Routes}
use Rattle.mcf_places.specs.declared.faults.TheConstants.{PLACE_LIMIT, SUM_LIMIT}
use Rattle.mcf_places.specs.declared.limits.TheConstants.{THROUGHPUT_LIMIT}
use Rattle.mcf_places.specs.declared.places.Bounds.{Bounds}
use Rattle.mcf_places.specs.declared.places.Place.{Place}
use Rattle.mcf_places.specs.declared.places.Policy.{Policy}
use Rattle.mcf_places.specs.PlannerLaws.{IsSound}
use Rattle.mcf_places.specs.Planners.{Planner, all_given, all_wanted, given, has_penalties, penalty_of, row_count, unit_penalty, wanted}
use Rattle.mcf_places.specs.Throughput.{ample_limit, is_beyond}
use Rattle.mcf_places.specs.Ways.{numbers_of, problem_of}

-- a unit that passes through a place costs less than 0
abbrev pub place_earns : Option Bounds → Bool
place_earns (Some b) = int_lt b.cost (pos 0)
place_earns None = false

-- the bounds of a place have no limit
abbrev pub is_open : Option Bounds → Bool
is_open (Some b) = is_none b.most
is_open None = false

-- some cost of a problem is below 0
abbrev pub earning : List Place → List Step → List RouteRow → Bool
earning places steps rows = list_any (λ p. place_earns p.through) places || some_earn steps rows

-- this fault, if the test holds
abbrev pub fault_if : Bool → PlannerFault → List PlannerFault
fault_if true fault = fault ∷ []
fault_if false fault = []

-- the places whose bounds have no limit, if they need one and it is too great
abbrev pub open_faults : Bool → List Place → List PlannerFault
open_faults true places = map NoLimit (numbers_of (λ p. is_open p.through) 1 places)
open_faults false places = []

-- a place's own penalty is below 0; a place that gives has one; or a place that wants something has
-- none, and none is named for all places
abbrev pub has_flaw : PenaltyFlaw → Policy → Place → Bool
has_flaw Below policy p = int_lt (unit_penalty p.penalty) (pos 0)
has_flaw Idle policy p = int_lt (pos 0) p.supply && is_some p.penalty
has_flaw Lacking policy p = int_lt p.supply (pos 0) && is_none (penalty_of policy p)

-- the fault of the place with a number
abbrev pub flaw_fault : PenaltyFlaw → ℕ → PlannerFault
flaw_fault Below v = BelowPenalty v
flaw_fault Idle v = IdlePenalty v
flaw_fault Lacking v = NoPenalty v

-- the faults of all places that have a flaw
abbrev pub flaw_faults : PenaltyFlaw → Policy → List Place → List PlannerFault
flaw_faults flaw policy places = map (flaw_fault flaw) (numbers_of (has_flaw flaw policy) 1 places)

-- each place that wants something needs a penalty: demands may be missing, and some place has a
-- penalty of its own
abbrev pub needs_penalties : Policy → List Place → Bool
needs_penalties policy places = policy.short && has_penalties places

-- the places that lack a penalty, if each place needs one
abbrev pub lacking_faults : Bool → Policy → List Place → List PlannerFault
lacking_faults true policy places = flaw_faults Lacking policy places
lacking_faults false policy places = []

-- the faults of penalties: below 0, of places that give, and lacking where others are named
abbrev pub penalty_faults : Policy → List Place → List PlannerFault
penalty_faults policy places =
    fault_if (int_lt (unit_penalty policy.penalty) (pos 0)) Penalty
    ++ (flaw_faults Below policy places
    ++ (flaw_faults Idle policy places ++ lacking_faults (needs_penalties policy places) policy places))

-- all faults: too many places, too great supplies, those of penalties, bounds without a limit where
-- some cost is below 0 and all amounts are too great for one, and faults of rows of routes
abbrev pub planner_faults : List Place → List Step → List RouteRow → Policy → List PlannerFault
planner_faults places steps rows policy =
    fault_if (nat_lt PLACE_LIMIT (length places)) Size
    ++ (fault_if (int_lt (pos SUM_LIMIT) (all_given places +ℤ all_wanted places)) Total
    ++ (penalty_faults policy places
    ++ (open_faults (earning places steps rows && is_beyond places (map (route_of steps) rows)) places
    ++ map Routes (faults_from (length places) steps (earning places steps rows) 1 rows))))

-- the planner's problem of places, a table of steps, rows of routes, and a policy
abbrev pub planner_of : List Place → List Step → List RouteRow → Policy → Planner
planner_of places steps rows policy = problem_of places (map (route_of steps) rows) policy

-- The result of making a planner's problem: it if there is no fault, or else all faults.
abbrev pub IsMade : List Place → List Step → List RouteRow → Policy → Result Planner (Vec PlannerFault) → Type 0
IsMade places steps rows policy (Ok P) = (P ≡ planner_of places steps rows policy) × (planner_faults places steps rows policy ≡ [])
IsMade places steps rows policy (Err found) = (found.items ≡ planner_faults places steps rows policy) × ¬ (found.items ≡ [])

-- ---- problems without faults

-- the bounds of a place have a limit
abbrev pub IsLimitedThrough : Option Bounds → Type 0
IsLimitedThrough (Some b) = IsLimited b.most
IsLimitedThrough None = Unit {0}

-- what passes through a place costs nothing below 0
abbrev pub CostsThrough : Option Bounds → Type 0
CostsThrough (Some b) = pos 0 ≤ℤ b.cost
CostsThrough None = Unit {0}

-- all routes have limits, and all bounds have, or one more than all amounts together may be the
-- limit of bounds that have none
pub record IsLimitedPlanner (P : Planner) : Type 0 where
  pub routes : All (λ r. IsLimited r.last_most) P.routes
  pub places : All (λ p. IsLimitedThrough p.through) P.places ⊎ (ample_limit P.places P.routes ≤ℤ pos THROUGHPUT_LIMIT)

-- no cost is below 0
pub record EarnsNothing (P : Planner) : Type 0 where
  pub routes : All (λ r. CostAtLeast (pos 0) r.steps r.last_cost) P.routes
  pub places : All (λ p. CostsThrough p.through) P.places

-- all bounds have limits, or no cost is below 0
abbrev pub HasLimits : Planner → Type 0
HasLimits P = All (λ p. IsLimitedThrough p.through) P.places ⊎ EarnsNothing P

-- the problem has no fault
pub record IsProperPlanner (P : Planner) : Type 0 where
  pub few : length P.places ≤ PLACE_LIMIT
  pub small : (all_given P.places +ℤ all_wanted P.places) ≤ℤ pos SUM_LIMIT
  pub penalty : pos 0 ≤ℤ unit_penalty P.policy.penalty
  pub penalties : All (λ p. pos 0 ≤ℤ unit_penalty p.penalty) P.places
  pub weighed : needs_penalties P.policy P.places ≡ true → All (λ p. has_flaw Lacking P.policy p ≡ false) P.places
  pub sound : IsSound P
  pub steps_take : All StepsTake P.routes
  pub few_returning : length P.returning ≤ length P.routes
  pub returning_rows : All (IsNode (row_count P)) P.returning
  pub bounded : IsLimitedPlanner P ⊎ EarnsNothing P

-- what a place gives, and what it wants, are no more than the sums may be
abbrev pub IsSmallPlace : Place → Type 0
IsSmallPlace p = (given p ≤ℤ pos SUM_LIMIT) × (wanted p ≤ℤ pos SUM_LIMIT)
