-- Planners' problems: places with bounds on what passes through them, supplies that may stay, and
-- demands that may be missing. No network is named here.
-- Source: own
use Rattle.std.specs.Prelude.{◌≡◌, ℕ, suc, ◌-◌, Bool, true, false, not, ◌&&◌, ◌||◌, List, [], ◌∷◌, length, ℤ, pos, neg_ℤ, ◌+ℤ◌, ◌-ℤ◌, ◌*ℤ◌, ◌≤ℤ◌, ◌<ℤ◌, ◌⊎◌, Option, Some, None}
use Rattle.std.specs.Int.{int_max}
use Rattle.std.specs.List.{AllZip, list_any}
use Rattle.std.specs.Option.{is_some, option_or}
use Rattle.mcf_flows.specs.Network.{at_node, when}
use Rattle.mcf_model.specs.Model.{MayCarry, Route, arriving, leaving, plan_sum, route_cost}
use Rattle.mcf_places.specs.declared.places.Bounds.{Bounds}
use Rattle.mcf_places.specs.declared.places.Place.{Place}
use Rattle.mcf_places.specs.declared.places.Policy.{Policy}

-- ---- planners' problems and plans

-- Places and routes, and whether supplies may stay and demands may be missing; places count from 1.
-- Each row of a table of routes is a route, in order; the last routes are the ways back of the rows
-- that `returning` names, in order.
pub record Planner : Type 0 where
  pub places : List Place
  pub routes : List Route
  pub returning : List ℕ
  pub policy : Policy

-- the number of rows that the routes are made of
abbrev pub row_count : Planner → ℕ
row_count P = length P.routes - length P.returning

-- what each route carries, what stays at each place, and what is missing at each place
pub record Plan : Type 0 where
  pub carries : List ℤ
  pub stays : List ℤ
  pub missing : List ℤ

-- what a place gives
abbrev pub given : Place → ℤ
given p = int_max p.supply (pos 0)

-- what a place wants
abbrev pub wanted : Place → ℤ
wanted p = int_max (neg_ℤ p.supply) (pos 0)

-- a sum over places, of which the first has a given number
abbrev pub place_sum : (ℕ → Place → ℤ) → ℕ → List Place → ℤ
place_sum term v [] = pos 0
place_sum term v (p ∷ places) = term v p +ℤ place_sum term (suc v) places

-- what all places give
abbrev pub all_given : List Place → ℤ
all_given places = place_sum (λ v p. given p) 1 places

-- what all places want
abbrev pub all_wanted : List Place → ℤ
all_wanted places = place_sum (λ v p. wanted p) 1 places

-- a fact of each place, of which the first has a given number
abbrev pub EachPlace : (ℕ → Place → Type 0) → ℕ → List Place → Type 0
EachPlace Holds v [] = Unit {0}
EachPlace Holds v (p ∷ places) = Holds v p × EachPlace Holds (suc v) places

-- what passes through a place: what arrives there by the heads of routes, and what of its supply
-- doesn't stay; a route that carries less than 0 takes away
abbrev pub passes : Planner → Plan → ℕ → Place → ℤ
passes P x v p = arriving P.routes x.carries v +ℤ (given p -ℤ at_node x.stays v)

-- z is no more than the limit, if there is one
abbrev pub IsAtMost : Option ℤ → ℤ → Type 0
IsAtMost (Some most) z = z ≤ℤ most
IsAtMost None z = Unit {0}

-- z keeps the bounds, if there are some
abbrev pub KeepsBounds : Option Bounds → ℤ → Type 0
KeepsBounds (Some b) z = (b.least ≤ℤ z) × IsAtMost b.most z
KeepsBounds None z = Unit {0}

-- what a plan keeps at a place
pub record IsBalancedAt (P : Planner) (x : Plan) (v : ℕ) (p : Place) : Type 0 where
  pub stays_some : pos 0 ≤ℤ at_node x.stays v
  pub stays_no_more : at_node x.stays v ≤ℤ when P.policy.unused (given p)
  pub misses_some : pos 0 ≤ℤ at_node x.missing v
  pub misses_no_more : at_node x.missing v ≤ℤ when P.policy.short (wanted p)
  pub balances : passes P x v p ≡ leaving P.routes x.carries v +ℤ (wanted p -ℤ at_node x.missing v)
  pub keeps_bounds : KeepsBounds p.through (passes P x v p)

-- each route carries an amount that it may carry, and at each place what passes through leaves, or
-- is what the place wants
pub record IsPlan (P : Planner) (x : Plan) : Type 0 where
  pub may_carry : AllZip MayCarry P.routes x.carries
  pub stays_by_place : length x.stays ≡ length P.places
  pub missing_by_place : length x.missing ≡ length P.places
  pub balanced : EachPlace (IsBalancedAt P x) 1 P.places

-- ---- costs

-- what is missing at all places together
abbrev pub total_missing : Planner → Plan → ℤ
total_missing P x = place_sum (λ v p. at_node x.missing v) 1 P.places

-- the cost of what passes through a place
abbrev pub through_cost : Option Bounds → ℤ → ℤ
through_cost (Some b) z = b.cost *ℤ z
through_cost None z = pos 0

-- the cost of each missing unit, or 0 if there is none
abbrev pub unit_penalty : Option ℤ → ℤ
unit_penalty (Some penalty) = penalty
unit_penalty None = pos 0

-- the penalty that holds at a place: its own, or else that of all places
abbrev pub penalty_of : Policy → Place → Option ℤ
penalty_of policy p = option_or p.penalty policy.penalty

-- the cost of each unit that is missing at a place
abbrev pub missing_cost : Policy → Place → ℤ
missing_cost policy p = unit_penalty (penalty_of policy p)

-- the cost of a plan: of its routes, of its places, and of what is missing
abbrev pub cost : Planner → Plan → ℤ
cost P x =
    plan_sum route_cost P.routes x.carries
    +ℤ (place_sum (λ v p. through_cost p.through (passes P x v p)) 1 P.places
    +ℤ place_sum (λ v p. missing_cost P.policy p *ℤ at_node x.missing v) 1 P.places)

-- ---- least plans

-- some place has a penalty of its own
abbrev pub has_penalties : List Place → Bool
has_penalties places = list_any (λ p. is_some p.penalty) places

-- a penalty is named, for all places or for some
abbrev pub names_penalty : Planner → Bool
names_penalty P = is_some P.policy.penalty || has_penalties P.places

-- as little as possible is to be missing, at whatever cost: demands may be missing, and no penalty
-- is named
abbrev pub misses_least : Planner → Bool
misses_least P = P.policy.short && not (names_penalty P)

-- x is no worse than y: if as little as possible is to be missing, then less is missing, or as
-- much, and x costs no more; otherwise x costs no more
abbrev pub IsNoWorse : Planner → Bool → Plan → Plan → Type 0
IsNoWorse P true x y =
    (total_missing P x <ℤ total_missing P y) ⊎ ((total_missing P x ≡ total_missing P y) × (cost P x ≤ℤ cost P y))
IsNoWorse P false x y = cost P x ≤ℤ cost P y

-- a plan that is no worse than any other
pub record IsLeastPlan (P : Planner) (x : Plan) : Type 0 where
  pub is_plan : IsPlan P x
  pub least : (other : Plan) → IsPlan P other → IsNoWorse P (misses_least P) x other
