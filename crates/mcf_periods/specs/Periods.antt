-- Planners' problems over periods: what is sent arrives some periods later, and places keep stock
-- from a period to the next. No network is named here.
-- Source: own, after AMO 19.6
use Rattle.std.specs.Prelude.{◌≡◌, ℕ, suc, ◌+◌, ◌-◌, ◌*◌, ◌==◌, Bool, true, false, ◌&&◌, ◌||◌, List, [], ◌∷◌, length, ℤ, pos, ◌+ℤ◌, ◌-ℤ◌, ◌*ℤ◌, ◌≤ℤ◌, ◌<ℤ◌, ◌⊎◌, not}
use Rattle.std.specs.List.{AllZip}
use Rattle.std.specs.Option.{is_some}
use Rattle.mcf_flows.specs.Network.{IsNode, at_node, node_sum, when}
use Rattle.mcf_model.specs.Model.{MayCarry, Route, route_cost}
use Rattle.mcf_places.specs.declared.places.Place.{Place}
use Rattle.mcf_places.specs.declared.places.Policy.{Policy}
use Rattle.mcf_places.specs.Models.{place_at}
use Rattle.mcf_places.specs.Planners.{IsAtMost, KeepsBounds, given, has_penalties, missing_cost, through_cost, wanted}
use Rattle.mcf_periods.specs.declared.rows.Store.{Store}

-- ---- problems over periods

-- A route in a period of departure, used one way. Its ends are numbers of places. What it carries
-- arrives `lead` periods later.
pub record Departure : Type 0 where
  pub route : Route
  pub period : ℕ
  pub lead : ℕ

-- Places and periods, both counted from 1, and the last period. The places are listed with what
-- they give or want in the first period, then in the second, and so on. A store says that a place
-- may keep something from a period to the next.
pub record Periods : Type 0 where
  pub count : ℕ
  pub last : ℕ
  pub places : List Place
  pub stores : List Store
  pub departures : List Departure
  pub policy : Policy

-- where place v stands in the list for period t
abbrev pub number : ℕ → ℕ → ℕ → ℕ
number count v t = v + count * (t - 1)

-- place v in period t
abbrev pub place_in : Periods → ℕ → ℕ → Place
place_in P v t = place_at P.places (number P.count v t)

-- the route of a departure, used one way
abbrev pub way : Departure → Route
way d = record {
  tail = d.route.tail;
  head = d.route.head;
  least = d.route.least;
  steps = d.route.steps;
  last_most = d.route.last_most;
  last_cost = d.route.last_cost;
  both = false;
}

-- ---- plans

-- what each departure carries, what each store keeps, and what stays and what is missing at each
-- place in each period, in the order of the places
pub record PeriodPlan : Type 0 where
  pub carries : List ℤ
  pub kept : List ℤ
  pub stays : List ℤ
  pub missing : List ℤ

-- a sum over things and their amounts
abbrev pub amount_sum : {X : Type 0} → (X → ℤ → ℤ) → List X → List ℤ → ℤ
amount_sum term [] amounts = pos 0
amount_sum term (x ∷ xs) [] = pos 0
amount_sum term (x ∷ xs) (z ∷ amounts) = term x z +ℤ amount_sum term xs amounts

-- what leaves place v in period t
abbrev pub sent : Periods → PeriodPlan → ℕ → ℕ → ℤ
sent P x v t = amount_sum (λ d z. when (d.route.tail == v && d.period == t) z) P.departures x.carries

-- what arrives at place v in period t: it was sent `lead` periods before
abbrev pub arrived : Periods → PeriodPlan → ℕ → ℕ → ℤ
arrived P x v t = amount_sum (λ d z. when (d.route.head == v && (d.period + d.lead) == t) z) P.departures x.carries

-- what place v keeps after period t
abbrev pub kept_after : Periods → PeriodPlan → ℕ → ℕ → ℤ
kept_after P x v t = amount_sum (λ s z. when (s.place == v && s.period == t) z) P.stores x.kept

-- what place v has kept until period t: after the period before
abbrev pub kept_until : Periods → PeriodPlan → ℕ → ℕ → ℤ
kept_until P x v t = amount_sum (λ s z. when (s.place == v && suc s.period == t) z) P.stores x.kept

-- what stays of the supply of place v in period t
abbrev pub stays_in : Periods → PeriodPlan → ℕ → ℕ → ℤ
stays_in P x v t = at_node x.stays (number P.count v t)

-- what is missing at place v in period t
abbrev pub missing_in : Periods → PeriodPlan → ℕ → ℕ → ℤ
missing_in P x v t = at_node x.missing (number P.count v t)

-- what passes through place v in period t: what it has kept, what arrives, and what of its supply
-- doesn't stay
abbrev pub passes_in : Periods → PeriodPlan → ℕ → ℕ → ℤ
passes_in P x v t = kept_until P x v t +ℤ arrived P x v t +ℤ (given (place_in P v t) -ℤ stays_in P x v t)

-- a store keeps an amount from 0 to its most, if it has one
pub record MayKeep (s : Store) (z : ℤ) : Type 0 where
  pub some : pos 0 ≤ℤ z
  pub no_more : IsAtMost s.most z

-- What a plan keeps at place v in period t: what passes through is sent, or is what the place wants
-- and isn't missing, or is kept until the next period.
pub record IsBalancedIn (P : Periods) (x : PeriodPlan) (v t : ℕ) : Type 0 where
  pub stays_some : pos 0 ≤ℤ stays_in P x v t
  pub stays_no_more : stays_in P x v t ≤ℤ when P.policy.unused (given (place_in P v t))
  pub misses_some : pos 0 ≤ℤ missing_in P x v t
  pub misses_no_more : missing_in P x v t ≤ℤ when P.policy.short (wanted (place_in P v t))
  pub balances : passes_in P x v t ≡ sent P x v t +ℤ (wanted (place_in P v t) -ℤ missing_in P x v t) +ℤ kept_after P x v t
  pub keeps_bounds : KeepsBounds (place_in P v t).through (passes_in P x v t)

-- each departure carries what its route may carry, each store keeps what it may keep, and each
-- place is balanced in each period
pub record IsPeriodPlan (P : Periods) (x : PeriodPlan) : Type 0 where
  pub may_carry : AllZip (λ d z. MayCarry (way d) z) P.departures x.carries
  pub may_keep : AllZip MayKeep P.stores x.kept
  pub stays_by_place : length x.stays ≡ length P.places
  pub missing_by_place : length x.missing ≡ length P.places
  pub balanced : (t : ℕ) → IsNode P.last t → (v : ℕ) → IsNode P.count v → IsBalancedIn P x v t

-- ---- costs

-- a sum over all places in all periods
abbrev pub period_sum : Periods → (ℕ → ℕ → ℤ) → ℤ
period_sum P term = node_sum (λ t. node_sum (λ v. term v t) P.count) P.last

-- what is missing in all periods together
abbrev pub all_missing : Periods → PeriodPlan → ℤ
all_missing P x = period_sum P (missing_in P x)

-- the cost of a plan: of its routes, of what is kept, of what passes through places, and of what is
-- missing
abbrev pub period_cost : Periods → PeriodPlan → ℤ
period_cost P x =
    amount_sum (λ d z. route_cost (way d) z) P.departures x.carries
    +ℤ (amount_sum (λ s z. s.cost *ℤ z) P.stores x.kept
    +ℤ (period_sum P (λ v t. through_cost (place_in P v t).through (passes_in P x v t))
    +ℤ period_sum P (λ v t. missing_cost P.policy (place_in P v t) *ℤ missing_in P x v t)))

-- ---- least plans

-- as little as possible is to be missing, at whatever cost: demands may be missing, and no penalty
-- is named
abbrev pub misses_least_in : Periods → Bool
misses_least_in P = P.policy.short && not (is_some P.policy.penalty || has_penalties P.places)

-- x is no worse than y: if as little as possible is to be missing, then less is missing, or as
-- much, and x costs no more; otherwise x costs no more
abbrev pub IsNoWorseIn : Periods → Bool → PeriodPlan → PeriodPlan → Type 0
IsNoWorseIn P true x y =
    (all_missing P x <ℤ all_missing P y) ⊎ ((all_missing P x ≡ all_missing P y) × (period_cost P x ≤ℤ period_cost P y))
IsNoWorseIn P false x y = period_cost P x ≤ℤ period_cost P y

-- a plan that is no worse than any other
pub record IsLeastPeriodPlan (P : Periods) (x : PeriodPlan) : Type 0 where
  pub is_plan : IsPeriodPlan P x
  pub least : (other : PeriodPlan) → IsPeriodPlan P other → IsNoWorseIn P (misses_least_in P) x other
