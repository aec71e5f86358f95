-- Costs that are read exactly, or rounded down to multiples of a power of 2, and how far from the
-- least that may lead.
-- Source: own
use Rattle.std.specs.Prelude.{ℕ, ◌/◌, ◌-◌, ◌^◌, Bool, true, false, List, Option, option_map, ℤ, pos, negsuc, ◌+ℤ◌, ◌*ℤ◌, ◌≤ℤ◌}
use Rattle.mcf_matrix.specs.declared.shipment.Shipment.{Shipment}
use Rattle.mcf_matrix.specs.Costs.{Costs}
use Rattle.mcf_matrix.specs.Matchings.{IsMatching, matching_cost}
use Rattle.mcf_matrix.specs.Plans.{IsPlan, plan_cost}

-- the quotient by 2^k, rounded down
abbrev pub quotient_down : ℕ → ℤ → ℤ
quotient_down k (pos n) = pos (n / 2 ^ k)
quotient_down k (negsuc n) = negsuc (n / 2 ^ k)

-- the greatest multiple of 2^k that is at most a number
abbrev pub rounded_down : ℕ → ℤ → ℤ
rounded_down k z = quotient_down k z *ℤ pos (2 ^ k)

-- a cost, or the same rounded down to a multiple of 2^k
abbrev pub cost_read : ℕ → Bool → Option ℤ → Option ℤ
cost_read k false cost = cost
cost_read k true cost = option_map (rounded_down k) cost

-- the costs of a matrix, or the same rounded down to multiples of 2^k
abbrev pub costs_read : ℕ → Bool → Costs → Costs
costs_read k is_rounded m = record { rows = m.rows; columns = m.columns; cost = λ i j. cost_read k is_rounded (m.cost i j) }

-- what so many costs, or an amount of them, lose by that at most: a whole number loses 2^k - 1
abbrev pub most_lost : ℕ → Bool → ℤ → ℤ
most_lost k false amount = pos 0
most_lost k true amount = amount *ℤ pos (2 ^ k - 1)

-- no matching costs less by more than a gap
pub record IsNearlyLeastMatching (m : Costs) (x : List ℕ) (gap : ℤ) : Type 0 where
  pub matching : IsMatching m x
  pub near : (other : List ℕ) → IsMatching m other → matching_cost m x ≤ℤ (matching_cost m other +ℤ gap)

-- no plan costs less by more than a gap
pub record IsNearlyLeastPlan (m : Costs) (supplies demands : List ℤ) (plan : List Shipment) (gap : ℤ) : Type 0 where
  pub feasible : IsPlan m supplies demands plan
  pub near : (other : List Shipment) → IsPlan m supplies demands other → plan_cost m plan ≤ℤ (plan_cost m other +ℤ gap)
