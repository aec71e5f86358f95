-- How far from the least what is least for costs rounded down may be.
use Rattle.std.proofs.Common.{◌≡◌, ℕ, zero, suc, Bool, true, false, IsTrue, IfOk, Result, Ok, Err, List, get_or, min, nat_lt, unwrap_or, ap, sym, ◌∙◌, arith, ℤ, pos, ◌+ℤ◌, ◌≤ℤ◌}
use Rattle.std.proofs.Math.IntN.{◌*ℤ◌}
use Rattle.std.proofs.lemmas.Int.{ints}
use Rattle.mcf_flows.specs.Network.{when}
use Rattle.mcf_flows.proofs.IntLaws.{add-mul, mul-add, mul-mono_left, mul-one, mul-zero}
use Rattle.mcf_matrix.specs.declared.shipment.Shipment.{Shipment}
use Rattle.mcf_matrix.specs.Costs.{Costs}
use Rattle.mcf_matrix.specs.Matchings.{IsLeastMatching, IsMatching, matching_cost, pair_cost, pair_count}
use Rattle.mcf_matrix.specs.PlaceSums.{at_place, sum_below}
use Rattle.mcf_matrix.specs.Plans.{IsLeastPlan, IsPlan, IsShipment, plan_cost, plan_sum}
use Rattle.mcf_matrix.proofs.PlaceSums.{count_is_sum, sum_below-add, sum_below-le, sum_below-same}
use Rattle.mcf_matrix.proofs.PlanSums.{by_ends, plan_sum-add, plan_sum-le}
use Rattle.mcf_matrix_doubles.specs.Rounding.{IsNearlyLeastMatching, IsNearlyLeastPlan, cost_read, costs_read, most_lost}
use Rattle.mcf_matrix_doubles.proofs.Rounding.{allowed_same, lost_is, read_lost}

-- ---- sums

sum_below-times : (e : ℤ) (t : ℕ → ℤ) (n : ℕ) → sum_below (λ i. e *ℤ t i) n ≡ e *ℤ sum_below t n
sum_below-times e t zero = sym (mul-zero e)
sum_below-times e t (suc n) = ap (λ z. z +ℤ e *ℤ t n) (sum_below-times e t n) ∙ sym (mul-add e (sum_below t n) (t n))

times_when : (b : Bool) (e : ℤ) → e *ℤ when b (pos 1) ≡ when b e
times_when true e = mul-one e
times_when false e = mul-zero e

-- ---- matchings

pub matching_of_read : (k : ℕ) (r : Bool) (m : Costs) (x : List ℕ) → IsMatching (costs_read k r m) x → IsMatching m x
matching_of_read k r m x h = record {
  one_per_row = h.one_per_row;
  allowed = λ i j p. (allowed_same k r (m.cost i j)).0 (h.allowed i j p);
  distinct = h.distinct;
  full = h.full;
}

read_matching : (k : ℕ) (r : Bool) (m : Costs) (x : List ℕ) → IsMatching m x → IsMatching (costs_read k r m) x
read_matching k r m x h = record {
  one_per_row = h.one_per_row;
  allowed = λ i j p. (allowed_same k r (m.cost i j)).1 (h.allowed i j p);
  distinct = h.distinct;
  full = h.full;
}

when_le : (b : Bool) (y z : ℤ) → y ≤ℤ z → when b y ≤ℤ when b z
when_le true y z le = le
when_le false y z le = omega (arith, ints)

when_more : (b : Bool) (y z e : ℤ) → z ≤ℤ (y +ℤ e) → when b z ≤ℤ (when b y +ℤ when b e)
when_more true y z e le = le
when_more false y z e le = omega (arith, ints)

read_costs_less : (k : ℕ) (r : Bool) (m : Costs) (x : List ℕ) → matching_cost (costs_read k r m) x ≤ℤ matching_cost m x
read_costs_less k r m x =
    sum_below-le (pair_cost (costs_read k r m) x) (pair_cost m x) m.rows
    (λ i h. when_le (nat_lt (get_or x i 0) m.columns) _ _ (read_lost k r (m.cost i (get_or x i 0))).0)

costs_more : (k : ℕ) (r : Bool) (m : Costs) (x : List ℕ) → IsMatching m x
    → matching_cost m x ≤ℤ (matching_cost (costs_read k r m) x +ℤ most_lost k r (pos (min m.rows m.columns)))
costs_more k r m x h =
    let e = most_lost k r (pos 1) in
    let p = λ (i : ℕ). nat_lt (get_or x i 0) m.columns in
    let each =
    sum_below-le (pair_cost m x) (λ i. pair_cost (costs_read k r m) x i +ℤ when (p i) e) m.rows
    (λ i b. when_more (p i) _ _ e (read_lost k r (m.cost i (get_or x i 0))).1) in
    let apart = sum_below-add (pair_cost (costs_read k r m) x) (λ i. when (p i) e) m.rows in
    let times : sum_below (λ i. when (p i) e) m.rows ≡ sum_below (λ i. e *ℤ when (p i) (pos 1)) m.rows =
    sum_below-same _ _ m.rows (λ i b. sym (times_when (p i) e)) in
    let out = sum_below-times e (λ i. when (p i) (pos 1)) m.rows in
    let count : pos (pair_count m x) ≡ sum_below (λ i. when (p i) (pos 1)) m.rows =
    count_is_sum (λ j. nat_lt j m.columns) x ∙ ap (sum_below (λ i. when (p i) (pos 1))) h.one_per_row in
    let lost : sum_below (λ i. when (p i) e) m.rows ≡ most_lost k r (pos (min m.rows m.columns)) =
    times ∙ out ∙ ap (λ z. e *ℤ z) (sym count) ∙ lost_is k r (pos (pair_count m x)) ∙ ap (λ n. most_lost k r (pos n)) h.full in
    omega (arith, ints, each, apart, lost)

-- a matching that is least for the costs that are read
pub nearly_least : (k : ℕ) (r : Bool) (m : Costs) (x : List ℕ) → IsLeastMatching (costs_read k r m) x
    → IsNearlyLeastMatching m x (most_lost k r (pos (min m.rows m.columns)))
nearly_least k r m x h =
    let matching = matching_of_read k r m x h.matching in
    record {
      matching = matching;
      near = λ other o.
          let more = costs_more k r m x matching in
          let least = h.least other (read_matching k r m other o) in
          let less = read_costs_less k r m other in
          omega (arith, ints, more, least, less);
    }

-- ---- plans

pub plan_of_read : (k : ℕ) (r : Bool) (m : Costs) (supplies demands : List ℤ) (plan : List Shipment) → IsPlan (costs_read k r m) supplies demands plan
    → IsPlan m supplies demands plan
plan_of_read k r m supplies demands plan h = record {
  one_per_row = h.one_per_row;
  one_per_column = h.one_per_column;
  shipments = λ i d b.
      let s = h.shipments i d b in
      record { place = s.place; allowed = (allowed_same k r (m.cost (get_or plan i d).row (get_or plan i d).column)).0 s.allowed; amount = s.amount };
  meets_supplies = h.meets_supplies;
  meets_demands = h.meets_demands;
}

read_plan : (k : ℕ) (r : Bool) (m : Costs) (supplies demands : List ℤ) (plan : List Shipment) → IsPlan m supplies demands plan
    → IsPlan (costs_read k r m) supplies demands plan
read_plan k r m supplies demands plan h = record {
  one_per_row = h.one_per_row;
  one_per_column = h.one_per_column;
  shipments = λ i d b.
      let s = h.shipments i d b in
      record { place = s.place; allowed = (allowed_same k r (m.cost (get_or plan i d).row (get_or plan i d).column)).1 s.allowed; amount = s.amount };
  meets_supplies = h.meets_supplies;
  meets_demands = h.meets_demands;
}

read_plan_less : (k : ℕ) (r : Bool) (m : Costs) (plan : List Shipment) (supplies demands : List ℤ) → IsPlan m supplies demands plan
    → plan_cost (costs_read k r m) plan ≤ℤ plan_cost m plan
read_plan_less k r m plan supplies demands h =
    plan_sum-le (IsShipment m) _ _ (λ s p. mul-mono_left _ _ s.amount p.amount (read_lost k r (m.cost s.row s.column)).0) plan h.shipments

plan_more : (k : ℕ) (r : Bool) (m : Costs) (plan : List Shipment) (supplies demands : List ℤ) → IsPlan m supplies demands plan
    → plan_cost m plan ≤ℤ (plan_cost (costs_read k r m) plan +ℤ most_lost k r (sum_below (at_place supplies) m.rows))
plan_more k r m plan supplies demands h =
    let e = most_lost k r (pos 1) in
    let read = λ (s : Shipment). unwrap_or (cost_read k r (m.cost s.row s.column)) (pos 0) in
    let each : plan_cost m plan ≤ℤ plan_sum (λ s. read s *ℤ s.amount +ℤ e *ℤ s.amount) plan =
    plan_sum-le (IsShipment m) _ _
    (λ s p. omega (arith, ints, mul-mono_left _ _ s.amount p.amount (read_lost k r (m.cost s.row s.column)).1, add-mul (read s) e s.amount)) plan h.shipments in
    let apart = plan_sum-add (λ s. read s *ℤ s.amount) (λ s. e *ℤ s.amount) plan in
    let ends : plan_sum (λ s. e *ℤ s.amount) plan ≡ sum_below (λ i. e *ℤ at_place supplies i) m.rows =
    by_ends (λ s. s.row) (λ i. e) m.rows plan (λ j d b. (h.shipments j d b).place.0)
    ∙ sum_below-same _ _ m.rows (λ i b. ap (λ z. e *ℤ z) (h.meets_supplies i b)) in
    let lost = ends ∙ sum_below-times e (at_place supplies) m.rows ∙ lost_is k r (sum_below (at_place supplies) m.rows) in
    omega (arith, ints, each, apart, lost)

-- a plan that is least for the costs that are read
pub nearly_least_plan : (k : ℕ) (r : Bool) (m : Costs) (supplies demands : List ℤ) (plan : List Shipment) → IsLeastPlan (costs_read k r m) supplies demands plan
    → IsNearlyLeastPlan m supplies demands plan (most_lost k r (sum_below (at_place supplies) m.rows))
nearly_least_plan k r m supplies demands plan h =
    let feasible = plan_of_read k r m supplies demands plan h.feasible in
    record {
      feasible = feasible;
      near = λ other o.
          let more = plan_more k r m plan supplies demands feasible in
          let least = h.least other (read_plan k r m supplies demands other o) in
          let less = read_plan_less k r m other supplies demands o in
          omega (arith, ints, more, least, less);
    }

-- what a test shows, where it is made
pub if_ok : {E : Type 0} (made : Result Bool E) (P Q : Type 0) → (P → Q) → IfOk made (λ holds. IsTrue holds → P) → IfOk made (λ holds. IsTrue holds → Q)
if_ok (Ok holds) P Q f h = λ t. f (h t)
if_ok (Err e) P Q f h = tt
