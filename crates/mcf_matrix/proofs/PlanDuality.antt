-- A plan that prices show is least, and costs what the prices make of supplies and demands.
use Rattle.std.proofs.Common.{◌≡◌, Option, Some, None, IsSome, IfSome, List, unwrap_or, zero, suc, ap, sym, ◌∙◌, arith, ℤ, pos, negsuc, ◌+ℤ◌, ◌-ℤ◌, ◌≤ℤ◌, ◌<ℤ◌}
use Rattle.std.proofs.Math.IntN.{◌*ℤ◌}
use Rattle.std.proofs.lemmas.Int.{ints}
use Rattle.mcf_flows.proofs.IntLaws.{add-mul, mul-mono_left, mul-zero}
use Rattle.mcf_matrix.specs.declared.shipment.Shipment.{Shipment}
use Rattle.mcf_matrix.specs.Costs.{Costs}
use Rattle.mcf_matrix.specs.Laws.{ShownPlansAreLeast, ShownPlansCostThePrices}
use Rattle.mcf_matrix.specs.MatrixPrices.{AreFeasiblePrices}
use Rattle.mcf_matrix.specs.PlaceSums.{at_place, sum_below}
use Rattle.mcf_matrix.specs.Plans.{IsPlan, IsShipment, IsTightShipment, mass_total, plan_cost, plan_sum}
use Rattle.mcf_matrix.proofs.PlaceSums.{sum_below-same}
use Rattle.mcf_matrix.proofs.PlanSums.{by_ends, plan_sum-add, plan_sum-le, plan_sum-same}

-- the prices of the ends of each entry, times its amount, are what the prices make of supplies and
-- demands
pub priced_plan : (m : Costs) (supplies demands u v : List ℤ) (plan : List Shipment) → IsPlan m supplies demands plan
    → plan_sum (λ s. (at_place u s.row +ℤ at_place v s.column) *ℤ s.amount) plan ≡ mass_total m supplies demands u v
priced_plan m supplies demands u v plan h =
    plan_sum-same (IsShipment m) _ (λ s. at_place u s.row *ℤ s.amount +ℤ at_place v s.column *ℤ s.amount)
    (λ s p. add-mul (at_place u s.row) (at_place v s.column) s.amount) plan h.shipments
    ∙ plan_sum-add (λ s. at_place u s.row *ℤ s.amount) (λ s. at_place v s.column *ℤ s.amount) plan
    ∙ ap (λ z. z +ℤ plan_sum (λ s. at_place v s.column *ℤ s.amount) plan) rows
    ∙ ap (λ z. sum_below (λ i. at_place u i *ℤ at_place supplies i) m.rows +ℤ z) columns
  where
    rows : plan_sum (λ s. at_place u s.row *ℤ s.amount) plan ≡ sum_below (λ i. at_place u i *ℤ at_place supplies i) m.rows
    rows =
        by_ends (λ s. s.row) (at_place u) m.rows plan (λ k d b. (h.shipments k d b).place.0)
        ∙ sum_below-same _ _ m.rows (λ i b. ap (λ z. at_place u i *ℤ z) (h.meets_supplies i b))

    columns : plan_sum (λ s. at_place v s.column *ℤ s.amount) plan ≡ sum_below (λ j. at_place v j *ℤ at_place demands j) m.columns
    columns =
        by_ends (λ s. s.column) (at_place v) m.columns plan (λ k d b. (h.shipments k d b).place.1)
        ∙ sum_below-same _ _ m.columns (λ j b. ap (λ z. at_place v j *ℤ z) (h.meets_demands j b))

-- an entry costs at least the prices of its ends, and exactly these where it is tight
covers : (o : Option ℤ) (a b z : ℤ) → IsSome o → IfSome o (λ c. pos 0 ≤ℤ (c -ℤ a -ℤ b)) → pos 0 ≤ℤ z → ((a +ℤ b) *ℤ z) ≤ℤ (unwrap_or o (pos 0) *ℤ z)
covers None a b z some h k = absurd (cc)
covers (Some c) a b z some h k = mul-mono_left (a +ℤ b) c z k (omega (arith, ints, h))

meets : (o : Option ℤ) (a b z : ℤ) → IsSome o → pos 0 ≤ℤ z → (pos 0 <ℤ z → IfSome o (λ c. c -ℤ a -ℤ b ≡ pos 0)) → unwrap_or o (pos 0) *ℤ z ≡ (a +ℤ b) *ℤ z
meets None a b z some k h = absurd (cc)
meets (Some c) a b (pos zero) some k h = mul-zero c ∙ sym (mul-zero (a +ℤ b))
meets (Some c) a b (pos (suc n)) some k h =
    let e : c ≡ a +ℤ b = omega (arith, ints, h (omega (arith, ints))) in ap (λ y. y *ℤ pos (suc n)) e
meets (Some c) a b (negsuc n) some k h = absurd (omega (arith, ints))

pub prices_at_most_plan : (m : Costs) (supplies demands u v : List ℤ) (plan : List Shipment) → IsPlan m supplies demands plan → AreFeasiblePrices m u v
    → mass_total m supplies demands u v ≤ℤ plan_cost m plan
prices_at_most_plan m supplies demands u v plan h prices =
    let le = plan_sum-le (IsShipment m) (λ s. (at_place u s.row +ℤ at_place v s.column) *ℤ s.amount) (λ s. unwrap_or (m.cost s.row s.column) (pos 0) *ℤ s.amount)
    (λ s p. covers (m.cost s.row s.column) (at_place u s.row) (at_place v s.column) s.amount p.allowed (prices.none_below s.row s.column p.place) p.amount)
    plan h.shipments in
    omega (arith, ints, le, priced_plan m supplies demands u v plan h)

pub shown_plans_cost_the_prices_lem : ShownPlansCostThePrices
shown_plans_cost_the_prices_lem m supplies demands plan u v shown =
    plan_sum-same (λ s. IsShipment m s × IsTightShipment m u v s) _ (λ s. (at_place u s.row +ℤ at_place v s.column) *ℤ s.amount)
    (λ s p. meets (m.cost s.row s.column) (at_place u s.row) (at_place v s.column) s.amount p.0.allowed p.0.amount p.1) plan
    (λ k d b. (shown.feasible.shipments k d b, shown.tight k d b))
    ∙ priced_plan m supplies demands u v plan shown.feasible

pub shown_plans_are_least_lem : ShownPlansAreLeast
shown_plans_are_least_lem m supplies demands plan u v shown =
    record {
      feasible = shown.feasible;
      least = λ other o. omega (
        arith,
        ints,
        shown_plans_cost_the_prices_lem m supplies demands plan u v shown,
        prices_at_most_plan m supplies demands u v other o shown.prices,
      );
    }
