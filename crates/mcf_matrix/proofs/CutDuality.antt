-- Where a set cuts, there is no transport plan.
use Rattle.std.proofs.Common.{◌≡◌, ℕ, ◌<◌, eqb, Bool, true, false, IsTrue, List, length, get_or, refl, ap, sym, ◌∙◌, arith, ℤ, pos, ◌≤ℤ◌}
use Rattle.std.proofs.Math.IntN.{◌*ℤ◌}
use Rattle.std.proofs.lemmas.Int.{ints}
use Rattle.mcf_flows.specs.declared.problem.Side.TheVariants.{Send, Take}
use Rattle.mcf_flows.specs.Network.{when}
use Rattle.mcf_flows.proofs.IntLaws.{zero-mul, one-mul}
use Rattle.mcf_matrix.specs.declared.shipment.Shipment.{Shipment}
use Rattle.mcf_matrix.specs.Costs.{Costs}
use Rattle.mcf_matrix.specs.Cuts.{mass_in}
use Rattle.mcf_matrix.specs.Laws.{CutHasNoPlan}
use Rattle.mcf_matrix.specs.PlaceSums.{at_place, is_marked}
use Rattle.mcf_matrix.specs.Plans.{IsPlan, IsShipment, plan_sum}
use Rattle.mcf_matrix.proofs.PlaceSums.{sum_below-same}
use Rattle.mcf_matrix.proofs.PlanSums.{by_ends, plan_sum-le, plan_sum-same}

weighed : (b : Bool) (z : ℤ) → when b (pos 1) *ℤ z ≡ when b z
weighed true z = one-mul z
weighed false z = zero-mul z

-- what the entries bring to marked ends is the mass of these
marked_amounts : (end : Shipment → ℕ) (marks : List Bool) (masses : List ℤ) (n : ℕ) (plan : List Shipment) → ((k : ℕ) → k < n
    → plan_sum (λ s. when (eqb (end s) k) s.amount) plan ≡ at_place masses k) → ((k : ℕ) (d : Shipment) → k < length plan → end (get_or plan k d) < n)
    → plan_sum (λ s. when (is_marked marks (end s)) s.amount) plan ≡ mass_in masses marks n
marked_amounts end marks masses n plan met inside =
    plan_sum-same (λ s. end s < n) (λ s. when (is_marked marks (end s)) s.amount) (λ s. when (is_marked marks (end s)) (pos 1) *ℤ s.amount)
    (λ s h. sym (weighed (is_marked marks (end s)) s.amount)) plan inside
    ∙ by_ends end (λ i. when (is_marked marks i) (pos 1)) n plan inside
    ∙ sum_below-same _ (λ i. when (is_marked marks i) (at_place masses i)) n
    (λ i h. ap (λ z. when (is_marked marks i) (pos 1) *ℤ z) (met i h) ∙ weighed (is_marked marks i) (at_place masses i))

carried : (s t : Bool) (z : ℤ) → pos 0 ≤ℤ z → (IsTrue s → IsTrue t) → when s z ≤ℤ when t z
carried true true z h k = omega (arith, ints)
carried true false z h k = absurd (let e = k refl in (cc))
carried false true z h k = h
carried false false z h k = omega (arith, ints)

supply_marked : (m : Costs) (supplies demands : List ℤ) (rows : List Bool) (plan : List Shipment) → IsPlan m supplies demands plan
    → plan_sum (λ s. when (is_marked rows s.row) s.amount) plan ≡ mass_in supplies rows m.rows
supply_marked m supplies demands rows plan h =
    marked_amounts (λ s. s.row) rows supplies m.rows plan h.meets_supplies (λ k d b. (h.shipments k d b).place.0)

demand_marked : (m : Costs) (supplies demands : List ℤ) (columns : List Bool) (plan : List Shipment) → IsPlan m supplies demands plan
    → plan_sum (λ s. when (is_marked columns s.column) s.amount) plan ≡ mass_in demands columns m.columns
demand_marked m supplies demands columns plan h =
    marked_amounts (λ s. s.column) columns demands m.columns plan h.meets_demands (λ k d b. (h.shipments k d b).place.1)

pub cut_has_no_plan_lem : CutHasNoPlan
cut_has_no_plan_lem m supplies demands rows columns Send plan cut h =
    let le = plan_sum-le (IsShipment m) (λ s. when (is_marked rows s.row) s.amount) (λ s. when (is_marked columns s.column) s.amount)
    (λ s p. carried (is_marked rows s.row) (is_marked columns s.column) s.amount p.amount (cut.closed s.row s.column p.place p.allowed)) plan h.shipments in
    let uneven = cut.uneven in
    omega (arith, ints, le, uneven, supply_marked m supplies demands rows plan h, demand_marked m supplies demands columns plan h)
cut_has_no_plan_lem m supplies demands rows columns Take plan cut h =
    let le = plan_sum-le (IsShipment m) (λ s. when (is_marked columns s.column) s.amount) (λ s. when (is_marked rows s.row) s.amount)
    (λ s p. carried (is_marked columns s.column) (is_marked rows s.row) s.amount p.amount (cut.closed s.row s.column p.place p.allowed)) plan h.shipments in
    let uneven = cut.uneven in
    omega (arith, ints, le, uneven, supply_marked m supplies demands rows plan h, demand_marked m supplies demands columns plan h)
