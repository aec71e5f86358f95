-- Least plans of models are least plans of planners' problems.
use Rattle.std.proofs.Common.{ℕ, suc, Bool, true, false, List, [], ◌∷◌, arith, ℤ, ◌≤ℤ◌, inl, inr}
use Rattle.std.proofs.lemmas.Int.{ints, by_lt_z}
use Rattle.mcf_flows.specs.Network.{at_node, when}
use Rattle.mcf_model.specs.Model.{IsLeastPlan as IsLeastModelPlan}
use Rattle.mcf_places.specs.declared.places.Place.{Place}
use Rattle.mcf_places.specs.Models.{model_of, plan_of, routes_of}
use Rattle.mcf_places.specs.Planners.{EachPlace, IsBalancedAt, IsLeastPlan, IsNoWorse, IsPlan, Plan, Planner, cost, misses_least, place_sum, total_missing, wanted}
use Rattle.mcf_places.specs.PlannerLaws.{AreSoundRoutes, LeastModelPlansAreLeast, LeavesEnough, PlansMissNoMore}
use Rattle.mcf_places.proofs.Exchange.{model_plan_is_plan, plans_are_model_plans_lem}

-- no plan misses more than all that is wanted, or than nothing
pub misses_no_more : PlansMissNoMore
misses_no_more P x h = go P.policy.short 1 P.places (each 1 P.places h.balanced)
  where
    each : (v : ℕ) (ps : List Place) → EachPlace (IsBalancedAt P x) v ps → EachPlace (λ j p. at_node x.missing j ≤ℤ when P.policy.short (wanted p)) v ps
    each v [] k = tt
    each v (p ∷ ps) k = ((k.0).misses_no_more, each (suc v) ps k.1)

    go : (b : Bool) (v : ℕ) (ps : List Place) → EachPlace (λ j p. at_node x.missing j ≤ℤ when b (wanted p)) v ps
        → place_sum (λ j p. at_node x.missing j) v ps ≤ℤ when b (place_sum (λ j p. wanted p) v ps)
    go true v [] k = omega (arith, ints)
    go false v [] k = omega (arith, ints)
    go true v (p ∷ ps) k = omega (arith, ints, k.0, go true (suc v) ps k.1)
    go false v (p ∷ ps) k = omega (arith, ints, k.0, go false (suc v) ps k.1)

module _ (most : ℤ) (P : Planner) (plan : List ℤ) (sound : AreSoundRoutes P) (h : IsLeastModelPlan (model_of most P) plan) where
  -- no plan that misses no more costs less
  cheapest : (other : Plan) → IsPlan P other → total_missing P other ≤ℤ most → cost P (plan_of P plan) ≤ℤ cost P other
  cheapest other is few =
      let mine = model_plan_is_plan most P plan sound h.is_plan in
      let its = plans_are_model_plans_lem most P other sound is few in
      omega (arith, ints, mine.same_cost, its.same_cost, h.least (routes_of P other) its.is_plan)

  pub least_plan : LeavesEnough most P (misses_least P) → IsLeastPlan P (plan_of P plan)
  least_plan enough =
      let mine = model_plan_is_plan most P plan sound h.is_plan in
      record { is_plan = mine.is_plan; least = λ other is. go (misses_least P) enough other is mine.misses_no_more }
    where
      go : (b : Bool) → LeavesEnough most P b → (other : Plan) → IsPlan P other → total_missing P (plan_of P plan) ≤ℤ most
          → IsNoWorse P b (plan_of P plan) other
      go true enough other is few =
          by_lt_z (total_missing P (plan_of P plan)) (total_missing P other) (λ less. inl less)
          (λ more. let low = enough other is in inr (omega (arith, ints, low, few, more), cheapest other is (omega (arith, ints, few, more))))
      go false enough other is few = cheapest other is (enough other is)

pub least_model_plans_are_least_lem : LeastModelPlansAreLeast
least_model_plans_are_least_lem most P plan sound enough h = least_plan most P plan sound.routes h enough
