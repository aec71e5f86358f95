-- From laws about plans of a model in which a route carries more to laws about plans of a problem.
use Rattle.std.proofs.Common.{◌≡◌, ℕ, ◌+◌, ◌-◌, true, List, [], ◌∷◌, ◌++◌, length, ap, sym, ◌∙◌, subst, arith, ℤ, pos, ◌+ℤ◌, ◌-ℤ◌, ◌<ℤ◌}
use Rattle.std.specs.Prelude.{Some}
use Rattle.std.proofs.Math.IntN.{◌*ℤ◌}
use Rattle.std.proofs.lemmas.Int.{ints}
use Rattle.std.proofs.lemmas.List.{get_or_append_left}
use Rattle.mcf_flows.proofs.AllZips.{length-AllZip}
use Rattle.mcf_flows.specs.Network.{IsNode, at_node}
use Rattle.mcf_model.specs.Model.{IsSound as IsSoundModel, MayCarry, Model, Route, charged}
use Rattle.mcf_model.specs.Tables.{IsRouteNumber, route_at}
use Rattle.mcf_figures.specs.FigureLaws.{CostsMore, DearerIsABound, HasWayAround, IsPriced, JoinedDearerIsReached}
use Rattle.mcf_figures.specs.Figures.{amount_at, dearer}
use Rattle.mcf_places.specs.Models.{amounts_by, from_exit, hub_of, missing_route, model_of, place_at, plain_route, plan_of, routes_of, stay_route, through_route}
use Rattle.mcf_places.specs.PlannerLaws.{IsSound, PlannersAreModels, SoundPlannersHaveSoundModels, has_bounds}
use Rattle.mcf_places.specs.Planners.{IsPlan, Plan, Planner, cost, passes, total_missing}
use Rattle.mcf_plan_figures.specs.Changes.{route_in}
use Rattle.mcf_plan_figures.specs.PlannerFigureLaws.{HasPlanWith, IsPlanWithin, JoinedRouteDearerIsReached, JoinedThroughDearerIsReached, RouteDearerIsABound, ThroughDearerIsABound, passing}
use Rattle.mcf_plan_figures.specs.PlannerFigures.{through_dearer, through_number}
use Rattle.mcf_plan_figures.proofs.ChangedModels.{read_cost}
use Rattle.mcf_plan_figures.proofs.RouteRooms.{is_number, route_is}
use Rattle.mcf_plan_figures.proofs.ThroughRooms.{bounds_of, through_is_number, through_route_is}
use Rattle.mcf_plan_figures.proofs.ToldLaws.{passes_at}

-- an amount of a plan that route k of the model carries, which is the route r
module _ (law : PlannersAreModels) (most : ℤ) (P : Planner) (prices carries : List ℤ) (sound : IsSound P) (made : IsSoundModel (model_of most P))
    (priced : IsPriced (model_of most P) prices carries) (k : ℕ) (hk : IsRouteNumber (model_of most P) k) (r : Route) (route : route_at (model_of most P) k ≡ r)
    (amount : Plan → ℤ) (at : (x : Plan) → IsPlan P x → amount_at (routes_of P x) k ≡ amount x) where
  abbrev m : Model
  m = model_of most P

  -- the amount of the plan that is read from a plan of the model
  read_amount : (plan : List ℤ) → IsPlan P (plan_of P plan) → routes_of P (plan_of P plan) ≡ plan → amount_at plan k ≡ amount (plan_of P plan)
  read_amount plan is back = sym (ap (λ c. amount_at c k) back) ∙ at (plan_of P plan) is

  mine : amount_at carries k ≡ amount (plan_of P carries)
  mine = let of = law.model_plans_are_plans most P carries sound priced.is_plan in read_amount carries of.is_plan of.back_again

  told : dearer prices (route_at m k) (amount_at carries k) ≡ dearer prices r (amount (plan_of P carries))
  told = ap (λ (q : Route). dearer prices q (amount_at carries k)) route ∙ ap (dearer prices r) mine

  pub more_costs : DearerIsABound → (x : Plan) → IsPlanWithin most P x → charged r.both (amount (plan_of P carries)) <ℤ charged r.both (amount x)
      → CostsMore (dearer prices r (amount (plan_of P carries))) (charged r.both (amount x) -ℤ charged r.both (amount (plan_of P carries))) (cost P (plan_of P carries)) (cost P x)
  more_costs bound x within above =
      let its = law.plans_are_model_plans most P x sound within.is_plan within.misses_no_more in
      let both = ap (λ (q : Route). q.both) route in
      let less = ap (charged (route_at m k).both) mine ∙ ap (λ b. charged b (amount (plan_of P carries))) both in
      let more = ap (charged (route_at m k).both) (at x within.is_plan) ∙ ap (λ b. charged b (amount x)) both in
      let found = bound m prices carries (routes_of P x) k made priced hk its.is_plan (omega (arith, ints, above, less, more)) in
      let units = ap (λ z. found.0 *ℤ z) (units_are less more) in
      (found.0, sym told ∙ found.1, omega (arith, ints, found.2, units, its.same_cost, read_cost law most P carries sound priced.is_plan))
    where
      units_are : {a b c d : ℤ} → a ≡ b → c ≡ d → c -ℤ a ≡ d -ℤ b
      units_are e f = omega (arith, ints, e, f)

  pub some_costs_that : JoinedDearerIsReached → (z : ℤ) → dearer prices r (amount (plan_of P carries)) ≡ Some z → HasWayAround prices m carries k
      → HasPlanWith most P (λ x. charged r.both (amount x)) (charged r.both (amount (plan_of P carries)) +ℤ pos 1) (cost P (plan_of P carries) +ℤ z)
  some_costs_that reached z is around =
      let found = reached m prices carries k z made priced hk (told ∙ is) around in
      let its = law.model_plans_are_plans most P found.other sound found.is_plan in
      let both = ap (λ (q : Route). q.both) route in
      let less = ap (charged (route_at m k).both) mine ∙ ap (λ b. charged b (amount (plan_of P carries))) both in
      let more = ap (charged (route_at m k).both) (read_amount found.other its.is_plan its.back_again) ∙ ap (λ b. charged b (amount (plan_of P found.other))) both in
      record {
        plan = plan_of P found.other;
        is_plan = record { is_plan = its.is_plan; misses_no_more = its.misses_no_more };
        amount_is = omega (arith, ints, found.one_more, less, more);
        cost_is = omega (arith, ints, its.same_cost, found.cost_is, read_cost law most P carries sound priced.is_plan);
      }

-- what a route of the problem carries
carried_at : (P : Planner) (k : ℕ) → IsNode (length P.routes) k → (x : Plan) → IsPlan P x → amount_at (routes_of P x) k ≡ amount_at x.carries k
carried_at P k hk x is =
    get_or_append_left x.carries
    (amounts_by (through_route P.places) (passes P x) 1 P.places
    ++ (amounts_by (stay_route P.policy.unused (hub_of P.places)) (λ v p. at_node x.stays v) 1 P.places
    ++ (amounts_by (missing_route P.policy P.places) (λ v p. at_node x.missing v) 1 P.places ++ total_missing P x ∷ [])))
    (pos 0) (k - 1) (omega (arith, hk.0, hk.1, length-AllZip MayCarry P.routes x.carries is.may_carry))

passes_in : (P : Planner) (v : ℕ) → IsNode (length P.places) v → has_bounds P.places v ≡ true → (x : Plan) → IsPlan P x
    → amount_at (routes_of P x) (through_number P v) ≡ passing P x v
passes_in P v hv has x is = passes_at P x v (length-AllZip MayCarry P.routes x.carries is.may_carry) hv has

module _ (law : PlannersAreModels) (models : SoundPlannersHaveSoundModels) where
  pub route_dearer_is_a_bound_lem : DearerIsABound → RouteDearerIsABound
  route_dearer_is_a_bound_lem bound most P prices carries k x sound priced hk within above =
      more_costs law most P prices carries sound (models.sound_model most P sound) priced k (is_number most P k hk) (from_exit P.places (route_in P k))
      (route_is most P k hk) (λ y. amount_at y.carries k) (carried_at P k hk) bound x within above

  pub joined_route_dearer_is_reached_lem : JoinedDearerIsReached → JoinedRouteDearerIsReached
  joined_route_dearer_is_reached_lem reached most P prices carries k z sound priced hk is around =
      some_costs_that law most P prices carries sound (models.sound_model most P sound) priced k (is_number most P k hk) (from_exit P.places (route_in P k))
      (route_is most P k hk) (λ y. amount_at y.carries k) (carried_at P k hk) reached z is around

  pub through_dearer_is_a_bound_lem : DearerIsABound → ThroughDearerIsABound
  through_dearer_is_a_bound_lem bound most P prices carries v x sound priced hv has within above =
      let found = bounds_of (place_at P.places v).through has in
      let b = found.0 in
      let costs = more_costs law most P prices carries sound (models.sound_model most P sound) priced (through_number P v) (through_is_number most P v hv b found.1)
      (plain_route v (length P.places + 2 + v) b.least b.most b.cost) (through_route_is most P v hv b found.1) (λ y. passing P y v) (passes_in P v hv has)
      bound x within above in
      subst (λ o. CostsMore (through_dearer prices (length P.places) v o (passing P (plan_of P carries) v)) (passing P x v -ℤ passing P (plan_of P carries) v)
      (cost P (plan_of P carries)) (cost P x)) (sym found.1) costs

  pub joined_through_dearer_is_reached_lem : JoinedDearerIsReached → JoinedThroughDearerIsReached
  joined_through_dearer_is_reached_lem reached most P prices carries v z sound priced hv has is around =
      let found = bounds_of (place_at P.places v).through has in
      let b = found.0 in
      some_costs_that law most P prices carries sound (models.sound_model most P sound) priced (through_number P v) (through_is_number most P v hv b found.1)
      (plain_route v (length P.places + 2 + v) b.least b.most b.cost) (through_route_is most P v hv b found.1) (λ y. passing P y v) (passes_in P v hv has)
      reached z (sym (ap (λ o. through_dearer prices (length P.places) v o (passing P (plan_of P carries) v)) found.1) ∙ is) around
