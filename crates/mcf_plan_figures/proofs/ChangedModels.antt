-- From laws about models with one unit more to laws about problems with one unit more.
use Rattle.std.proofs.Common.{◌≡◌, ℕ, Bool, true, false, List, [], ◌∷◌, ap, sym, ◌∙◌, subst, arith, ℤ, pos, ◌+ℤ◌, ◌-ℤ◌, ◌≤ℤ◌}
use Rattle.std.specs.Prelude.{Option, Some, None, option_map}
use Rattle.std.proofs.lemmas.Int.{ints}
use Rattle.mcf_model.specs.declared.rows.Step.{Step}
use Rattle.mcf_model.specs.Model.{Adds, AreRooms, IsPlan as IsModelPlan, IsSound as IsSoundModel, IsSoundRoute, MayBeBoth, Model, Route, plan_cost}
use Rattle.mcf_model.specs.Tables.{IsRouteNumber, route_at}
use Rattle.mcf_figures.specs.Changes.{widened, with_more_room}
use Rattle.mcf_figures.specs.FigureLaws.{ExactSavingsAreReached, HasPlanAt as HasModelPlanAt, IsPriced, SavingsAreBounds}
use Rattle.mcf_figures.specs.Figures.{IsExact, saving}
use Rattle.mcf_places.specs.Models.{model_of, plan_of, routes_of}
use Rattle.mcf_places.specs.PlannerLaws.{IsSound, PlannersAreModels}
use Rattle.mcf_places.specs.Planners.{Planner, cost}
use Rattle.mcf_plan_figures.specs.PlannerFigureLaws.{HasPlanAt, NoneCostsLess}

-- ---- a route with more room is sound

rooms_more : (steps : List Step) (o : Option ℤ) → AreRooms steps o → AreRooms steps (option_map (λ m. m +ℤ pos 1) o)
rooms_more [] None h = tt
rooms_more [] (Some m) h = omega (arith, ints, h)
rooms_more (s ∷ steps) o h = (h.0, rooms_more steps o h.1)

adds_more : (steps : List Step) (o : Option ℤ) → Adds steps o → Adds steps (option_map (λ m. m +ℤ pos 1) o)
adds_more [] o h = tt
adds_more (s ∷ steps) o h = rooms_more steps o h

both_more : (both : Bool) (least : ℤ) (steps : List Step) (o : Option ℤ) (c : ℤ) → MayBeBoth both least steps o c → MayBeBoth both least steps (option_map (λ m. m +ℤ pos 1) o) c
both_more true least steps o c h = (h.0, h.1, rooms_more steps o h.2)
both_more false least steps o c h = tt

pub sound_widened : (places : ℕ) (r : Route) → IsSoundRoute places r → IsSoundRoute places (widened r)
sound_widened places r s =
    record {
      tail_is_place = s.tail_is_place;
      head_is_place = s.head_is_place;
      rises = s.rises;
      adds = adds_more r.steps r.last_most s.adds;
      may_be_both = both_more r.both r.least r.steps r.last_most r.last_cost s.may_be_both;
    }

-- ---- laws carried over

module _ (law : PlannersAreModels) (most : ℤ) where
  -- the plan that is read from a plan of the model costs as much
  pub read_cost : (P : Planner) (carries : List ℤ) → IsSound P → IsModelPlan (model_of most P) carries → cost P (plan_of P carries) ≡ plan_cost (model_of most P) carries
  read_cost P carries sound h = (law.model_plans_are_plans most P carries sound h).same_cost

  -- what no plan of the model undercuts, no plan of the problem does
  pub bound_of : (P : Planner) (m : Model) (total : ℤ) → IsSound P → model_of most P ≡ m
      → ((other : List ℤ) → IsModelPlan m other → total ≤ℤ plan_cost m other) → NoneCostsLess most P total
  bound_of P m total sound e low x within =
      let its = law.plans_are_model_plans most P x sound within.is_plan within.misses_no_more in
      let bound = low (routes_of P x) (subst (λ k. IsModelPlan k (routes_of P x)) e its.is_plan) in
      let same : plan_cost m (routes_of P x) ≡ cost P x = ap (λ k. plan_cost k (routes_of P x)) (sym e) ∙ its.same_cost in
      omega (arith, ints, bound, same)

  -- what some plan of the model costs, some plan of the problem does
  pub reached_of : (P : Planner) (m : Model) (total : ℤ) → IsSound P → model_of most P ≡ m → HasModelPlanAt m total → HasPlanAt most P total
  reached_of P m total sound e h =
      let its = law.model_plans_are_plans most P h.plan sound (subst (λ k. IsModelPlan k h.plan) (sym e) h.is_plan) in
      record {
        plan = plan_of P h.plan;
        is_plan = record { is_plan = its.is_plan; misses_no_more = its.misses_no_more };
        cost_is = its.same_cost ∙ ap (λ k. plan_cost k h.plan) e ∙ h.cost_is;
      }

  -- one unit more room on a route of the model, of which the changed problem has the model
  module _ (P Q : Planner) (prices carries : List ℤ) (k : ℕ) (sound : IsSound P) (made : IsSoundModel (model_of most P)) (sound' : IsSound Q)
      (e : model_of most Q ≡ with_more_room (model_of most P) k) (priced : IsPriced (model_of most P) prices carries) (hk : IsRouteNumber (model_of most P) k) where
    pub room_bound : SavingsAreBounds → (saves : ℤ) → saving prices (route_at (model_of most P) k) ≡ saves
        → NoneCostsLess most Q (cost P (plan_of P carries) -ℤ saves)
    room_bound savings saves is =
        bound_of Q (with_more_room (model_of most P) k) (cost P (plan_of P carries) -ℤ saves) sound' e
        (λ other h. omega (arith, ints, savings (model_of most P) prices carries other k made priced hk h, read_cost P carries sound priced.is_plan, is))

    pub room_reached : ExactSavingsAreReached → (saves : ℤ) → saving prices (route_at (model_of most P) k) ≡ saves → IsExact prices (model_of most P) carries k
        → HasPlanAt most Q (cost P (plan_of P carries) -ℤ saves)
    room_reached savings saves is exact =
        let total : plan_cost (model_of most P) carries -ℤ saving prices (route_at (model_of most P) k) ≡ cost P (plan_of P carries) -ℤ saves =
        omega (arith, ints, read_cost P carries sound priced.is_plan, is) in
        reached_of Q (with_more_room (model_of most P) k) (cost P (plan_of P carries) -ℤ saves) sound' e
        (subst (HasModelPlanAt (with_more_room (model_of most P) k)) total (savings (model_of most P) prices carries k made priced hk exact))
