-- One unit more room on a route of a problem is one unit more room on a route of its model.
use Rattle.std.proofs.Common.{◌≡◌, ℕ, ◌-◌, ◌<◌, List, ◌++◌, ◌∷◌, [], length, map, set, ap, sym, ◌∙◌, arith, ℤ, length-append}
use Rattle.std.proofs.lemmas.List.{get_or-map, get_or_append_left, length-map, map-set, set-append_left}
use Rattle.std.proofs.lemmas.List.Elements.{All-set}
use Rattle.mcf_flows.specs.Network.{IsNode}
use Rattle.mcf_model.specs.Model.{IsSoundRoute, Route}
use Rattle.mcf_model.specs.Tables.{IsRouteNumber, no_route, route_at}
use Rattle.mcf_figures.specs.Changes.{widened, with_more_room}
use Rattle.mcf_figures.specs.FigureLaws.{ExactSavingsAreReached, SavingsAreBounds}
use Rattle.mcf_figures.specs.Figures.{saving}
use Rattle.mcf_places.specs.Models.{from_exit, gate_route, missings, model_of, stayings, supplies_of, throughs}
use Rattle.mcf_places.specs.PlannerLaws.{IsSound, PlannersAreModels, ReturnsFreely, SoundPlannersHaveSoundModels}
use Rattle.mcf_places.specs.Planners.{Planner}
use Rattle.mcf_plan_figures.specs.Changes.{route_in, with_route_room}
use Rattle.mcf_plan_figures.specs.PlannerFigureLaws.{ExactRouteSavingsAreReached, RouteSavingsAreBounds}
use Rattle.mcf_plan_figures.proofs.ChangedModels.{room_bound, room_reached, sound_widened}

module _ (most : ℤ) (P : Planner) (k : ℕ) (hk : IsNode (length P.routes) k) where
  abbrev i : ℕ
  i = k - 1

  inside : k - 1 < length P.routes
  inside = omega (arith, hk.0, hk.1)

  abbrev own : List Route
  own = map (from_exit P.places) P.routes

  abbrev others : List Route
  others = throughs P ++ (stayings P ++ (missings P ++ gate_route most P ∷ []))

  within : k - 1 < length own
  within = omega (arith, inside, length-map P.routes (from_exit P.places))

  -- the route of the model
  pub route_is : route_at (model_of most P) k ≡ from_exit P.places (route_in P k)
  route_is = get_or_append_left own others no_route (k - 1) within ∙ get_or-map (from_exit P.places) P.routes (k - 1) no_route no_route inside

  pub is_number : IsRouteNumber (model_of most P) k
  is_number = (hk.0, omega (arith, hk.1, length-append own others, length-map P.routes (from_exit P.places)))

  pub model_wider : model_of most (with_route_room P k) ≡ with_more_room (model_of most P) k
  model_wider = ap (λ (rs : List Route). record { supplies = supplies_of P.places; routes = rs }) (
      ap (λ rs. rs ++ others) (map-set (from_exit P.places) P.routes (k - 1) (widened (route_in P k)))
      ∙ sym (set-append_left own others (k - 1) (widened (from_exit P.places (route_in P k))) within)
      ∙ ap (λ r. set (own ++ others) (k - 1) (widened r)) (sym route_is)
      )

  pub sound_wider : IsSound P → IsSound (with_route_room P k)
  sound_wider s =
      record {
        routes = All-set (IsSoundRoute (length P.places)) P.routes (k - 1) (widened (route_in P k))
            (sound_widened (length P.places) (route_in P k) (s.routes (k - 1) no_route inside)) s.routes;
        return_freely = All-set (ReturnsFreely P.places) P.routes (k - 1) (widened (route_in P k)) (s.return_freely (k - 1) no_route inside) s.return_freely;
      }

pub route_savings_are_bounds_lem : PlannersAreModels → SoundPlannersHaveSoundModels → SavingsAreBounds → RouteSavingsAreBounds
route_savings_are_bounds_lem law models savings most P prices carries k sound priced hk =
    room_bound law most P (with_route_room P k) prices carries k sound (models.sound_model most P sound) (sound_wider most P k hk sound) (model_wider most P k hk) priced
    (is_number most P k hk) savings (saving prices (from_exit P.places (route_in P k))) (ap (saving prices) (route_is most P k hk))

pub exact_route_savings_are_reached_lem : PlannersAreModels → SoundPlannersHaveSoundModels → ExactSavingsAreReached → ExactRouteSavingsAreReached
exact_route_savings_are_reached_lem law models savings most P prices carries k sound priced hk exact =
    room_reached law most P (with_route_room P k) prices carries k sound (models.sound_model most P sound) (sound_wider most P k hk sound) (model_wider most P k hk) priced
    (is_number most P k hk) savings (saving prices (from_exit P.places (route_in P k))) (ap (saving prices) (route_is most P k hk)) exact
