-- What is made of the rows of a problem over periods stands for it.
use Rattle.std.proofs.Common.{◌≡◌, ℕ, List, [], ◌∷◌, ◌++◌, map, take, drop, refl, ap, sym, ◌∙◌, subst, Ok, Err}
use Rattle.std.specs.Prelude.{IfOk, Result}
use Rattle.std.specs.Global.{Vec}
use Rattle.mcf_model.specs.declared.rows.RouteRow.{RouteRow}
use Rattle.mcf_model.specs.declared.rows.Step.{Step}
use Rattle.mcf_model.specs.Model.{Route}
use Rattle.mcf_model.specs.Tables.{route_of, route_with}
use Rattle.mcf_places.specs.declared.faults.PlannerFault.{PlannerFault}
use Rattle.mcf_places.specs.declared.places.Policy.{Policy}
use Rattle.mcf_places.specs.PlannerFaults.{IsMade, planner_faults, planner_of}
use Rattle.mcf_places.specs.Planners.{Planner}
use Rattle.mcf_places.specs.Ways.{problem_of}
use Rattle.mcf_periods.specs.declared.rows.DepartureRow.{DepartureRow}
use Rattle.mcf_periods.specs.declared.rows.PeriodRows.{PeriodRows}
use Rattle.mcf_periods.specs.declared.rows.Store.{Store}
use Rattle.mcf_periods.specs.Flat.{IsFlat, departure_of, flat, flat_route, flat_row, flat_rows, periods_of, stock_route, stock_row}

no_steps : (steps : List Step) → take 0 steps ≡ []
no_steps [] = refl
no_steps (s ∷ steps) = refl

routes_same : (steps : List Step) (n : ℕ) (ss : List Store) (ds : List DepartureRow)
    → map (route_of steps) (map (stock_row n) ss ++ map (flat_row n) ds) ≡ map (stock_route n) ss ++ map (flat_route n) (map (departure_of steps) ds)
routes_same steps n [] [] = refl
routes_same steps n [] (d ∷ ds) = ap (λ (rs : List Route). flat_route n (departure_of steps d) ∷ rs) (routes_same steps n [] ds)
routes_same steps n (s ∷ ss) ds =
    let rest = map (route_of steps) (map (stock_row n) ss ++ map (flat_row n) ds) in
    ap (λ (own : List Step). route_with (stock_row n s) own ∷ rest) (no_steps (drop 0 steps))
    ∙ ap (λ (rs : List Route). stock_route n s ∷ rs) (routes_same steps n ss ds)

pub made_flat : (rows : PeriodRows) (policy : Policy) (routes : List RouteRow) (made : Result Planner (Vec PlannerFault)) → routes ≡ flat_rows rows
    → IsMade rows.places.items rows.steps.items routes policy made → IsFlat rows policy made
made_flat rows policy routes (Ok P) e h = (
  h.0 ∙ ap (λ rs. planner_of rows.places.items rows.steps.items rs policy) e
      ∙ ap (λ rs. problem_of rows.places.items rs policy) (routes_same rows.steps.items rows.count rows.stores.items rows.departures.items),
  sym (ap (λ rs. planner_faults rows.places.items rows.steps.items rs policy) e) ∙ h.1,
)
made_flat rows policy routes (Err found) e h =
    (h.0 ∙ ap (λ rs. planner_faults rows.places.items rows.steps.items rs policy) e, h.1)

pub all_made_flat : {E : Type 0} (rows : PeriodRows) (policy : Policy) (routes : List RouteRow) (r : Result (Result Planner (Vec PlannerFault)) E) → routes ≡ flat_rows rows
    → IfOk r (IsMade rows.places.items rows.steps.items routes policy) → IfOk r (IsFlat rows policy)
all_made_flat rows policy routes (Ok made) e h = made_flat rows policy routes made e h
all_made_flat rows policy routes (Err fault) e h = tt
