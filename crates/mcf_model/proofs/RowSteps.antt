-- Steps of the loops over the routes of a model, as they are stored.
use Rattle.std.proofs.Common.{◌≡◌, ℕ, suc, ◌+◌, ◌<◌, List, ◌++◌, length, map, drop, get_or, ap, sym, ◌∙◌, subst, arith, add-one, drop-cons, append_assoc, ℤ, pos, ◌≤ℤ◌}
use Rattle.std.specs.List.{All}
use Rattle.std.proofs.lemmas.List.{get_or-map, length-map}
use Rattle.std.proofs.lemmas.List.Elements.{All-get_or}
use Rattle.mcf_flows.specs.declared.arc.Arc.{Arc}
use Rattle.mcf_instance.specs.declared.arrays.RawArc.{RawArc}
use Rattle.mcf_instance.specs.Arrays.{arc_of_numbers}
use Rattle.mcf_model.specs.declared.rows.RouteRow.{RouteRow}
use Rattle.mcf_model.specs.declared.rows.Step.{Step}
use Rattle.mcf_model.specs.Arcs.{arcs_of, back, back_length, there, way_length}
use Rattle.mcf_model.specs.Laws.{StepsTake}
use Rattle.mcf_model.specs.Model.{Route}
use Rattle.mcf_model.specs.Tables.{own_steps, route_of, route_with}
use Rattle.mcf_model.proofs.Reading.{arcs_left}

module _ (steps : List Step) (rows : List RouteRow) (i : ℕ) (d : RouteRow) (own : List Step) (inside : i < length rows)
    (are : own ≡ own_steps steps (get_or rows i d)) where
  abbrev routes : List Route
  routes = map (route_of steps) rows

  -- the route at a place
  abbrev route : Route
  route = route_with (get_or rows i d) own

  pub among : i < length routes
  among = omega (arith, inside, length-map rows (route_of steps))

  pub route_at : route ≡ get_or routes i route
  route_at = ap (route_with (get_or rows i d)) are ∙ sym (get_or-map (route_of steps) rows i d route inside)

  pub steps_take_at : All StepsTake routes → All (λ s. pos 0 ≤ℤ s.most) own
  steps_take_at h = subst StepsTake (sym route_at) (All-get_or StepsTake routes i route among h)

  pub arcs_more : (reach : ℤ) (old new : List RawArc) (whole : List Arc)
      → map arc_of_numbers new ≡ map arc_of_numbers old ++ (there reach route ++ back reach route)
      → map arc_of_numbers old ++ arcs_of reach (drop i routes) ≡ whole → map arc_of_numbers new ++ arcs_of reach (drop (i + 1) routes) ≡ whole
  arcs_more reach old new whole e before =
      let left = arcs_of reach (drop (i + 1) routes) in
      let next : arcs_of reach (drop i routes) ≡ there reach route ++ (back reach route ++ left) =
      rw add-one (ap (arcs_of reach) (drop-cons routes i route among)
      ∙ ap (λ r. there reach r ++ (back reach r ++ arcs_of reach (drop (suc i) routes))) (sym route_at)) in
      ap (λ xs. xs ++ left) e
      ∙ append_assoc (map arc_of_numbers old) (there reach route ++ back reach route) left
      ∙ ap (λ xs. map arc_of_numbers old ++ xs) (append_assoc (there reach route) (back reach route) left ∙ sym next)
      ∙ before

  -- how many arcs are left, from this route on
  pub arcs_left_at : length (arcs_of (pos 0) (drop i routes))
      ≡ way_length own + (back_length (get_or rows i d).both own + length (arcs_of (pos 0) (drop (i + 1) routes)))
  arcs_left_at =
      subst
      (λ r. length (arcs_of (pos 0) (drop i routes)) ≡ way_length r.steps + (back_length r.both r.steps + length (arcs_of (pos 0) (drop (i + 1) routes))))
      (sym route_at) (arcs_left routes i route among)
