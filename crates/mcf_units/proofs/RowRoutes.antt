-- The rows of routes and the table of their steps are the routes.
use Rattle.std.proofs.Common.{◌≡◌, ◌+◌, ◌-◌, List, [], ◌∷◌, ◌++◌, length, map, take, refl, arith, ◌∙◌, ap, sym, append_assoc, length-append}
use Rattle.std.proofs.Math.Seq.{drop-append_seam, take-append_seam}
use Rattle.std.proofs.lemmas.List.{length-map, length-take}
use Rattle.mcf_model.specs.declared.rows.RouteRow.{RouteRow}
use Rattle.mcf_model.specs.declared.rows.Step.{Step}
use Rattle.mcf_model.specs.Tables.{own_steps, route_of, route_with}
use Rattle.mcf_reading.specs.RouteRows.{Route}
use Rattle.mcf_units.specs.declared.scales.Scales.{Scales}
use Rattle.mcf_units.specs.Wholes.{earlier, earlier_count, route_in, row_in, rows_in, step_in, steps_in}

count : (s : Scales) (r : Route) → length (map (step_in s) (earlier r.steps)) ≡ earlier_count r
count s r =
    let taken = length-take (length r.steps - 1) r.steps in
    let mapped = length-map (earlier r.steps) (step_in s) in
    grind (arith, taken, mapped)

own : (s : Scales) (before after : List Step) (r : Route)
    → own_steps (before ++ (map (step_in s) (earlier r.steps) ++ after)) (row_in s (length before) r) ≡ map (step_in s) (earlier r.steps)
own s before after r =
    ap (take (earlier_count r)) (drop-append_seam before (map (step_in s) (earlier r.steps) ++ after))
    ∙ ap (λ n. take n (map (step_in s) (earlier r.steps) ++ after)) (sym (count s r))
    ∙ take-append_seam (map (step_in s) (earlier r.steps)) after

pub routes_of_rows : (s : Scales) (before : List Step) (routes : List Route)
    → map (route_of (before ++ steps_in s routes)) (rows_in s (length before) routes) ≡ map (route_in s) routes
routes_of_rows s before [] = refl
routes_of_rows s before (r ∷ routes) =
    let mine = map (step_in s) (earlier r.steps) in
    let later = routes_of_rows s (before ++ mine) routes in
    let where_they_begin : length (before ++ mine) ≡ length before + earlier_count r =
    length-append before mine ∙ ap (λ n. length before + n) (count s r) in
    let first : route_of (before ++ (mine ++ steps_in s routes)) (row_in s (length before) r) ≡ route_in s r =
    ap (route_with (row_in s (length before) r)) (own s before (steps_in s routes) r) in
    let others : map (route_of (before ++ (mine ++ steps_in s routes))) (rows_in s (length before + earlier_count r) routes) ≡ map (route_in s) routes =
    ap (λ (rows : List RouteRow). map (route_of (before ++ (mine ++ steps_in s routes))) rows) (ap (λ n. rows_in s n routes) (sym where_they_begin))
    ∙ ap (λ (steps : List Step). map (route_of steps) (rows_in s (length (before ++ mine)) routes)) (sym (append_assoc before mine (steps_in s routes)))
    ∙ later in
    ap (λ x. x ∷ map (route_of (before ++ (mine ++ steps_in s routes))) (rows_in s (length before + earlier_count r) routes)) first
    ∙ ap (λ xs. route_in s r ∷ xs) others
