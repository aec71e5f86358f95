use Rattle.std.proofs.Common.{◌≡◌, ◌+◌, ◌++◌, List, [], drop, map, arith, ap, subst, sym, ◌∙◌}
use Rattle.std.specs.Prelude.{option_map, pos, None}
use Rattle.std.specs.Option.{IfSome}
use Rattle.mcf_model.specs.declared.rows.RouteRow.{RouteRow}
use Rattle.mcf_model.specs.Faults.{AreListed}
use Rattle.mcf_model.specs.Tables.{route_of, route_with}
use Rattle.mcf_places.specs.declared.places.Place.{Place}
use Rattle.mcf_places.specs.Kinds.{kind_route}
use Rattle.mcf_places.specs.Models.{routes_by}
use Rattle.mcf_places.proofs.Listed.{listed_push, none_step, some_step}
use Rattle.mcf_places.proofs.rows.push_kind.Goals as goal
use Rattle.mcf_places.proofs.rows.push_kind.Goals.{in-Some+in_ok-push-in-Some, in-None}

pub loop-place-preserved : goal.loop-place-preserved
loop-place-preserved c =
    let d : Place = record { supply = pos 0; through = None; penalty = None } in
    let make = kind_route c.args.kind c.args.places.now c.args.policy in
    elim c.match-kind_row.branch [
      | in-Some+in_ok-push-in-Some w ↦ let items = ap (λ r. r.items) w.rows-is ∙ w.in_ok-push-in-Some.ensures.items in
          let plain = subst (λ o. IfSome o (λ row. (row.first_step + row.step_count) ≡ 0)) w.in-Some.is c.kind_row.ensures.plain in
          record {
            routes = λ steps. some_step make c.args.places.now c.loop-place.place d c.loop-place-test.true steps (c.loop-place.place + 1) (c.loop-place.place + 1 + 1)
                (c.loop-place.place + 1) (omega arith) (omega arith) w.in-Some.row c.loop-place.rows.items c.match-kind_row.rows.items _
                (sym (ap (option_map (λ row. route_with row [])) w.in-Some.is) ∙ c.kind_row.ensures.route) plain items (c.loop-place.invariant.routes steps);
            listed = λ steps before. listed_push steps c.loop-place.rows.items c.match-kind_row.rows.items w.in-Some.row items (omega (arith, plain))
                (c.loop-place.invariant.listed steps before);
          }
      | in-None w ↦ let same = ap (λ r. r.items) w.rows-is in
          record {
            routes = λ steps.
                ap
                (λ (rows : List RouteRow). map (route_of steps) rows ++ routes_by make (c.loop-place.place + 1 + 1) (drop (c.loop-place.place + 1) c.args.places.now)) same
                ∙ none_step make c.args.places.now c.loop-place.place d c.loop-place-test.true steps (c.loop-place.place + 1) (c.loop-place.place + 1 + 1)
                (c.loop-place.place + 1) (omega arith) (omega arith) c.loop-place.rows.items _
                (sym (ap (option_map (λ row. route_with row [])) w.in-None.is) ∙ c.kind_row.ensures.route) (c.loop-place.invariant.routes steps);
            listed = λ steps before. subst (AreListed steps) (sym same) (c.loop-place.invariant.listed steps before);
          }
    ]
