use Rattle.std.proofs.Common.{◌+◌, ◌++◌, ◌∙◌, drop, map, sym, ap, false, get_or, pos}
use Rattle.std.specs.Prelude.{Some, None, replicate}
use Rattle.mcf_model.specs.declared.rows.RouteRow.{RouteRow}
use Rattle.mcf_model.specs.Tables.{route_of}
use Rattle.mcf_places.specs.declared.origins.Origin.TheVariants.{OfAll, OfRoute}
use Rattle.mcf_places.specs.Origins.{route_origins}
use Rattle.mcf_places.proofs.ArcOrigins.{route_next, sought_next}
use Rattle.mcf_places.proofs.origins.seek_route.Goals as goal

pub loop-place-preserved : goal.loop-place-preserved
loop-place-preserved c steps others listed =
    let i = c.loop-place.place in
    let d : RouteRow = record { tail = 0; head = 0; first_step = 0; step_count = 0; least = pos 0; last_most = None; last_cost = pos 0; both = false } in
    let more = route_origins (i + 1 + 1) (map (route_of steps) (drop (i + 1) c.args.rows.now)) ++ others in
    sought_next (OfRoute (i + 1)) more c.arc_count-count.result c.loop-place.left c.next.result (Some c.in-Some.later) c.in-Some.is
    (c.next.ensures (OfRoute (i + 1)) more)
    ∙ ap (λ n. get_or (replicate n (OfRoute (i + 1)) ++ more) c.loop-place.left OfAll)
    (c.arc_count-count.ensures steps (listed i d c.loop-place-test.true))
    ∙ ap (λ xs. get_or xs c.loop-place.left OfAll) (sym (route_next steps c.args.rows.now i d others c.loop-place-test.true))
    ∙ c.loop-place.invariant steps others listed

pub returns-in-None : goal.returns-in-None
returns-in-None c steps others listed =
    let i = c.loop-place.place in
    let d : RouteRow = record { tail = 0; head = 0; first_step = 0; step_count = 0; least = pos 0; last_most = None; last_cost = pos 0; both = false } in
    let more = route_origins (i + 1 + 1) (map (route_of steps) (drop (i + 1) c.args.rows.now)) ++ others in
    sought_next (OfRoute (i + 1)) more c.arc_count-count.result c.loop-place.left c.next.result None c.in-None.is (c.next.ensures (OfRoute (i + 1)) more)
    ∙ ap (λ n. get_or (replicate n (OfRoute (i + 1)) ++ more) c.loop-place.left OfAll)
    (c.arc_count-count.ensures steps (listed i d c.loop-place-test.true))
    ∙ ap (λ xs. get_or xs c.loop-place.left OfAll) (sym (route_next steps c.args.rows.now i d others c.loop-place-test.true))
    ∙ c.loop-place.invariant steps others listed
