use Rattle.std.proofs.Common.{◌+◌, ◌++◌, ◌∙◌, drop, sym, ap, get_or, pos}
use Rattle.std.specs.Prelude.{Some, None, replicate}
use Rattle.mcf_places.specs.declared.origins.Origin.TheVariants.{OfAll}
use Rattle.mcf_places.specs.declared.places.Place.{Place}
use Rattle.mcf_places.specs.Origins.{kind_origin, one_if, place_origins}
use Rattle.mcf_places.proofs.ArcOrigins.{byte_is, place_next, sought_next}
use Rattle.mcf_places.proofs.origins.seek_place.Goals as goal

pub loop-place-preserved : goal.loop-place-preserved
loop-place-preserved c others =
    let i = c.loop-place.place in
    let d : Place = record { supply = pos 0; through = None; penalty = None } in
    let more = place_origins c.args.kind c.args.policy (i + 1 + 1) (drop (i + 1) c.args.places.now) ++ others in
    let here = kind_origin c.args.kind (i + 1) (get_or c.args.places.now i d) in
    sought_next here more c.from.result c.loop-place.left c.next.result (Some c.in-Some.later) c.in-Some.is (c.next.ensures here more)
    ∙ ap (λ n. get_or (replicate n here ++ more) c.loop-place.left OfAll) (byte_is c.has_route-has.result c.from.result c.from.ensures ∙ ap one_if c.has_route-has.ensures)
    ∙ ap (λ xs. get_or xs c.loop-place.left OfAll) (sym (place_next c.args.kind c.args.policy c.args.places.now i d others c.loop-place-test.true)) ∙ c.loop-place.invariant others
