use Rattle.std.proofs.Common.{◌≡◌, ◌∙◌, ◌+ℤ◌, ap, arith, map, pos}
use Rattle.std.proofs.lemmas.Int.{ints}
use Rattle.mcf_model.specs.Bottlenecks.{route_sum}
use Rattle.mcf_model.specs.Tables.{route_of}
use Rattle.mcf_places.specs.Planners.{place_sum}
use Rattle.mcf_places.specs.Throughput.{ample_limit, cut, place_span, ways_span}
use Rattle.mcf_places.proofs.CutSums.{cut_more}
use Rattle.mcf_places.proofs.Throughputs.{routes_low}
use Rattle.mcf_places.proofs.limits.ample_limit.Goals as goal

pub returns-clause-value : goal.returns-clause-value
returns-clause-value c =
    let rs = map (route_of c.args.steps.now) c.args.rows.now in
    let routes = route_sum ways_span rs in
    let places = place_sum (λ v p. place_span p) 1 c.args.places.now in
    let whole : pos 1 +ℤ (places +ℤ routes) ≡ ample_limit c.args.places.now rs = omega (arith, ints) in
    c.routes_more.ensures.value
    ∙ ap (λ z. cut (z +ℤ routes)) c.places_more-of_places.ensures.value
    ∙ cut_more (pos 1) places routes (routes_low rs)
    ∙ ap cut whole
