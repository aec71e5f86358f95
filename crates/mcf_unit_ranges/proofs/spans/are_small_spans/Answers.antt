use Rattle.std.proofs.Common.{arith, subst, refl}
use Rattle.std.specs.List.{All}
use Rattle.std.proofs.lemmas.List.{take_all}
use Rattle.std.proofs.lemmas.List.Elements.{All-more}
use Rattle.mcf_model.specs.Tables.{no_route}
use Rattle.mcf_unit_ranges.specs.Told.{HasSmallSpan}
use Rattle.mcf_unit_ranges.proofs.spans.are_small_spans.Goals as goal

pub loop-place-preserved : goal.loop-place-preserved
loop-place-preserved c =
    All-more (HasSmallSpan c.args.prices.now) c.args.model.now.routes c.loop-place.place no_route (omega (arith, c.loop-place-test.true, c.route_count-place-end.ensures.value)) c.loop-place.invariant
    (c.has_small_span_at.ensures.0 c.if-not-has_small_span_at.false)

pub returns : goal.returns
returns c =
    let all = subst (All (HasSmallSpan c.args.prices.now))
    (take_all c.loop-place.place c.args.model.now.routes (omega (arith, c.loop-place-test.false, c.route_count-place-end.ensures.value))) c.loop-place.invariant in
    ((λ t. all), (λ h. refl))
