use Rattle.std.proofs.Common.{arith, below_more, rules, subst, sym, ◌∙◌}
use Rattle.std.specs.Int.{w128}
use Rattle.std.specs.Prelude.{FitsSigned}
use Rattle.std.proofs.lemmas.Int.{to_z-of_z}
use Rattle.std.proofs.lemmas.Option.{slice_get_within}
use Rattle.mcf_checker.specs.Private.StatedFlows.{flow_stated}
use Rattle.mcf_flows.specs.Limits.{limits}
use Rattle.mcf_flows.specs.WellFormed.{HasEnds, IsArcWithinLimits}
use Rattle.mcf_checker.proofs.BadPrices.{looseness_read, bad_price-some, bad_price-none}
use Rattle.mcf_checker.proofs.FlowLines.{arc_has}
use Rattle.mcf_checker.proofs.StatedLines.{flow_read, has_line, starts}
use Rattle.mcf_checker.proofs.solution.first_bad_price.Goals as goal

pub loop-place-init : goal.loop-place-init
loop-place-init t c = (λ j h. absurd (omega (arith, h)), starts c.args.stated c.requires.order)

pub flow_at-flow-requires-clause-line : goal.flow_at-flow-requires-clause-line
flow_at-flow-requires-clause-line t c =
    has_line c.args.instance.now.arcs c.args.stated c.loop-place.place c.requires.bounds
    (slice_get_within c.args.instance.now.arcs c.loop-place.place c.arc_at-arc.result c.arc_at-arc.ensures.value)

pub is_loose-requires-clause-ends : goal.is_loose-requires-clause-ends
is_loose-requires-clause-ends t c =
    subst (λ nodes. HasEnds nodes c.arc_at-arc.result) (sym c.requires.one_price_each)
    (arc_has (HasEnds _) c.args.instance.now.arcs c.loop-place.place c.arc_at-arc.result c.arc_at-arc.ensures.value c.arc_at-arc.ensures.well_formed.ends)

pub is_loose-requires-clause-limits : goal.is_loose-requires-clause-limits
is_loose-requires-clause-limits t c =
    arc_has (IsArcWithinLimits limits) c.args.instance.now.arcs c.loop-place.place c.arc_at-arc.result c.arc_at-arc.ensures.value
    c.arc_at-arc.ensures.well_formed.within.arcs

pub loop-place-preserved : goal.loop-place-preserved
loop-place-preserved t c =
    let arcs = c.args.instance.now.arcs in
    let flow = flow_stated arcs c.args.stated in
    let carried = flow_read arcs c.args.stated c.loop-place.place c.arc_at-arc.result c.flow_at-flow.result c.arc_at-arc.ensures.value
    c.flow_at-flow.ensures.flow in
    let fits : FitsSigned w128 c.flow_at-flow.result = search rules in
    let loose = simp to_z-of_z at c.is_loose.ensures in (
      below_more _ _ c.loop-place.invariant.0
          (looseness_read (t.P.Price.values c.args.prices.now) arcs flow c.loop-place.place c.arc_at-arc.result c.flow_at-flow.result c.arc_at-arc.ensures.value carried
          ∙ sym loose ∙ c.if-is_loose.false),
      c.flow_at-flow.ensures.next,
    )

pub returns-then-is_loose : goal.returns-then-is_loose
returns-then-is_loose t c =
    let arcs = c.args.instance.now.arcs in
    let flow = flow_stated arcs c.args.stated in
    let carried = flow_read arcs c.args.stated c.loop-place.place c.arc_at-arc.result c.flow_at-flow.result c.arc_at-arc.ensures.value
    c.flow_at-flow.ensures.flow in
    let fits : FitsSigned w128 c.flow_at-flow.result = search rules in
    let loose = simp to_z-of_z at c.is_loose.ensures in
    sym (bad_price-some c.args.instance.now (t.P.Price.values c.args.prices.now) flow c.loop-place.place
    (slice_get_within arcs c.loop-place.place c.arc_at-arc.result c.arc_at-arc.ensures.value) c.loop-place.invariant.0
    (looseness_read (t.P.Price.values c.args.prices.now) arcs flow c.loop-place.place c.arc_at-arc.result c.flow_at-flow.result c.arc_at-arc.ensures.value carried
    ∙ sym loose ∙ c.if-is_loose.true))

pub returns : goal.returns
returns t c =
    sym (bad_price-none c.args.instance.now (t.P.Price.values c.args.prices.now) (flow_stated c.args.instance.now.arcs c.args.stated)
    (λ j h. c.loop-place.invariant.0 j (omega (arith, h, c.loop-place-test.false, c.arc_count-count.ensures.value))))
