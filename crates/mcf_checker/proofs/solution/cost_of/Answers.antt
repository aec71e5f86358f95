use Rattle.std.proofs.Common.{refl, ap, arith, ◌∙◌, List}
use Rattle.std.proofs.lemmas.Int.{ints}
use Rattle.std.proofs.lemmas.Option.{slice_get_within}
use Rattle.mcf_checker.specs.Private.StatedFlows.{flow_stated}
use Rattle.mcf_flows.specs.Flow.{cost}
use Rattle.mcf_flows.specs.declared.arc.Arc.{Arc}
use Rattle.mcf_checker.proofs.FlowLines.{cost_at, take_whole}
use Rattle.mcf_checker.proofs.StatedLines.{flow_read, has_line, starts}
use Rattle.mcf_checker.proofs.solution.cost_of.Goals as goal

pub loop-place-init : goal.loop-place-init
loop-place-init c = (refl, starts c.args.stated c.requires.order)

pub flow_at-flow-requires-clause-line : goal.flow_at-flow-requires-clause-line
flow_at-flow-requires-clause-line c =
    has_line c.args.instance.now.arcs c.args.stated c.loop-place.place c.requires.bounds
    (slice_get_within c.args.instance.now.arcs c.loop-place.place c.arc_at-arc.result c.arc_at-arc.ensures.value)

pub overflow_mul-total : goal.overflow_mul-total
overflow_mul-total c =
    let arcs = c.args.instance.now.arcs in
    let flow = flow_stated arcs c.args.stated in
    let carried = flow_read arcs c.args.stated c.loop-place.place c.arc_at-arc.result c.flow_at-flow.result c.arc_at-arc.ensures.value
    c.flow_at-flow.ensures.flow in
    let w = c.arc_at-arc.ensures.well_formed in
    let s = cost_at arcs flow c.loop-place.place c.arc_at-arc.result c.flow_at-flow.result c.arc_at-arc.ensures.value carried w.within.arcs w.within.total
    c.requires.bounds in
    rw (s.cost_read, s.flow_read) (omega (arith, ints, s.term_small))

pub overflow_add-total : goal.overflow_add-total
overflow_add-total c =
    let arcs = c.args.instance.now.arcs in
    let flow = flow_stated arcs c.args.stated in
    let carried = flow_read arcs c.args.stated c.loop-place.place c.arc_at-arc.result c.flow_at-flow.result c.arc_at-arc.ensures.value
    c.flow_at-flow.ensures.flow in
    let w = c.arc_at-arc.ensures.well_formed in
    let s = cost_at arcs flow c.loop-place.place c.arc_at-arc.result c.flow_at-flow.result c.arc_at-arc.ensures.value carried w.within.arcs w.within.total
    c.requires.bounds in
    rw (s.cost_read, s.flow_read) (omega (arith, ints, s.term_small, s.before_small, c.loop-place.invariant.0))

pub loop-place-preserved : goal.loop-place-preserved
loop-place-preserved c =
    let arcs = c.args.instance.now.arcs in
    let flow = flow_stated arcs c.args.stated in
    let carried = flow_read arcs c.args.stated c.loop-place.place c.arc_at-arc.result c.flow_at-flow.result c.arc_at-arc.ensures.value
    c.flow_at-flow.ensures.flow in
    let w = c.arc_at-arc.ensures.well_formed in
    let s = cost_at arcs flow c.loop-place.place c.arc_at-arc.result c.flow_at-flow.result c.arc_at-arc.ensures.value carried w.within.arcs w.within.total
    c.requires.bounds in
    (simp (s.cost_read, s.flow_read) (omega (arith, ints, s.term_small, s.before_small, s.next, c.loop-place.invariant.0)), c.flow_at-flow.ensures.next)

pub returns : goal.returns
returns c =
    c.loop-place.invariant.0
    ∙ ap (λ (arcs : List Arc). cost arcs (flow_stated c.args.instance.now.arcs c.args.stated)) (take_whole c.args.instance.now.arcs c.loop-place.place
    (omega (arith, c.loop-place-test.false, c.arc_count-count.ensures.value)))
