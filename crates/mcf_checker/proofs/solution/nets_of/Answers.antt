use Rattle.std.proofs.Common.{arith, ap, List, refl, subst, ◌-◌, ◌∙◌, pos}
use Rattle.std.specs.Prelude.{replicate}
use Rattle.std.proofs.lemmas.Int.{ints}
use Rattle.std.proofs.lemmas.Option.{slice_get_within}
use Rattle.mcf_checker.specs.Private.StatedFlows.{flow_stated}
use Rattle.mcf_flows.specs.declared.arc.Arc.{Arc}
use Rattle.mcf_flows.specs.Flow.{AreNets}
use Rattle.mcf_flows.specs.Network.{node_count}
use Rattle.mcf_flows.specs.WellFormed.{HasEnds}
use Rattle.mcf_checker.proofs.FlowLines.{arc_has, net_at, net_at_second, nets_at_start, take_whole}
use Rattle.mcf_checker.proofs.StatedLines.{flow_read, has_line, starts}
use Rattle.mcf_checker.proofs.solution.nets_of.Goals as goal

pub loop-place-init : goal.loop-place-init
loop-place-init c = (
  nets_at_start (node_count c.args.instance.now) (flow_stated c.args.instance.now.arcs c.args.stated) c.in_ok-nets.nets.items
      (c.in_ok-nets.ensures.value ∙ ap (λ n. replicate n (pos 0)) c.node_count.ensures.value),
  starts c.args.stated c.requires.order,
)

pub flow_at-flow-requires-clause-line : goal.flow_at-flow-requires-clause-line
flow_at-flow-requires-clause-line c =
    has_line c.args.instance.now.arcs c.args.stated c.loop-place.place c.requires.bounds
    (slice_get_within c.args.instance.now.arcs c.loop-place.place c.arc_at-arc.result c.arc_at-arc.ensures.value)

pub place-requires : goal.place-requires
place-requires c =
    let ends = arc_has (HasEnds (node_count c.args.instance.now)) c.args.instance.now.arcs c.loop-place.place c.arc_at-arc.result c.arc_at-arc.ensures.value
    c.arc_at-arc.ensures.well_formed.ends in
    ends.src_is_node.0

pub index_mut-requires : goal.index_mut-requires
index_mut-requires c =
    let ends = arc_has (HasEnds (node_count c.args.instance.now)) c.args.instance.now.arcs c.loop-place.place c.arc_at-arc.result c.arc_at-arc.ensures.value
    c.arc_at-arc.ensures.well_formed.ends in
    omega (arith, ends.src_is_node, c.place.ensures, c.loop-place.invariant.0.one_per_node, c.loop-place.nets.ok)

pub overflow_add-index_mut : goal.overflow_add-index_mut
overflow_add-index_mut c =
    let arcs = c.args.instance.now.arcs in
    let flow = flow_stated arcs c.args.stated in
    let carried = flow_read arcs c.args.stated c.loop-place.place c.arc_at-arc.result c.flow_at-flow.result c.arc_at-arc.ensures.value
    c.flow_at-flow.ensures.flow in
    let w = c.arc_at-arc.ensures.well_formed in
    let s = net_at arcs flow c.loop-place.place c.arc_at-arc.result c.flow_at-flow.result c.arc_at-arc.ensures.value carried
    (node_count c.args.instance.now) c.loop-place.nets.items c.place.result (c.arc_at-arc.result.dst - 1) c.place.ensures refl w.ends
    w.within.arcs w.arcs c.requires.bounds c.loop-place.invariant.0 c.index_mut.result.now c.index_mut.ensures.value in
    rw (s.flow_read, s.entry_read) (omega (arith, ints, s.flow_small, s.entry_small))

pub place-requires-in-loop-place : goal.place-requires-in-loop-place
place-requires-in-loop-place c =
    let ends = arc_has (HasEnds (node_count c.args.instance.now)) c.args.instance.now.arcs c.loop-place.place c.arc_at-arc.result c.arc_at-arc.ensures.value
    c.arc_at-arc.ensures.well_formed.ends in
    ends.dst_is_node.0

pub index_mut-requires-in-loop-place : goal.index_mut-requires-in-loop-place
index_mut-requires-in-loop-place c =
    let ends = arc_has (HasEnds (node_count c.args.instance.now)) c.args.instance.now.arcs c.loop-place.place c.arc_at-arc.result c.arc_at-arc.ensures.value
    c.arc_at-arc.ensures.well_formed.ends in
    omega (arith, ends.dst_is_node, c.place-in-loop-place.ensures, c.loop-place.invariant.0.one_per_node, c.loop-place.nets.ok)

pub overflow_sub-index_mut : goal.overflow_sub-index_mut
overflow_sub-index_mut c =
    let arcs = c.args.instance.now.arcs in
    let flow = flow_stated arcs c.args.stated in
    let carried = flow_read arcs c.args.stated c.loop-place.place c.arc_at-arc.result c.flow_at-flow.result c.arc_at-arc.ensures.value
    c.flow_at-flow.ensures.flow in
    let w = c.arc_at-arc.ensures.well_formed in
    let s = net_at arcs flow c.loop-place.place c.arc_at-arc.result c.flow_at-flow.result c.arc_at-arc.ensures.value carried
    (node_count c.args.instance.now) c.loop-place.nets.items c.place.result (c.arc_at-arc.result.dst - 1) c.place.ensures refl w.ends
    w.within.arcs w.arcs c.requires.bounds c.loop-place.invariant.0 c.index_mut.result.now c.index_mut.ensures.value in
    let written = simp (s.flow_read, s.entry_read, s.sum_read) at c.index_mut-in-loop-place.ensures.value in
    let t = net_at_second arcs flow c.loop-place.place c.arc_at-arc.result c.flow_at-flow.result c.arc_at-arc.ensures.value carried
    (node_count c.args.instance.now) c.loop-place.nets.items c.place.result c.place-in-loop-place.result c.place.ensures c.place-in-loop-place.ensures w.ends
    w.within.arcs w.arcs c.requires.bounds c.loop-place.invariant.0 c.index_mut.result.now c.index_mut-in-loop-place.result.now
    c.index_mut.ensures.value written in
    rw (s.flow_read, t.entry_read) (omega (arith, ints, s.flow_small, t.entry_small))

pub loop-place-preserved : goal.loop-place-preserved
loop-place-preserved c =
    let arcs = c.args.instance.now.arcs in
    let flow = flow_stated arcs c.args.stated in
    let carried = flow_read arcs c.args.stated c.loop-place.place c.arc_at-arc.result c.flow_at-flow.result c.arc_at-arc.ensures.value
    c.flow_at-flow.ensures.flow in
    let w = c.arc_at-arc.ensures.well_formed in
    let s = net_at arcs flow c.loop-place.place c.arc_at-arc.result c.flow_at-flow.result c.arc_at-arc.ensures.value carried
    (node_count c.args.instance.now) c.loop-place.nets.items c.place.result (c.arc_at-arc.result.dst - 1) c.place.ensures refl w.ends
    w.within.arcs w.arcs c.requires.bounds c.loop-place.invariant.0 c.index_mut.result.now c.index_mut.ensures.value in
    let written = simp (s.flow_read, s.entry_read, s.sum_read) at c.index_mut-in-loop-place.ensures.value in
    let t = net_at_second arcs flow c.loop-place.place c.arc_at-arc.result c.flow_at-flow.result c.arc_at-arc.ensures.value carried
    (node_count c.args.instance.now) c.loop-place.nets.items c.place.result c.place-in-loop-place.result c.place.ensures c.place-in-loop-place.ensures w.ends
    w.within.arcs w.arcs c.requires.bounds c.loop-place.invariant.0 c.index_mut.result.now c.index_mut-in-loop-place.result.now
    c.index_mut.ensures.value written in
    (simp (s.flow_read, s.entry_read, s.sum_read, t.entry_read, t.difference_read) t.next, c.flow_at-flow.ensures.next)

pub returns-clause-value : goal.returns-clause-value
returns-clause-value c =
    let all = take_whole c.args.instance.now.arcs c.loop-place.place (omega (arith, c.loop-place-test.false, c.arc_count-count.ensures.value)) in
    let P = λ (arcs : List Arc). AreNets (node_count c.args.instance.now) arcs (flow_stated c.args.instance.now.arcs c.args.stated) c.loop-place.nets.items in
    subst P all c.loop-place.invariant.0
