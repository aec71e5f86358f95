use Rattle.std.proofs.Common.{ap, sym, ◌∙◌, subst, arith, pos, get_or}
use Rattle.std.proofs.lemmas.Int.{ints}
use Rattle.mcf_flows.specs.Flow.{reduced_cost}
use Rattle.mcf_flows.specs.Network.{IsArcNumber}
use Rattle.mcf_network.specs.Residual.{arc_at}
use Rattle.mcf_ranges.specs.Private.Shown.{ShownFlow}
use Rattle.mcf_ranges.proofs.Tasks.{read_arc}
use Rattle.mcf_ranges.proofs.shown.Shown.reduced_cost.Goals as goal

pub place-requires-2 : goal.place-requires-2
place-requires-2 c =
    let s : ShownFlow = record { network = c.self.inside.instance.now; flow = c.self.inside.flow.now; prices = c.self.inside.prices.now } in
    let h : IsArcNumber s.network c.args.k = subst (λ (x : ShownFlow). IsArcNumber x.network c.args.k) (sym c.self.view_is) c.requires in
    (read_arc s c.args.k c.arc-arc.result c.self.invariant.shown h c.arc-arc.ensures.value).ends.dst_is_node.0

pub bounds-self-inside-place-2 : goal.bounds-self-inside-place-2
bounds-self-inside-place-2 c =
    let s : ShownFlow = record { network = c.self.inside.instance.now; flow = c.self.inside.flow.now; prices = c.self.inside.prices.now } in
    let h : IsArcNumber s.network c.args.k = subst (λ (x : ShownFlow). IsArcNumber x.network c.args.k) (sym c.self.view_is) c.requires in
    let node = (read_arc s c.args.k c.arc-arc.result c.self.invariant.shown h c.arc-arc.ensures.value).ends.dst_is_node in
    omega (arith, node, c.place-2.ensures, c.self.invariant.shown.one_per_node)

pub overflow_sub-result : goal.overflow_sub-result
overflow_sub-result c =
    let s : ShownFlow = record { network = c.self.inside.instance.now; flow = c.self.inside.flow.now; prices = c.self.inside.prices.now } in
    let h : IsArcNumber s.network c.args.k = subst (λ (x : ShownFlow). IsArcNumber x.network c.args.k) (sym c.self.view_is) c.requires in
    let read = read_arc s c.args.k c.arc-arc.result c.self.invariant.shown h c.arc-arc.ensures.value in
    let node = read.ends.src_is_node in
    let cost = read.within.cost_small in
    let price = c.self.invariant.shown.small c.place.result (pos 0) (omega (arith, node, c.place.ensures, c.self.invariant.shown.one_per_node)) in
    omega (arith, ints, cost, price)

pub overflow_add-result : goal.overflow_add-result
overflow_add-result c =
    let s : ShownFlow = record { network = c.self.inside.instance.now; flow = c.self.inside.flow.now; prices = c.self.inside.prices.now } in
    let h : IsArcNumber s.network c.args.k = subst (λ (x : ShownFlow). IsArcNumber x.network c.args.k) (sym c.self.view_is) c.requires in
    let read = read_arc s c.args.k c.arc-arc.result c.self.invariant.shown h c.arc-arc.ensures.value in
    let src = read.ends.src_is_node in
    let dst = read.ends.dst_is_node in
    let cost = read.within.cost_small in
    let first = c.self.invariant.shown.small c.place.result (pos 0) (omega (arith, src, c.place.ensures, c.self.invariant.shown.one_per_node)) in
    let second = c.self.invariant.shown.small c.place-2.result (pos 0) (omega (arith, dst, c.place-2.ensures, c.self.invariant.shown.one_per_node)) in
    omega (arith, ints, cost, first, second)

pub returns-clause-value : goal.returns-clause-value
returns-clause-value c =
    let s : ShownFlow = record { network = c.self.inside.instance.now; flow = c.self.inside.flow.now; prices = c.self.inside.prices.now } in
    let h : IsArcNumber s.network c.args.k = subst (λ (x : ShownFlow). IsArcNumber x.network c.args.k) (sym c.self.view_is) c.requires in
    let read = read_arc s c.args.k c.arc-arc.result c.self.invariant.shown h c.arc-arc.ensures.value in
    let src = read.ends.src_is_node in
    let dst = read.ends.dst_is_node in
    let cost = read.within.cost_small in
    let first = c.self.invariant.shown.small c.place.result (pos 0) (omega (arith, src, c.place.ensures, c.self.invariant.shown.one_per_node)) in
    let second = c.self.invariant.shown.small c.place-2.result (pos 0) (omega (arith, dst, c.place-2.ensures, c.self.invariant.shown.one_per_node)) in
    let a = ap (λ i. get_or s.prices i (pos 0)) c.place.ensures in
    let b = ap (λ i. get_or s.prices i (pos 0)) c.place-2.ensures in
    let is = ap (reduced_cost s.prices) read.is in
    omega (arith, ints, cost, first, second, a, b, is) ∙ ap (λ (x : ShownFlow). reduced_cost x.prices (arc_at x.network c.args.k)) c.self.view_is

pub returns-clause-small : goal.returns-clause-small
returns-clause-small c =
    let s : ShownFlow = record { network = c.self.inside.instance.now; flow = c.self.inside.flow.now; prices = c.self.inside.prices.now } in
    let h : IsArcNumber s.network c.args.k = subst (λ (x : ShownFlow). IsArcNumber x.network c.args.k) (sym c.self.view_is) c.requires in
    let read = read_arc s c.args.k c.arc-arc.result c.self.invariant.shown h c.arc-arc.ensures.value in
    let src = read.ends.src_is_node in
    let dst = read.ends.dst_is_node in
    let cost = read.within.cost_small in
    let first = c.self.invariant.shown.small c.place.result (pos 0) (omega (arith, src, c.place.ensures, c.self.invariant.shown.one_per_node)) in
    let second = c.self.invariant.shown.small c.place-2.result (pos 0) (omega (arith, dst, c.place-2.ensures, c.self.invariant.shown.one_per_node)) in
    (omega (arith, ints, cost, first, second), omega (arith, ints, cost, first, second))
