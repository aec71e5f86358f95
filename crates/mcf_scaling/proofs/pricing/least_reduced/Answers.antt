use Rattle.std.proofs.Common.{◌≡◌, ◌^◌, ◌+◌, ◌<◌, length, ℤ, List, arith, refl, rules, sym, ap, ◌∙◌, subst, to_z, of_z}
use mir.Syntax.{w128}
use Rattle.std.proofs.lemmas.Int.{ints, to_z-of_z}
use Rattle.mcf_flows.specs.Network.{at_node}
use Rattle.mcf_flows.specs.WellFormed.{IsUpTo}
use Rattle.mcf_network.specs.declared.rid.Rid.{Rid}
use Rattle.mcf_network.specs.Stars.{ListsLeaving}
use Rattle.mcf_scaling.specs.declared.star.ResidualArc.{ResidualArc}
use Rattle.mcf_scaling.specs.declared.star.Span.{Span}
use Rattle.mcf_scaling.specs.Private.CurrentArcs.{rest_from}
use Rattle.mcf_scaling.specs.Private.Stars.{IsCapacityMark, mark_of, residual_at, residual_of}
use Rattle.mcf_scaling.proofs.StarLaws.{rest_end, scan_residual, scan_step}
use Rattle.mcf_scaling.proofs.Scans.{IsScanned, scanned_next, scanned_none, scanned_some, scanned_start}
use Rattle.mcf_scaling.proofs.pricing.least_reduced.Goals as goal

pub positions-init : goal.positions-init
positions-init c =
    let same : to_z w128 (of_z w128 c.nothing_above-least.result) ≡ c.nothing_above-least.result = search (rules, to_z-of_z) in
    let read : to_z w128 (of_z w128 c.price_of-price.result) ≡ c.price_of-price.result = search (rules, to_z-of_z) in
    let above = c.nothing_above-least.ensures in
    let value = c.price_of-price.ensures.value in
    scanned_start c.args.state.now c.args.prices.now c.args.v (at_node c.args.prices.now c.args.v)
    (to_z w128 (of_z w128 c.nothing_above-least.result)) (rest_from c.args.star.now c.args.v c.span-span.result.first)
    (subst (λ (z : ℤ). IsUpTo (10 ^ 29) z) value c.price_of-price.ensures.small) (omega (arith, ints, same, read, above, value))
    (subst (λ (s : Span). ListsLeaving c.args.state.now.net c.args.v (rest_from c.args.star.now c.args.v s.first)) (sym c.span-span.ensures)
    (c.requires.star.lists c.args.v c.requires.node))

pub lowered-least-requires-clause-residual : goal.lowered-least-requires-clause-residual
lowered-least-requires-clause-residual c =
    scan_residual c.args.state.now.net c.args.star.now c.args.v c.positions.i c.span-span.result c.requires.star c.requires.node
    c.span-span.ensures c.positions-test.true c.at.result c.at.ensures

pub lowered-least-requires-clause-mark : goal.lowered-least-requires-clause-mark
lowered-least-requires-clause-mark c =
    let within : c.positions.i < length c.args.has_capacity.now = search rules in
    subst (λ (p : ResidualArc). IsCapacityMark c.args.state.now (residual_of p.link) (mark_of c.args.has_capacity.now c.positions.i)) (sym c.at.ensures)
    (c.requires.marks.each c.positions.i within)

pub positions-preserved : goal.positions-preserved
positions-preserved c =
    let s = c.args.state.now in
    let price = at_node c.args.prices.now c.args.v in
    let least = to_z w128 c.positions.least-bits in
    let rest = rest_from c.args.star.now c.args.v (c.positions.i + 1) in
    let step = scan_step c.args.state.now.net c.args.star.now c.args.v c.positions.i c.span-span.result c.requires.star c.requires.node
    c.span-span.ensures c.positions-test.true c.at.result c.at.ensures in
    let scan = subst (λ (xs : List Rid). IsScanned s c.args.prices.now c.args.v price least xs) step c.positions.invariant in
    let same : to_z w128 (of_z w128 c.lowered-least.result) ≡ c.lowered-least.result = search (rules, to_z-of_z) in
    subst (λ (x : ℤ). IsScanned s c.args.prices.now c.args.v price x rest) (sym same)
    (scanned_next s c.args.prices.now c.args.v price least c.lowered-least.result (residual_at c.at.result) rest
    (subst (λ (z : ℤ). IsUpTo (10 ^ 29) z) c.price_of-price.ensures.value c.price_of-price.ensures.small) refl c.lowered-least.ensures scan)

pub returns-clause-some : goal.returns-clause-some
returns-clause-some c =
    let s = c.args.state.now in
    let price = at_node c.args.prices.now c.args.v in
    let least = to_z w128 c.positions.least-bits in
    let past = c.positions-test.false in
    let end = ap (λ (s : Span). s.end) c.span-span.ensures in
    let gone = rest_end c.args.star.now c.args.v c.positions.i (omega (arith, past, end)) (c.requires.star.within c.args.v c.requires.node) in
    let scan = subst (λ (xs : List Rid). IsScanned s c.args.prices.now c.args.v price least xs) gone c.positions.invariant in
    let read : to_z w128 (of_z w128 c.price_of-price.result) ≡ c.price_of-price.result = search (rules, to_z-of_z) in
    scanned_some s c.args.prices.now c.args.v price least c.found.result (to_z w128 (of_z w128 c.price_of-price.result))
    (read ∙ c.price_of-price.ensures.value) scan c.found.ensures

pub returns-clause-none : goal.returns-clause-none
returns-clause-none c =
    let s = c.args.state.now in
    let price = at_node c.args.prices.now c.args.v in
    let least = to_z w128 c.positions.least-bits in
    let past = c.positions-test.false in
    let end = ap (λ (s : Span). s.end) c.span-span.ensures in
    let gone = rest_end c.args.star.now c.args.v c.positions.i (omega (arith, past, end)) (c.requires.star.within c.args.v c.requires.node) in
    let scan = subst (λ (xs : List Rid). IsScanned s c.args.prices.now c.args.v price least xs) gone c.positions.invariant in
    let read : to_z w128 (of_z w128 c.price_of-price.result) ≡ c.price_of-price.result = search (rules, to_z-of_z) in
    scanned_none s c.args.prices.now c.args.v price least c.found.result (to_z w128 (of_z w128 c.price_of-price.result))
    (read ∙ c.price_of-price.ensures.value) scan c.found.ensures
