use Rattle.std.proofs.Common.{◌≡◌, ◌-◌, sym, subst, arith, pos, rules, to_z, of_z}
use mir.Syntax.{w128}
use Rattle.std.proofs.lemmas.Int.{ints, to_z-of_z}
use Rattle.mcf_flows.specs.WellFormed.{IsUpTo}
use Rattle.mcf_engine.specs.NearPrices.{near_limit}
use Rattle.mcf_engine.specs.Private.Raisings.{IsRoundedDown}
use Rattle.mcf_engine.proofs.RaisingLoops.{label_next, round_end, round_next, round_start}
use Rattle.mcf_engine.proofs.pricer.round_all.Goals as goal

pub nodes-init : goal.nodes-init
nodes-init c = round_start c.args.scale c.args.prices.now c.args.heap.now

pub label_of-label-requires-clause-small : goal.label_of-label-requires-clause-small
label_of-label-requires-clause-small c =
    let v = c.at-v.ensures in
    let inside = c.nodes-test.true in
    let small = c.requires.small (c.at-v.result - 1) (pos 0) (omega (arith, v, inside)) in
    subst (λ z. IsUpTo near_limit z) (sym (c.nodes.invariant.rest c.at-v.result (omega (arith, v)))) small

pub label_of-label-requires-clause-low : goal.label_of-label-requires-clause-low
label_of-label-requires-clause-low c =
    let v = c.at-v.ensures in
    let inside = c.nodes-test.true in
    let same = label_next c.args.scale c.args.prices.now c.nodes.prices c.args.heap.now c.nodes.i c.at-v.result c.nodes.invariant v in
    let low = c.requires.low c.at-v.result (omega (arith, v), omega (arith, v, inside)) in
    omega (arith, ints, same, low)

pub label_of-label-requires-clause-high : goal.label_of-label-requires-clause-high
label_of-label-requires-clause-high c =
    let v = c.at-v.ensures in
    let inside = c.nodes-test.true in
    let same = label_next c.args.scale c.args.prices.now c.nodes.prices c.args.heap.now c.nodes.i c.at-v.result c.nodes.invariant v in
    let high = c.requires.high c.at-v.result (omega (arith, v), omega (arith, v, inside)) in
    omega (arith, ints, same, high)

pub rounded_down-requires-clause-low : goal.rounded_down-requires-clause-low
rounded_down-requires-clause-low c =
    let v = c.at-v.ensures in
    let inside = c.nodes-test.true in
    let same = label_next c.args.scale c.args.prices.now c.nodes.prices c.args.heap.now c.nodes.i c.at-v.result c.nodes.invariant v in
    let low = c.requires.low c.at-v.result (omega (arith, v), omega (arith, v, inside)) in
    let is = c.label_of-label.ensures in
    let t : to_z w128 (of_z w128 c.label_of-label.result) ≡ c.label_of-label.result = search (rules, to_z-of_z) in
    omega (arith, ints, same, low, is, t)

pub rounded_down-requires-clause-high : goal.rounded_down-requires-clause-high
rounded_down-requires-clause-high c =
    let v = c.at-v.ensures in
    let inside = c.nodes-test.true in
    let same = label_next c.args.scale c.args.prices.now c.nodes.prices c.args.heap.now c.nodes.i c.at-v.result c.nodes.invariant v in
    let high = c.requires.high c.at-v.result (omega (arith, v), omega (arith, v, inside)) in
    let is = c.label_of-label.ensures in
    let t : to_z w128 (of_z w128 c.label_of-label.result) ≡ c.label_of-label.result = search (rules, to_z-of_z) in
    omega (arith, ints, same, high, is, t)

pub nodes-preserved : goal.nodes-preserved
nodes-preserved c =
    let v = c.at-v.ensures in
    let inside = c.nodes-test.true in
    let count = c.nodes.invariant.count in
    let t : to_z w128 (of_z w128 c.label_of-label.result) ≡ c.label_of-label.result = search (rules, to_z-of_z) in
    let r : to_z w128 (of_z w128 c.rounded_down.result) ≡ c.rounded_down.result = search (rules, to_z-of_z) in
    let round : IsRoundedDown c.args.scale c.label_of-label.result c.rounded_down.result = subst (λ x. IsRoundedDown c.args.scale x c.rounded_down.result) t
    c.rounded_down.ensures in
    rw r (round_next c.args.scale c.args.prices.now c.nodes.prices c.args.heap.now c.nodes.i c.at-v.result c.label_of-label.result c.rounded_down.result
    c.nodes.invariant (omega (arith, inside, count)) v c.label_of-label.ensures round)

pub returns : goal.returns
returns c =
    let past = c.nodes-test.false in
    let count = c.nodes.invariant.count in
    round_end c.args.scale c.args.prices.now c.nodes.prices c.args.heap.now c.nodes.i c.nodes.invariant (omega (arith, past, count))
