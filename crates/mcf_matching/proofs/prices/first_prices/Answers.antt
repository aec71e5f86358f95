use Rattle.std.proofs.Common.{◌≡◌, ◌<◌, ◌∙◌, ◌-ℤ◌, ap, arith, pos, rules, to_z, of_z}
use mir.Syntax.{w64, w128}
use Rattle.std.proofs.Math.Facts.{to_z_pos}
use Rattle.std.proofs.lemmas.Int.{ints, to_z-of_z}
use Rattle.mcf_flows.specs.Network.{at_node, node_count}
use Rattle.mcf_matching.proofs.Near.{cost_small}
use Rattle.mcf_matching.proofs.Kept.{other_first, row_first}
use Rattle.mcf_matching.proofs.prices.first_prices.Goals as goal
use Rattle.mcf_matching.proofs.prices.first_prices.Goals.{then-supply-gt0, else-supply-gt0}

pub overflow_cast-greatest : goal.overflow_cast-greatest
overflow_cast-greatest g c =
    let small = cost_small c.args.net.now c.node_count-nodes.ensures.of_net in
    let greatest = c.requires in
    omega (arith, ints, small, greatest)

pub overflow_sub-greatest : goal.overflow_sub-greatest
overflow_sub-greatest g c =
    let small = cost_small c.args.net.now c.node_count-nodes.ensures.of_net in
    let greatest = c.requires in
    let at : to_z w64 c.args.greatest ≡ pos c.args.greatest = to_z_pos w64 (omega (arith, small, greatest)) in
    omega (arith, ints, small, greatest, at)

pub nodes-preserved : goal.nodes-preserved
nodes-preserved g c =
    let n = c.args.net.now in
    let inside : c.nodes.number < node_count n = (let test = c.nodes-test.true in let all = c.node_count-nodes.ensures.value in omega (arith, test, all)) in
    let read : to_z w128 (of_z w128 c.supply.result) ≡ c.supply.result = search (rules, to_z-of_z) in
    let supply = c.supply.ensures.value ∙ ap (at_node n.supplies) c.at.ensures in
    elim c.if-supply-gt0.branch [
      | then-supply-gt0 w ↦ (
          let test = w.if-supply-gt0.true in
          let small = cost_small n c.node_count-nodes.ensures.of_net in
          let greatest = c.requires in
          let at : to_z w64 c.args.greatest ≡ pos c.args.greatest = to_z_pos w64 (omega (arith, small, greatest)) in
          let fits = to_z-of_z w64 (pos 0 -ℤ to_z w64 c.args.greatest) (omega (arith, ints, small, greatest, at)) in
          let first = c.of-first.ensures in
          rw w.prices-is (row_first n c.nodes.prices.items c.nodes.number c.of-first.result c.nodes.invariant inside (omega (arith, ints, test, read, supply))
          (omega (arith, ints, first, fits, at, greatest))))
      | else-supply-gt0 w ↦ (
          let test = w.if-supply-gt0.false in
          rw w.prices-is (other_first n c.nodes.prices.items c.nodes.number c.nodes.invariant (omega (arith, ints, test, read, supply))))
    ]

pub index_mut-requires : goal.index_mut-requires
index_mut-requires g c = omega (arith, c.nodes-test.true, c.node_count-nodes.ensures.value, c.nodes.invariant.one_per_node, c.nodes.prices.ok.0)
