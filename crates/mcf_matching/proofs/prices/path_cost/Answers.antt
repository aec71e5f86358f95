use Rattle.std.proofs.Common.{◌≡◌, ◌*◌, arith, refl}
use Rattle.mcf_flows.specs.Network.{node_count}
use Rattle.mcf_network.specs.Nets.{greatest_cost}
use Rattle.mcf_matching.specs.Private.Reaches.{path_cost}
use Rattle.mcf_matching.proofs.Near.{path_small}
use Rattle.mcf_matching.proofs.prices.path_cost.Goals as goal

pub overflow_mul-result : goal.overflow_mul-result
unfolding path_cost
overflow_mul-result c =
    let g = c.args.net.now in
    let path : c.from.result * c.args.greatest ≡ node_count g * greatest_cost g.arcs = rw (c.from.ensures, c.node_count.ensures.value, c.requires) refl in
    let small = path_small g c.node_count.ensures.of_net in
    omega (arith, path, small)

pub returns-clause-value : goal.returns-clause-value
unfolding path_cost
returns-clause-value c = rw (c.from.ensures, c.node_count.ensures.value, c.requires) refl

pub returns-clause-small : goal.returns-clause-small
returns-clause-small c =
    let path = returns-clause-value c in
    let small = path_small c.args.net.now c.node_count.ensures.of_net in
    omega (arith, path, small)
