use Rattle.std.proofs.Common.{◌≡◌, ◌*◌, ap, arith, refl, rules, ◌∙◌, to_z, of_z}
use Rattle.std.specs.Prelude.{unsigned_abs}
use mir.Syntax.{w128}
use Rattle.std.proofs.lemmas.Int.{to_z-of_z}
use Rattle.mcf_flows.specs.Network.{node_count}
use Rattle.mcf_network.specs.Nets.{greatest_cost}
use Rattle.mcf_basis.proofs.TreePrices.{reach_small}
use Rattle.mcf_basis.proofs.starting.price_reach.Goals as goal

pub overflow_mul-result : goal.overflow_mul-result
overflow_mul-result c =
    let g = c.args.net.now in
    let path : c.from.result * c.greatest_cost.result ≡ node_count g * greatest_cost g.arcs =
    rw (c.from.ensures, c.node_count.ensures.value, c.greatest_cost.ensures.value) refl in
    omega (arith, path, reach_small g c.node_count.ensures.of_net)

pub overflow_add-result : goal.overflow_add-result
overflow_add-result c =
    let g = c.args.net.now in
    let path : c.from.result * c.greatest_cost.result ≡ node_count g * greatest_cost g.arcs =
    rw (c.from.ensures, c.node_count.ensures.value, c.greatest_cost.ensures.value) refl in
    let read : to_z w128 (of_z w128 c.args.cost) ≡ c.args.cost = search (rules, to_z-of_z) in
    let small = reach_small g c.node_count.ensures.of_net in
    omega (arith, path, c.unsigned_abs.ensures.value ∙ ap unsigned_abs (read ∙ c.requires), small)
