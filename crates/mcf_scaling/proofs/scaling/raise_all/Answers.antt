use Rattle.std.proofs.Common.{◌≡◌, rules}
use Rattle.mcf_flows.specs.Network.{node_count}
use Rattle.mcf_scaling.proofs.Sizes.{small_near}
use Rattle.mcf_scaling.proofs.scaling.raise_all.Goals as goal

pub raise-requires-clause-near : goal.raise-requires-clause-near
raise-requires-clause-near c =
    let small = c.requires.small in
    let nodes : c.node_count-scale.result ≡ node_count c.args.state.now.net = search rules in
    let lent : c.deref_mut.result.now ≡ c.args.prices.now.items = search rules in
    rw (nodes, lent) (c.optimal_prices_are_near.ensures c.args.state.now c.args.prices.now.items c.requires.flow small.count
    (small_near (node_count c.args.state.now.net) c.args.prices.now.items small) c.requires.optimal)
