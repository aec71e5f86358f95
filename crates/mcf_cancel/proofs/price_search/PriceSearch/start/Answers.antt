use Rattle.std.proofs.Common.{◌≡◌, rules, pos, replicate, None}
use Rattle.mcf_flows.specs.Network.{node_count}
use Rattle.mcf_cancel.proofs.Lowering.{start_ok}
use Rattle.mcf_cancel.proofs.price_search.PriceSearch.start.Goals as goal

pub invariant_of-result : goal.invariant_of-result
invariant_of-result c =
    let e : c.in_ok-prices.prices.items ≡ replicate (node_count c.args.state.now.net) (pos 0) = search rules in
    let f : c.in_ok-links.links.items ≡ replicate (node_count c.args.state.now.net) None = search rules in
    rw (e, f) (start_ok c.args.state.now c.net.ensures.valid)

pub returns-clause-valid : goal.returns-clause-valid
returns-clause-valid c = invariant_of-result c
