use Rattle.std.proofs.Common.{◌≡◌, ap, ◌∙◌, arith}
use Rattle.mcf_network.specs.NodeSets.{no_nodes}
use Rattle.mcf_engine.specs.Heaps.{no_keys}
use Rattle.mcf_ranges.specs.Private.Searches.{Task}
use Rattle.mcf_ranges.proofs.Searching.{distance_zero}
use Rattle.mcf_ranges.proofs.Tasks.{net_nodes, net_viewed, viewed}
use Rattle.mcf_ranges.proofs.search.Search.distance.Goals as goal

pub returns-then-get-clause-value : goal.returns-then-get-clause-value
returns-then-get-clause-value c =
    let i = c.self.inside in
    let t = c.args.self.now in
    let task = viewed i.shown.now i.without i.from i.to t c.self.view_is c.net-net.ensures.shown c.self.invariant in
    let from : i.from ≡ t.u = ap (λ (x : Task). x.u) c.self.view_is in
    let to : i.to ≡ t.w = ap (λ (x : Task). x.w) c.self.view_is in
    distance_zero t task (omega (arith, c.get.ensures, c.get-2.ensures, c.if-get.true, from, to))

pub run-requires-clause-heap : goal.run-requires-clause-heap
run-requires-clause-heap c =
    let i = c.self.inside in
    let t = c.args.self.now in
    let net_is = net_viewed i.shown.now i.without i.from i.to t c.net-net.result.now c.self.view_is c.net-net.ensures.value in
    c.in_ok-heap.ensures.value ∙ ap no_keys (net_nodes t.network c.net-net.result.now net_is)

pub run-requires-clause-settled : goal.run-requires-clause-settled
run-requires-clause-settled c =
    let i = c.self.inside in
    let t = c.args.self.now in
    let net_is = net_viewed i.shown.now i.without i.from i.to t c.net-net.result.now c.self.view_is c.net-net.ensures.value in
    c.in_ok-settled.ensures.value ∙ ap no_nodes (net_nodes t.network c.net-net.result.now net_is)
