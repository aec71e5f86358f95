use Rattle.std.proofs.Common.{◌∙◌, sym, arith}
use Rattle.mcf_engine.proofs.RaisedPrices.{raised}
use Rattle.mcf_engine.proofs.RaisingSteps.{label_small, started}
use Rattle.mcf_engine.proofs.pricer.Pricer.raise.Goals as goal

pub wait_all-requires-clause-count : goal.wait_all-requires-clause-count
wait_all-requires-clause-count c = c.self.view_is ∙ c.requires.room ∙ sym c.requires.near.one_per_node

pub settle_all-requires-clause-ready : goal.settle_all-requires-clause-ready
settle_all-requires-clause-ready c = started _ c.fill.ensures.valid _ c.wait_all.ensures

pub round_all-requires-clause-scale : goal.round_all-requires-clause-scale
round_all-requires-clause-scale c = let fits = c.requires.near.slack_small in omega (arith, fits)

pub round_all-requires-clause-keys : goal.round_all-requires-clause-keys
round_all-requires-clause-keys c = c.settle_all.ensures.search.key_count ∙ sym c.requires.near.one_per_node

pub round_all-requires-clause-few : goal.round_all-requires-clause-few
round_all-requires-clause-few c =
    let nodes = c.fill.ensures.valid.of_net.nodes in
    let count = c.requires.near.one_per_node in
    omega (arith, nodes, count)

pub round_all-requires-clause-low : goal.round_all-requires-clause-low
round_all-requires-clause-low c v n =
    let count = c.requires.near.one_per_node in
    (label_small _ c.fill.ensures.valid c.settle_all.new.heap _
    c.settle_all.ensures.search v (n.0, omega (arith, n, count))).0

pub round_all-requires-clause-high : goal.round_all-requires-clause-high
round_all-requires-clause-high c v n =
    let count = c.requires.near.one_per_node in
    c.settle_all.ensures.search.not_above v (n.0, omega (arith, n, count))

pub returns-clause-prices : goal.returns-clause-prices
returns-clause-prices c =
    raised _ c.settle_all.new.heap c.round_all.new.prices c.settle_all.ensures.search c.settle_all.ensures.over c.round_all.ensures

pub returns-clause-room : goal.returns-clause-room
returns-clause-room c = c.settle_all.ensures.search.waiting_count ∙ sym c.requires.room
