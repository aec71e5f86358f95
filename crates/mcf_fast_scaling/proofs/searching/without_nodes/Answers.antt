use Rattle.std.proofs.Common.{◌≡◌, ◌∙◌, List, ℤ, [], ap, subst, sym}
use Rattle.mcf_flows.specs.Network.{Network, node_count}
use Rattle.mcf_network.specs.States.{Pseudoflow}
use Rattle.mcf_engine.specs.Outcomes.{AreStatePrices, IsLeastState}
use Rattle.mcf_fast_scaling.proofs.Nodeless.{nodeless_least, nodeless_prices}
use Rattle.mcf_fast_scaling.proofs.searching.without_nodes.Goals as goal

pub returns-clause-least : goal.returns-clause-least
returns-clause-least c =
    let same = ap (λ (s : Pseudoflow). s.net) c.in_ok-state.ensures.value in
    let none : node_count c.in_ok-state.state.net ≡ 0 = ap (λ (g : Network). node_count g) same ∙ c.requires in
    subst (λ (g : Network). IsLeastState g c.in_ok-state.state) same (nodeless_least c.in_ok-state.state c.in_ok-state.ensures.valid none)

pub returns-clause-prices : goal.returns-clause-prices
returns-clause-prices c =
    let same = ap (λ (s : Pseudoflow). s.net) c.in_ok-state.ensures.value in
    let none : node_count c.in_ok-state.state.net ≡ 0 = ap (λ (g : Network). node_count g) same ∙ c.requires in
    subst (λ (l : List ℤ). AreStatePrices c.args.net.now c.in_ok-state.state l) (sym c.new.ensures.items)
    (subst (λ (g : Network). AreStatePrices g c.in_ok-state.state []) same (nodeless_prices c.in_ok-state.state c.in_ok-state.ensures.valid none))
