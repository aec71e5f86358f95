use Rattle.std.proofs.Common.{◌≡◌, ◌∙◌, arith, rules, subst, sym, to_z, of_z}
use mir.Syntax.{w128}
use Rattle.mcf_flows.specs.Limits.{limits}
use Rattle.mcf_flows.specs.WellFormed.{IsUpTo}
use Rattle.mcf_network.proofs.ArcLaws.{head_is_node}
use Rattle.mcf_engine.proofs.Showing.{cost_small}
use Rattle.mcf_scaling.specs.Private.Stars.{residual_of}
use Rattle.mcf_scaling.proofs.StarLaws.{link_arc}
use Rattle.mcf_scaling.proofs.pricing.landed_at.Goals as goal

pub scaled-cost-requires-clause-cost : goal.scaled-cost-requires-clause-cost
scaled-cost-requires-clause-cost c =
    let r = residual_of c.args.residual.link in
    let arc = link_arc c.args.net.now c.args.residual.link c.requires.residual.link in
    let same : to_z w128 (of_z w128 c.from.result) ≡ c.args.residual.cost = search rules in
    subst (IsUpTo limits.cost) (sym (same ∙ c.requires.residual.cost)) (cost_small c.args.net.now r.arc r.back c.node_count.ensures.of_net arc)

pub price_of-requires-clause-node : goal.price_of-requires-clause-node
price_of-requires-clause-node c =
    let r = residual_of c.args.residual.link in
    let arc = link_arc c.args.net.now c.args.residual.link c.requires.residual.link in
    let node = head_is_node c.args.net.now r.arc r.back c.node_count.ensures.of_net arc in
    omega (arith, node, c.new.ensures, c.requires.residual.head, c.requires.prices.count)
