use Rattle.std.proofs.Common.{◌≡◌, ◌≤◌, ◌∙◌, ap, arith, rules, subst, sym}
use Rattle.mcf_flows.specs.Network.{node_count}
use Rattle.mcf_network.specs.Nets.{IsNet}
use Rattle.mcf_network.specs.Private.StoredLinks.{links_in}
use Rattle.mcf_network.specs.Stored.{stored_arcs, stored_net}
use Rattle.mcf_network.proofs.ArcLaws.{arcs_need_nodes}
use Rattle.mcf_network.proofs.RemovalLaws.{links_count, links_join, net_is, net_of-node_count, net_of_ok}
use Rattle.mcf_network.proofs.net.Net.of.Goals as goal

pub forward_star-requires-clause-links : goal.forward_star-requires-clause-links
forward_star-requires-clause-links c =
    let g = c.args.instance.now in
    let count = links_count g (links_in c.in_ok-links.links) c.in_ok-links.widths.items c.in_ok-links.ensures.value in
    rw c.as_slice-list.ensures (omega (arith, count, c.node_count-nodes.ensures.well_formed.arcs))

pub forward_star-requires-clause-ends : goal.forward_star-requires-clause-ends
forward_star-requires-clause-ends c =
    rw (c.as_slice-list.ensures, c.node_count-nodes.ensures.value)
    (links_join c.args.instance.now (links_in c.in_ok-links.links) c.in_ok-links.widths.items c.node_count-nodes.ensures.well_formed c.in_ok-links.ensures.value)

pub invariant_of-result : goal.invariant_of-result
invariant_of-result c =
    let g = c.args.instance.now in
    let left = c.links_of.new.left.items in
    let is = net_is g c.problem.result (links_in c.in_ok-links.links) c.in_ok-links.widths.items left c.problem.ensures.value c.in_ok-links.ensures.value c.in_ok-links.ensures.left in
    let nodes : node_count (stored_net c.problem.result (links_in c.in_ok-links.links) c.in_ok-links.widths.items left) ≡ c.node_count-nodes.result =
    ap node_count is ∙ net_of-node_count g ∙ sym c.node_count-nodes.ensures.value in
    let of_net = subst IsNet (sym is) (net_of_ok g c.node_count-nodes.ensures.well_formed) in (
      of_net,
      λ some. record {
        of_net = of_net;
        star = c.in_ok-firsts.ensures.value (stored_net c.problem.result (links_in c.in_ok-links.links) c.in_ok-links.widths.items left)
            c.in_ok-links.widths.items (ap (λ ls. stored_arcs ls c.in_ok-links.widths.items) (sym c.as_slice-list.ensures)) nodes (rw nodes at some);
      },
    )

pub returns-clause-value : goal.returns-clause-value
returns-clause-value c =
    let g = c.args.instance.now in
    let left = c.links_of.new.left.items in
    let is = net_is g c.problem.result (links_in c.in_ok-links.links) c.in_ok-links.widths.items left c.problem.ensures.value c.in_ok-links.ensures.value c.in_ok-links.ensures.left in
    is

pub returns-clause-of_net : goal.returns-clause-of_net
returns-clause-of_net c =
    let g = c.args.instance.now in
    let left = c.links_of.new.left.items in
    let is = net_is g c.problem.result (links_in c.in_ok-links.links) c.in_ok-links.widths.items left c.problem.ensures.value c.in_ok-links.ensures.value c.in_ok-links.ensures.left in
    subst IsNet (sym is) (net_of_ok g c.node_count-nodes.ensures.well_formed)

pub returns-in_err-links-clause-wants : goal.returns-in_err-links-clause-wants
returns-in_err-links-clause-wants c =
    let some : 1 ≤ node_count c.args.instance.now = arcs_need_nodes (node_count c.args.instance.now) c.args.instance.now.arcs
    c.node_count-nodes.ensures.well_formed.ends c.in_err-links.ensures.wants in
    search rules
