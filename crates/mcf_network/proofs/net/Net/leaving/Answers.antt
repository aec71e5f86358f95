use Rattle.std.proofs.Common.{◌≡◌, ◌-◌, ◌≤◌, arith, length, take, drop, get_or, subst, sym}
use Rattle.std.proofs.lemmas.List.{get_or_read}
use Rattle.mcf_flows.specs.Network.{Network, IsNode, node_count}
use Rattle.mcf_network.specs.Private.StoredLinks.{links_in}
use Rattle.mcf_network.specs.Stars.{ListsLeaving}
use Rattle.mcf_network.specs.Stored.{stored_net}
use Rattle.mcf_network.proofs.net.Net.leaving.Goals as goal

pub returns : goal.returns
returns c =
    let a = c.self.inside in
    let node : IsNode (node_count (stored_net a.problem (links_in a.links) a.widths.items a.supplies.items)) c.args.v = subst (λ (n : Network). IsNode (node_count n) c.args.v)
    (sym c.self.view_is) c.requires in
    let some : 1 ≤ length a.supplies.items = omega (arith, node) in
    let star = (c.self.invariant.1 some).star in
    let start : c.index.result.now ≡ get_or a.firsts.items (c.args.v - 1) 0 = rw (← c.get-i.ensures)
    (get_or_read a.firsts.items _ _ (omega (arith, node, star.count)) c.index.ensures 0) in
    let end : c.index-2.result.now ≡ get_or a.firsts.items c.args.v 0 = rw (← c.get-i.ensures)
    (get_or_read a.firsts.items _ _ (omega (arith, node, star.count)) c.index-2.ensures 0) in
    let lists = subst (λ (n : Network). ListsLeaving n c.args.v (take (get_or a.firsts.items c.args.v 0 - a.gap - get_or a.firsts.items (c.args.v - 1) 0)
    (drop (get_or a.firsts.items (c.args.v - 1) 0) a.outs.items))) c.self.view_is (star.lists c.args.v node) in
    rw (c.deref.ensures.value, start, end) lists
