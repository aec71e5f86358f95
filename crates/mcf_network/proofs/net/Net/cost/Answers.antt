use Rattle.std.proofs.Common.{arith, ap}
use Rattle.std.proofs.lemmas.Int.{ints}
use Rattle.mcf_flows.specs.declared.arc.Arc.{Arc}
use Rattle.mcf_network.specs.Private.StoredLinks.{links_in, no_link}
use Rattle.mcf_network.proofs.ArcLaws.{link_in_range, stored_arc_at}
use Rattle.mcf_network.proofs.net.Net.cost.Goals as goal

pub get-requires : goal.get-requires
get-requires c =
    let n = c.self.inside in
    rw c.place.ensures (link_in_range c.args.self.now n.problem (links_in n.links) n.widths.items n.supplies.items c.args.k c.self.view_is c.requires)

pub returns-clause-value : goal.returns-clause-value
returns-clause-value c =
    let n = c.self.inside in
    let a = stored_arc_at c.args.self.now n.problem (links_in n.links) n.widths.items n.supplies.items c.args.k no_link c.self.view_is c.self.invariant.0 c.requires in
    let e = ap (λ (x : Arc). x.cost) a.is in
    let small = a.arc.cost_small in
    let read = rw (c.get.ensures, c.place.ensures) at c.from.ensures in
    omega (arith, ints, e, small, read)
