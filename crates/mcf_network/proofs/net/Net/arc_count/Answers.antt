use Rattle.std.proofs.Common.{ap, arith, length}
use Rattle.mcf_network.specs.Private.StoredLinks.{links_in}
use Rattle.mcf_network.proofs.StoredLaws.{length-stored_arcs}
use Rattle.mcf_network.proofs.net.Net.arc_count.Goals as goal

pub overflow_cast-result : goal.overflow_cast-result
overflow_cast-result c =
    let count = length-stored_arcs (links_in c.self.inside.links) c.self.inside.widths.items in
    omega (arith, count, ap length c.as_slice.ensures, c.self.invariant.0.arcs)

pub returns-clause-value : goal.returns-clause-value
returns-clause-value c =
    let count = length-stored_arcs (links_in c.self.inside.links) c.self.inside.widths.items in
    rw (← c.self.view_is) (omega (arith, count, ap length c.as_slice.ensures))
