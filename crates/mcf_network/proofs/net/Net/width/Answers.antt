use Rattle.std.proofs.Common.{arith}
use Rattle.std.proofs.lemmas.Int.{ints}
use Rattle.mcf_network.specs.Private.StoredLinks.{links_in}
use Rattle.mcf_network.proofs.ArcLaws.{stored_width_at}
use Rattle.mcf_network.proofs.net.Net.width.Goals as goal

pub returns-clause-value : goal.returns-clause-value
returns-clause-value c =
    let n = c.self.inside in
    let a = stored_width_at c.args.self.now n.problem (links_in n.links) n.widths.items n.supplies.items c.args.k c.self.view_is c.self.invariant.0 c.requires in
    let e = rw (c.deref.ensures.value, c.place.ensures) at c.width_at.ensures in
    omega (arith, ints, a.is, a.low, a.high, e, c.from.ensures)
