use Rattle.std.proofs.Common.{◌≤◌, arith, length, rules}
use Rattle.mcf_network.proofs.RemovalLaws.{links_count}
use Rattle.mcf_network.proofs.removal.links_of.Goals as goal

pub returns-in_err-of-clause-wants : goal.returns-in_err-of-clause-wants
returns-in_err-of-clause-wants c =
    let made = c.in_ok-links in
    let count = links_count c.args.instance.now made.links.items made.widths.items made.ensures.value in
    let some : 1 ≤ length c.args.instance.now.arcs = omega (arith, count, c.in_err-of.ensures.wants) in
    search rules
