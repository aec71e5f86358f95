use Rattle.std.proofs.Common.{◌≡◌, ◌-◌, arith, rules, pos}
use Rattle.std.proofs.lemmas.Int.{ints}
use Rattle.std.proofs.lemmas.List.{get_or_read}
use Rattle.mcf_flows.specs.Network.{at_node}
use Rattle.mcf_flows.proofs.NetSteps.{add_at_node}
use Rattle.mcf_network.proofs.surplus.add_surplus.Goals as goal

pub overflow_add-more : goal.overflow_add-more
overflow_add-more c =
    let xs = c.args.surpluses.now.items in
    let p = c.index.result.now in
    let was : p ≡ at_node xs c.args.u = get_or_read xs (c.args.u - 1) p (search rules) (rw c.place.ensures at c.index.ensures) (pos 0) in
    omega (arith, ints, was, c.requires.surplus, c.requires.x)

pub returns-clause-each : goal.returns-clause-each
returns-clause-each c v h =
    let xs = c.args.surpluses.now.items in
    let p = c.index.result.now in
    let was : p ≡ at_node xs c.args.u = get_or_read xs (c.args.u - 1) p (search rules) (rw c.place.ensures at c.index.ensures) (pos 0) in
    rw c.place-2.ensures (add_at_node xs c.args.u v p c.args.x _ c.requires.node h was (omega (arith, ints, was, c.requires.surplus, c.requires.x)))
