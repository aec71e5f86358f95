use Rattle.std.proofs.Common.{◌≡◌, arith, eqb, pos, ◌-ℤ◌, neg_ℤ, to_z, of_z}
use mir.Syntax.{w128}
use Rattle.std.proofs.lemmas.Int.{ints}
use Rattle.mcf_flows.proofs.NodeSums.{when-neg}
use Rattle.mcf_network.proofs.surplus.move_surplus.Goals as goal

pub returns-clause-each : goal.returns-clause-each
returns-clause-each c v h =
    let x = c.args.x in
    let same : to_z w128 (of_z w128 x) ≡ x = omega (arith, ints, c.requires.x) in
    let less : to_z w128 (of_z w128 (pos 0 -ℤ to_z w128 (of_z w128 x))) ≡ neg_ℤ x = omega (arith, ints, c.requires.x) in
    let first = rw less at (c.add_surplus.ensures.each v h) in
    let second = rw same at (c.add_surplus-2.ensures.each v (omega (arith, h, c.add_surplus.ensures.length))) in
    omega (arith, ints, first, second, when-neg (eqb c.args.from v) x)
