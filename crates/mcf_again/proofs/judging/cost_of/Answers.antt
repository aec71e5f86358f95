use Rattle.std.proofs.Common.{◌≡◌, arith, rules, to_z, of_z}
use mir.Syntax.{w128}
use Rattle.std.proofs.lemmas.Int.{ints, to_z-of_z}
use Rattle.mcf_engine.proofs.Showing.{cost_small}
use Rattle.mcf_again.proofs.judging.cost_of.Goals as goal

pub returns-clause-small : goal.returns-clause-small
returns-clause-small c =
    let same : to_z w128 (of_z w128 c.unit_cost.result) ≡ c.unit_cost.result = search (rules, to_z-of_z) in
    let small = cost_small c.args.net.now c.args.r.arc c.args.r.back c.unit_cost.ensures.of_net c.requires in
    let low = small.0 in
    let high = small.1 in
    let value = c.unit_cost.ensures.value in
    (omega (arith, ints, same, low, value), omega (arith, ints, same, high, value))
