use Rattle.std.proofs.Common.{◌≡◌, ◌∙◌, ap, arith, rules, to_z, of_z}
use mir.Syntax.{w128}
use Rattle.std.proofs.lemmas.Int.{ints, to_z-of_z}
use Rattle.mcf_flows.specs.Network.{at_node}
use Rattle.mcf_fast_scaling.proofs.Judged.{cost_near}
use Rattle.mcf_fast_scaling.proofs.judging.reduced_of.Goals as goal

pub overflow_add-result : goal.overflow_add-result
overflow_add-result c =
    let small = cost_near c.args.net.now c.args.k c.cost.result c.cost.ensures.of_net c.requires.arc c.cost.ensures.value in
    grind (arith, ints, to_z-of_z, small, c.price_of.ensures.small, c.price_of-2.ensures.small)

pub returns : goal.returns
returns c =
    let tc : to_z w128 (of_z w128 c.cost.result) ≡ c.cost.result = search (rules, to_z-of_z) in
    let tf : to_z w128 (of_z w128 c.price_of.result) ≡ c.price_of.result = search (rules, to_z-of_z) in
    let tt : to_z w128 (of_z w128 c.price_of-2.result) ≡ c.price_of-2.result = search (rules, to_z-of_z) in
    let cost = c.cost.ensures.value in
    let from = c.price_of.ensures.value ∙ ap (λ v. at_node c.args.prices.now v) c.ends-src.ensures.src in
    let to = c.price_of-2.ensures.value ∙ ap (λ v. at_node c.args.prices.now v) c.ends-src.ensures.dst in
    let small = cost_near c.args.net.now c.args.k c.cost.result c.cost.ensures.of_net c.requires.arc cost in
    let near = c.price_of.ensures.small in
    let near' = c.price_of-2.ensures.small in
    omega (arith, ints, tc, tf, tt, cost, from, to, small, near, near')
