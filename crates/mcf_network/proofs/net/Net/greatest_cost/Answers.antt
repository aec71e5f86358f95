use Rattle.std.proofs.Common.{◌≡◌, ◌∙◌, ◌-◌, ◌<◌, ap, arith, length, get_or, to_z, of_z, rules}
use mir.Syntax.{w128}
use Rattle.std.specs.Prelude.{unsigned_abs}
use Rattle.std.proofs.lemmas.Int.{to_z-of_z}
use Rattle.std.proofs.lemmas.List.{take_all}
use Rattle.mcf_network.specs.Nets.{greatest_cost}
use Rattle.mcf_network.specs.Residual.{no_arc}
use Rattle.mcf_network.proofs.Costs.{greatest_next, greatest_small}
use Rattle.mcf_network.proofs.net.Net.greatest_cost.Goals as goal

pub arcs-preserved : goal.arcs-preserved
arcs-preserved c =
    let g = c.args.self.now in
    let inside : c.arcs.number < length g.arcs = omega (arith, c.arcs-test.true, c.arc_count-number-end.ensures.value) in
    let place : c.at.result - 1 ≡ c.arcs.number = omega (arith, c.at.ensures) in
    let read : to_z w128 (of_z w128 c.cost.result) ≡ c.cost.result = search (rules, to_z-of_z) in
    let here : c.unsigned_abs.result ≡ unsigned_abs (get_or g.arcs c.arcs.number no_arc).cost =
    c.unsigned_abs.ensures.value ∙ ap unsigned_abs (read ∙ (c.cost.ensures.value ∙ ap (λ i. (get_or g.arcs i no_arc).cost) place)) in
    omega (arith, here, greatest_next g.arcs c.arcs.number no_arc inside, c.max-greatest.ensures, c.arcs.invariant)

pub returns-clause-small : goal.returns-clause-small
returns-clause-small c =
    let g = c.args.self.now in
    let all = take_all c.arcs.number g.arcs (omega (arith, c.arcs-test.false, c.arc_count-number-end.ensures.value)) in
    omega (arith, c.arcs.invariant ∙ ap greatest_cost all, greatest_small g.arcs c.arc_count-number-end.ensures.of_net.each_arc)
