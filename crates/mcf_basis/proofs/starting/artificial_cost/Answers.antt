use Rattle.std.proofs.Common.{◌≡◌, ◌+◌, ◌-◌, ◌<◌, length, get_or, ap, arith, ◌∙◌}
use Rattle.mcf_flows.specs.WellFormed.{weight}
use Rattle.mcf_network.specs.Residual.{no_arc}
use Rattle.mcf_basis.proofs.StarBases.{weight_next, weight_part}
use Rattle.mcf_basis.proofs.starting.artificial_cost.Goals as goal

pub overflow_add-total : goal.overflow_add-total
overflow_add-total c =
    let g = c.args.net.now in
    let inside : c.loop-i.i < length g.arcs = omega (arith, c.loop-i-test.true, c.arc_count-i-end.ensures.value) in
    let place : c.at.result - 1 ≡ c.loop-i.i = omega (arith, c.at.ensures) in
    let here = c.weight-total.ensures.value ∙ ap (λ i. weight (get_or g.arcs i no_arc)) place in
    let part = weight_part g.arcs (c.loop-i.i + 1) in
    omega (arith, here, weight_next g.arcs c.loop-i.i no_arc inside, part, c.weight-total.ensures.net.total, c.loop-i.invariant)

pub loop-i-preserved : goal.loop-i-preserved
loop-i-preserved c =
    let g = c.args.net.now in
    let inside : c.loop-i.i < length g.arcs = omega (arith, c.loop-i-test.true, c.arc_count-i-end.ensures.value) in
    let place : c.at.result - 1 ≡ c.loop-i.i = omega (arith, c.at.ensures) in
    let here = c.weight-total.ensures.value ∙ ap (λ i. weight (get_or g.arcs i no_arc)) place in
    let part = weight_part g.arcs (c.loop-i.i + 1) in
    omega (arith, here, weight_next g.arcs c.loop-i.i no_arc inside, part, c.weight-total.ensures.net.total, c.loop-i.invariant)
