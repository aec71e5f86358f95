use Rattle.std.proofs.Common.{◌+◌, arith, ap, ◌∙◌, length}
use Rattle.mcf_flows.specs.Network.{Network, IsArcNumber}
use Rattle.mcf_scaling.proofs.Fillings.{filled_start, filled_next, filled_end}
use Rattle.mcf_scaling.proofs.filling.fill.Goals as goal

pub arcs-init : goal.arcs-init
arcs-init c = filled_start c.args.state.now c.args.prices.now c.requires.flow

pub arcs-preserved : goal.arcs-preserved
arcs-preserved c =
    let count = c.arc_count-number-end.ensures.value ∙ ap (λ (g : Network). length g.arcs) c.net-net.ensures.value in
    let test = c.arcs-test.true in
    let here : IsArcNumber c.args.state.now.net (c.arcs.number + 1) = (omega arith, omega (arith, count, test)) in
    let at = rw c.at.ensures at c.fill_arc.ensures in
    filled_next c.args.state.now c.arcs.state c.fill_arc.new.state c.args.prices.now c.arcs.number (c.arcs.number + 1) c.arcs.invariant at (omega arith) here

pub returns : goal.returns
returns c =
    let count = c.arc_count-number-end.ensures.value ∙ ap (λ (g : Network). length g.arcs) c.net-net.ensures.value in
    let test = c.arcs-test.false in
    filled_end c.args.state.now c.arcs.state c.args.prices.now c.arcs.number c.arcs.invariant (omega (arith, count, test))
