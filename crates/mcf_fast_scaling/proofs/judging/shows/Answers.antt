use Rattle.std.proofs.Common.{ℕ, ◌∙◌, ap, arith, length}
use Rattle.mcf_flows.specs.Flow.{IsComplementary}
use Rattle.mcf_flows.specs.Network.{Network}
use Rattle.mcf_network.specs.Residual.{arc_at}
use Rattle.mcf_network.specs.States.{amount_at}
use Rattle.mcf_fast_scaling.proofs.Judged.{every_next, shown_everywhere}
use Rattle.mcf_fast_scaling.proofs.judging.shows.Goals as goal

pub arcs-preserved : goal.arcs-preserved
arcs-preserved c =
    every_next (λ (k : ℕ). IsComplementary c.args.prices.now (arc_at c.args.state.now.net k) (amount_at c.args.state.now k)) c.arcs.number c.at.result
    c.at.ensures c.arcs.invariant (c.shows_at.ensures c.if-not-shows_at.false)

pub returns : goal.returns
returns c =
    let count = c.arc_count-number-end.ensures.value ∙ ap (λ (g : Network). length g.arcs) c.net.ensures.value in
    let past = c.arcs-test.false in
    λ _. shown_everywhere c.args.state.now c.args.prices.now c.net.ensures.valid (λ k h. c.arcs.invariant k (h.0, omega (arith, h, count, past)))
