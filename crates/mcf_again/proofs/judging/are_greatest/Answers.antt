use Rattle.std.proofs.Common.{ℕ, ◌∙◌, ap, arith}
use Rattle.mcf_flows.specs.Network.{Network, node_count}
use Rattle.mcf_fast_scaling.proofs.Judged.{every_next}
use Rattle.mcf_again.specs.Private.Exits.{HasExit}
use Rattle.mcf_again.proofs.Greatest.{state_prices}
use Rattle.mcf_again.proofs.judging.are_greatest.Goals as goal

pub nodes-preserved : goal.nodes-preserved
nodes-preserved c =
    every_next (λ (v : ℕ). HasExit c.args.state.now c.args.prices.now c.args.ranks.now v) c.nodes.number c.at.result c.at.ensures c.nodes.invariant
    (c.has_exit.ensures c.if-not-has_exit.false)

pub returns : goal.returns
returns c =
    let count = c.node_count-number-end.ensures.value ∙ ap (λ (g : Network). node_count g) c.net.ensures.value in
    let past = c.nodes-test.false in
    λ _. state_prices c.args.state.now c.args.prices.now c.args.ranks.now c.requires.near c.net.ensures.valid
    (λ v h. c.nodes.invariant v (h.0, omega (arith, h, count, past)))
