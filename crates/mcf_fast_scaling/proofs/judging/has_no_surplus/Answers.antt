use Rattle.std.proofs.Common.{◌≡◌, ℕ, ◌∙◌, ap, arith, pos}
use Rattle.mcf_flows.specs.Network.{Network, node_count}
use Rattle.mcf_network.specs.States.{surplus_at}
use Rattle.mcf_fast_scaling.proofs.Judged.{every_next}
use Rattle.mcf_fast_scaling.proofs.judging.has_no_surplus.Goals as goal

pub nodes-preserved : goal.nodes-preserved
nodes-preserved c =
    every_next (λ (v : ℕ). surplus_at c.args.state.now v ≡ pos 0) c.nodes.number c.at.result c.at.ensures c.nodes.invariant (c.is_met.ensures c.if-not-is_met.false)

pub returns-clause-none : goal.returns-clause-none
returns-clause-none c =
    let count = c.node_count-number-end.ensures.value ∙ ap (λ (g : Network). node_count g) c.net.ensures.value in
    let past = c.nodes-test.false in
    λ _ v h. c.nodes.invariant v (h.0, omega (arith, h, count, past))
