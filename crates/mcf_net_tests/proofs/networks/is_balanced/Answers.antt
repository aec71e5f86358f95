use Rattle.std.proofs.Common.{◌≡◌, ◌<◌, ◌+◌, ◌-◌, ◌∙◌, ap, arith, below_more, pos, subst, sym}
use Rattle.std.proofs.lemmas.Int.{ints}
use Rattle.mcf_flows.specs.Network.{node_count}
use Rattle.mcf_network.specs.States.{surplus_at}
use Rattle.mcf_net_tests.proofs.networks.is_balanced.Goals as goal

pub loop-v-preserved : goal.loop-v-preserved
loop-v-preserved c =
    let none : c.surplus.result ≡ pos 0 = omega (arith, ints, c.if-surplus-ne0.false, c.surplus.ensures.small) in
    below_more (λ k. surplus_at c.args.state.now (k + 1) ≡ pos 0) c.loop-v.v c.loop-v.invariant (sym (rw c.new.ensures at c.surplus.ensures.value) ∙ none)

pub returns : goal.returns
returns c _ v node =
    let end : c.node_count-v-end.result ≡ node_count c.args.state.now.net = c.node_count-v-end.ensures.value ∙ ap node_count c.net.ensures.value in
    let back : v - 1 + 1 ≡ v = omega (arith, node) in
    let below : v - 1 < c.loop-v.v = omega (arith, node, c.loop-v-test.false, end) in
    subst (λ n. surplus_at c.args.state.now n ≡ pos 0) back (c.loop-v.invariant (v - 1) below)
