use Rattle.std.proofs.Common.{◌∙◌, ap, arith, sym}
use Rattle.mcf_flows.specs.Network.{node_count}
use Rattle.mcf_feas.proofs.Excess.{excess_falls}
use Rattle.mcf_feas.proofs.feas.push_in_rounds.Goals as goal

pub start-requires-clause-nodes : goal.start-requires-clause-nodes
start-requires-clause-nodes c =
    c.searches.invariant.nodes ∙ sym (ap node_count c.searches.invariant.of_net)

pub start-requires-clause-room : goal.start-requires-clause-room
start-requires-clause-room c =
    let old = c.searches.invariant in
    let count = ap node_count old.of_net in
    omega (arith, old.room, count)

pub searches-smaller : goal.searches-smaller
searches-smaller c =
    let falls = excess_falls c.searches.state c.augment.new.state c.in_ok-augment.ensures.augmented in
    let kept = c.round-in-searches.ensures.no_more in
    omega (arith, falls, kept)
