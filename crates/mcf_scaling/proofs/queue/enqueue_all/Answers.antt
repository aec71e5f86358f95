use Rattle.std.proofs.Common.{arith, ap, ◌∙◌}
use Rattle.mcf_flows.specs.Network.{Network, node_count}
use Rattle.mcf_scaling.proofs.QueueLaws.{queued_all}
use Rattle.mcf_scaling.proofs.queue.enqueue_all.Goals as goal

pub nodes-preserved : goal.nodes-preserved
nodes-preserved c =
    record {
      size = c.enqueue.ensures.size ∙ c.nodes.invariant.size;
      valid = c.enqueue.ensures.valid;
      every = queued_all c.args.state.now c.nodes.queue c.enqueue.new.queue c.nodes.number c.at.result c.at.ensures c.nodes.invariant.every
          c.enqueue.ensures.kept c.enqueue.ensures.here;
    }

pub returns : goal.returns
returns c =
    let count = c.node_count-number-end.ensures.value ∙ ap (λ (g : Network). node_count g) c.net.ensures.value in
    let past = c.nodes-test.false in
    record {
      queue = c.nodes.invariant.valid;
      size = c.nodes.invariant.size;
      every = λ v h more. c.nodes.invariant.every v (h.0, omega (arith, h, count, past)) more;
    }
