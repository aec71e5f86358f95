use Rattle.std.proofs.Common.{ap, sym, ◌∙◌}
use Rattle.mcf_flows.specs.Network.{Network, node_count}
use Rattle.mcf_network.specs.States.{Pseudoflow}
use Rattle.mcf_cancel.specs.Private.Queues.{no_queue}
use Rattle.mcf_cancel.proofs.Rounding.{start_floor, all_wait}
use Rattle.mcf_cancel.proofs.recovered.recover.Goals as goal

pub lower_all-requires : goal.lower_all-requires
lower_all-requires c =
    let net = c.net-net.ensures.value in
    let flow = c.in_ok-search.ensures.flow in
    record {
      flow = flow;
      labelling = c.in_ok-search.ensures.valid;
      floor = start_floor _ _ _ c.in_ok-search.ensures.prices;
      valid = c.in_ok-waiting.ensures.valid;
      table = c.in_ok-waiting.ensures.table ∙ ap node_count net;
      empty = c.in_ok-fallen.ensures.value ∙ ap (λ (g : Network). no_queue (node_count g)) net;
      queue = c.in_ok-fallen.ensures.valid;
      handled = all_wait c.in_ok-search.search c.in_ok-waiting.waiting _ (net ∙ ap (λ (s : Pseudoflow). s.net) (sym flow)) c.in_ok-search.ensures.valid
          c.in_ok-waiting.ensures.each;
    }
