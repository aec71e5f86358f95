use Rattle.std.proofs.Common.{false, arith, ap, length, sym, ◌∙◌}
use Rattle.std.proofs.lemmas.Bool.{true≢false}
use Rattle.std.proofs.lemmas.List.{length-replicate}
use Rattle.mcf_flows.specs.Blocking.{in_table}
use Rattle.mcf_flows.specs.Network.{node_count}
use Rattle.std.specs.Prelude.{◌≤◌}
use Rattle.mcf_network.proofs.ArcLaws.{tail_is_node}
use Rattle.mcf_network.proofs.Marks.{unmarked}
use Rattle.mcf_matching.proofs.Rooms.{on_err}
use Rattle.mcf_matching.proofs.search.Tables.new.Goals as goal

pub returns-in_err-new-clause-wants : goal.returns-in_err-new-clause-wants
returns-in_err-new-clause-wants g c =
    let g = c.args.net.now in
    let some = c.in_err-new.ensures.wants in
    let arcs = c.arc_count.ensures.value in
    let node = tail_is_node g 1 false c.arc_count.ensures.of_net (omega arith, omega (arith, some, arcs)) in
    on_err c.from_residual.result (1 ≤ node_count g) (omega (arith, node))

pub returns-clause-idle : goal.returns-clause-idle
returns-clause-idle g c =
    let nodes = c.node_count-nodes.result in
    let count = c.node_count-nodes.ensures.value in
    let arcs = c.arc_count.ensures.value in
    let room = c.in_ok-with_capacity.ensures.capacity in
    let queue = c.in_ok-new.ensures.room in
    record {
      entries = record {
        dist_count = ap length c.in_ok-copies.ensures.value ∙ length-replicate nodes c.of.result ∙ count;
        settled_count = ap length c.in_ok-copies-2.ensures.value ∙ length-replicate nodes false ∙ count;
        predecessor_count = ap length c.in_ok-copies-3.ensures.value ∙ length-replicate nodes 0 ∙ count;
      };
      room = omega (arith, room, count);
      queue = omega (arith, queue, arcs);
      each = rw c.in_ok-with_capacity.ensures.items (λ i v below. absurd (omega (arith, below)));
      listed = λ v n m. absurd (true≢false (sym m ∙ ap (λ t. in_table t v) c.in_ok-copies-2.ensures.value ∙ unmarked nodes v));
    }
