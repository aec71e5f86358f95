use Rattle.std.proofs.Common.{arith, ap, pos}
use Rattle.std.proofs.lemmas.Int.{ints}
use Rattle.std.specs.Prelude.{◌<ℤ◌, ◌≤ℤ◌}
use Rattle.mcf_flows.specs.Network.{IsNode, node_count}
use Rattle.mcf_network.specs.States.{surplus_at}
use Rattle.mcf_feas.proofs.Searches.{search_room, started_end, started_push, started_skip}
use Rattle.mcf_feas.proofs.path_search.PathSearch.start.Goals as goal
use Rattle.mcf_feas.proofs.path_search.PathSearch.start.Goals.{then-surplus-gt0, else-surplus-gt0}

pub visit-requires-clause-room : goal.visit-requires-clause-room
visit-requires-clause-room c =
    let s = c.args.state.now in
    let v = c.at-node.result in
    let old = c.loop-number in
    let started = old.invariant.started in
    let nodes = ap node_count c.net.ensures.value in
    let node : IsNode (node_count s.net) v = omega (arith, nodes) in
    let few = search_room s old.self.reached old.self.visits.items v started.scanned.search node (started.untouched v (omega (arith, c.at-node.ensures))) in
    omega (arith, few, old.invariant.room)

pub loop-number-preserved : goal.loop-number-preserved
loop-number-preserved c =
    let s = c.args.state.now in
    let v = c.at-node.result in
    let nodes = ap node_count c.net.ensures.value in
    let node : IsNode (node_count s.net) v = omega (arith, nodes) in
    let value = c.surplus.ensures.value in
    let small = c.surplus.ensures.small in
    let old = c.loop-number in
    elim c.if-surplus-gt0.branch [
      | then-surplus-gt0 w ↦ (let high : pos 0 <ℤ surplus_at s v = omega (arith, ints, value, small, w.if-surplus-gt0.true) in
          rw (w.self-is, w.visit.ensures.reached, w.visit.ensures.visits, w.visit.ensures.room) (record {
            started = started_push s old.self.reached old.self.visits.items old.number v old.invariant.started c.at-node.ensures node high;
            room = old.invariant.room;
          }))
      | else-surplus-gt0 w ↦ (let low : surplus_at s v ≤ℤ pos 0 = omega (arith, ints, value, small, w.if-surplus-gt0.false) in
          rw w.self-is (record {
            started = started_skip s old.self.reached old.self.visits.items old.number v old.invariant.started c.at-node.ensures low;
            room = old.invariant.room;
          }))
    ]

pub returns-clause-sources : goal.returns-clause-sources
returns-clause-sources c =
    let nodes = ap node_count c.net.ensures.value in
    started_end c.args.state.now c.loop-number.self.reached c.loop-number.self.visits.items c.loop-number.number _ c.is_empty.result
    c.loop-number.invariant.started
    (omega (arith, nodes)) (omega arith) c.is_empty.ensures
