use Rattle.std.specs.Prelude.{List}
use Rattle.mcf_flows.specs.Network.{node_count}
use Rattle.mcf_network.specs.declared.rid.Rid.{Rid}
use Rattle.mcf_engine.specs.Private.Raisings.{IsLastSettled, IsRaising, KeepsSettled}
use Rattle.mcf_engine.specs.Private.Shortlists.{HasChain, IsChain}
use Rattle.mcf_engine.proofs.near_state.NearState.scan_chain.Given as goal

abbrev pub invariant-entries : goal.invariant-entries
invariant-entries l =
    record {
      chain : IsChain l.fn.self.state.now.net l.fn.entries l.fn.w l.cursor;
      search : (rest : List Rid) → HasChain l.fn.self.state.now.net l.fn.entries l.fn.w l.cursor rest
          → IsRaising l.fn.self l.heap rest;
      last : IsLastSettled (node_count l.fn.self.state.now.net) l.heap l.fn.w;
      kept : KeepsSettled (node_count l.fn.self.state.now.net) l.fn.heap l.heap;
    }

abbrev pub decreases-entries : goal.decreases-entries
decreases-entries l = l.cursor
