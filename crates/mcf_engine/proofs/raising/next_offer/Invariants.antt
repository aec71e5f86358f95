use Rattle.std.specs.Prelude.{length}
use Rattle.std.specs.List.{All}
use Rattle.mcf_flows.specs.Network.{IsArcNumber}
use Rattle.mcf_network.specs.declared.rid.Rid.{Rid}
use Rattle.mcf_engine.specs.Private.Raisings.{ArePassed}
use Rattle.mcf_engine.proofs.raising.next_offer.Given as goal

abbrev pub invariant-arcs : goal.invariant-arcs
invariant-arcs l =
    record {
      arcs : All (λ (r : Rid). IsArcNumber l.fn.state.net r.arc) l.leaving;
      passed : ArePassed l.fn.state l.passed l.fn.leaving l.leaving;
    }

abbrev pub decreases-arcs : goal.decreases-arcs
decreases-arcs l = length l.leaving
