use Rattle.std.proofs.Common.{◌≤◌, ℕ}
use Rattle.mcf_flows.specs.Network.{IsArcNumber}
use Rattle.mcf_matching.specs.Matchings.{row_of}
use Rattle.mcf_matching.specs.Private.Updating.{DoesArcFit}
use Rattle.mcf_matching.proofs.judging.do_rows_fit.Given as goal

abbrev pub invariant-nodes : goal.invariant-nodes
invariant-nodes l =
    (k : ℕ) → IsArcNumber l.scene.state.now.net k → row_of l.scene.state.now k ≤ l.number → DoesArcFit l.scene.state.now l.prices k
