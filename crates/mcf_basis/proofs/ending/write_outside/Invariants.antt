use Rattle.std.proofs.Common.{◌≡◌, ℕ, ◌≤◌}
use Rattle.mcf_flows.specs.Network.{IsArcNumber}
use Rattle.mcf_network.specs.States.{amount_at}
use Rattle.mcf_basis.proofs.Endings.{outside_by}
use Rattle.mcf_basis.proofs.ending.write_outside.Given as goal

abbrev pub invariant-loop-i : goal.invariant-loop-i
invariant-loop-i l =
    record {
      net : l.state.net ≡ l.net;
      each : (k : ℕ) → IsArcNumber l.net k → k ≤ l.i → amount_at l.state k ≡ outside_by l.net l.offers k;
    }
