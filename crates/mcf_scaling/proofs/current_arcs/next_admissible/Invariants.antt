use Rattle.std.proofs.Common.{◌-◌, ◌≤◌, ◌⊎◌}
use Rattle.std.specs.List.{All, Contains}
use Rattle.mcf_network.specs.declared.rid.Rid.{Rid}
use Rattle.mcf_network.specs.Stars.{Leaves}
use Rattle.mcf_scaling.specs.Optimality.{IsAdmissible}
use Rattle.mcf_scaling.specs.Private.CurrentArcs.{rest_from}
use Rattle.mcf_scaling.specs.Private.Stars.{span_of}
use Rattle.mcf_scaling.proofs.current_arcs.next_admissible.Given as goal

abbrev pub invariant-looking : goal.invariant-looking
invariant-looking l =
    record {
      within : l.i ≤ (span_of l.fn.star l.fn.v).end;
      leaves : All (Leaves l.fn.state.net l.fn.v) (rest_from l.fn.star l.fn.v l.i);
      passed : (r : Rid) → Contains (rest_from l.fn.star l.fn.v l.fn.current) r → (¬ IsAdmissible l.fn.state l.fn.prices r)
          ⊎ Contains (rest_from l.fn.star l.fn.v l.i) r;
    }

abbrev pub decreases-looking : goal.decreases-looking
decreases-looking l = (span_of l.fn.star l.fn.v).end - l.i
