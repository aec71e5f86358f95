use Rattle.std.specs.List.{All}
use Rattle.mcf_network.specs.Stars.{Leaves}
use Rattle.mcf_feas.proofs.preflow.relabel.Given as goal

abbrev pub invariant-arcs : goal.invariant-arcs
invariant-arcs l =
    record {
      can_next : (goal.iterator-arcs).can_next l.along-iterator;
      is_finite : (goal.iterator-arcs).is_finite l.along-iterator;
      leaves : All (Leaves l.state.net l.fn.node) l.along-iterator;
    }
