use Rattle.std.specs.List.{All}
use Rattle.mcf_network.specs.Stars.{Leaves}
use Rattle.mcf_feas.specs.Private.Pushing.{IsPushedOn}
use Rattle.mcf_feas.proofs.preflow.push_down.Given as goal

abbrev pub invariant-arcs : goal.invariant-arcs
invariant-arcs l =
    record {
      can_next : (goal.iterator-arcs).can_next l.along-iterator;
      is_finite : (goal.iterator-arcs).is_finite l.along-iterator;
      pushed : IsPushedOn l.initial.state l.state;
      leaves : All (Leaves l.initial.state.net l.fn.from) l.along-iterator;
    }
