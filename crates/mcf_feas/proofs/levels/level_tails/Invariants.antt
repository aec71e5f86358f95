use Rattle.std.specs.List.{All}
use Rattle.mcf_network.specs.Stars.{Leaves}
use Rattle.mcf_feas.proofs.levels.level_tails.Given as goal

abbrev pub invariant-tails : goal.invariant-tails
invariant-tails l =
    record {
      can_next : (goal.iterator-tails).can_next l.along-iterator;
      is_finite : (goal.iterator-tails).is_finite l.along-iterator;
      leaves : All (Leaves l.state.net l.fn.node) l.along-iterator;
    }
