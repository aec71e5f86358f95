use Rattle.std.specs.List.{All}
use Rattle.mcf_network.specs.Stars.{Leaves}
use Rattle.mcf_cancel.proofs.Relaxing.{IsEntering}
use Rattle.mcf_cancel.proofs.price_search.PriceSearch.relax_entering.Given as goal

abbrev pub invariant-entering : goal.invariant-entering
invariant-entering l =
    record {
      can_next : (goal.iterator-entering).can_next l.leaving-iterator;
      is_finite : (goal.iterator-entering).is_finite l.leaving-iterator;
      leaves : All (Leaves l.fn.self.flow.net l.fn.w) l.leaving-iterator;
      entering : IsEntering l.fn.self l.self l.fn.fallen l.fallen l.fn.w l.leaving-iterator;
    }
