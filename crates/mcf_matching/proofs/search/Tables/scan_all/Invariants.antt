use Rattle.mcf_matching.proofs.Relaxing.{IsScanned}
use Rattle.mcf_matching.proofs.search.Tables.scan_all.Given as goal

abbrev pub invariant-arcs : goal.invariant-arcs
invariant-arcs g l =
    record {
      can_next : (goal.iterator-arcs g).can_next l.leaving-iterator;
      is_finite : (goal.iterator-arcs g).is_finite l.leaving-iterator;
      scanned : IsScanned l.fn.scene.state.now l.fn.scene.prices.now l.fn.self l.self l.fn.row.id l.leaving-iterator;
    }
