use Rattle.std.proofs.Common.{map, take}
use Rattle.mcf_matching.specs.Private.Rooms.{KeepsSettled}
use Rattle.mcf_matching.specs.Private.RowLists.{forward_of}
use Rattle.mcf_matching.specs.Private.Searches.{AreRelaxed, search_of}
use Rattle.mcf_matching.proofs.search.Tables.scan_kept.Given as goal

abbrev pub invariant-arcs : goal.invariant-arcs
invariant-arcs g l =
    record {
      relaxed : AreRelaxed l.fn.scene.state.now l.fn.scene.prices.now (search_of l.fn.self) (search_of l.self) (map forward_of (take l.a-index l.list));
      kept : KeepsSettled l.a-index l.fn.self l.self;
    }
