use Rattle.std.proofs.Common.{ℕ, ℤ, List, [], length}
use Rattle.mcf_network.specs.States.{Pseudoflow}
use Rattle.mcf_matching.specs.Matchings.{IsPartialMatching}
use Rattle.mcf_matching.specs.Private.Rooms.{KeepsSettled}
use Rattle.mcf_matching.specs.Private.Searches.{IsSearch, search_of}
use Rattle.mcf_matching.proofs.search.Tables.nearest.Given as goal

abbrev pub invariant-offers : goal.invariant-offers
invariant-offers g l =
    record {
      search : (s : Pseudoflow) (y : List ℤ) (source : ℕ) → IsPartialMatching s → IsSearch s y (search_of l.fn.self) source []
          → IsSearch s y (search_of l.self) source [];
      kept : KeepsSettled 0 l.fn.self l.self;
    }

abbrev pub decreases-offers : goal.decreases-offers
decreases-offers g l = length l.self.offers.items
