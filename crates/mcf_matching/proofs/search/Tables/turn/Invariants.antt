use Rattle.mcf_matching.specs.Private.Forests.{IsTurning, place}
use Rattle.mcf_matching.specs.Matchings.{row_of}
use Rattle.mcf_matching.specs.Private.Searches.{search_of}
use Rattle.mcf_matching.proofs.search.Tables.turn.Given as goal

abbrev pub invariant-path : goal.invariant-path
invariant-path g l = IsTurning l.fn.state l.state l.mates (search_of l.self) l.self.order.items l.fn.target l.arc

abbrev pub decreases-path : goal.decreases-path
decreases-path g l = place l.self.order.items (row_of l.state l.arc)
