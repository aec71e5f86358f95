use Rattle.mcf_matching.specs.Private.Searches.{search_of}
use Rattle.mcf_matching.proofs.Raising.{AreRaisedUpTo}
use Rattle.mcf_matching.proofs.search.Tables.raise.Given as goal

abbrev pub invariant-nodes : goal.invariant-nodes
invariant-nodes g l = AreRaisedUpTo (search_of l.self) l.fn.target l.fn.prices l.prices l.self.order.items l.v-index
