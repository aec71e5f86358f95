use Rattle.mcf_cancel.proofs.Rounding.{RoundAt}
use Rattle.mcf_cancel.proofs.price_search.PriceSearch.round.Given as goal

abbrev pub invariant-nodes : goal.invariant-nodes
invariant-nodes l = RoundAt l.fn.self l.self l.fn.fallen l.fallen l.waiting.nodes l.w-index
