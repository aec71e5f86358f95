use Rattle.mcf_cancel.proofs.Cycles.{CycleAt}
use Rattle.mcf_cancel.proofs.price_search.PriceSearch.cycle.Given as goal

abbrev pub invariant-nodes : goal.invariant-nodes
invariant-nodes l = CycleAt l.self l.seen l.done l.number
