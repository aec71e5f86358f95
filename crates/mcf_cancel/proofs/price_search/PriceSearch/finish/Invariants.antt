use Rattle.std.proofs.Common.{vec_len}
use Rattle.mcf_cancel.proofs.Paths.{FinishAt}
use Rattle.mcf_cancel.proofs.price_search.PriceSearch.finish.Given as goal

abbrev pub invariant-path : goal.invariant-path
invariant-path l = FinishAt l.self l.fn.done l.done l.fn.path.items l.path.items

abbrev pub decreases-path : goal.decreases-path
decreases-path l = vec_len l.path
