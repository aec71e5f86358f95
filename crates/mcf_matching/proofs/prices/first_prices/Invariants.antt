use Rattle.mcf_matching.specs.Private.Keeping.{AreFirstPrices}
use Rattle.mcf_matching.proofs.prices.first_prices.Given as goal

abbrev pub invariant-nodes : goal.invariant-nodes
invariant-nodes g l = AreFirstPrices l.net l.prices.items l.number
