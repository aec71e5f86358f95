use Rattle.std.proofs.Common.{◌+◌, ◌*◌}
use Rattle.mcf_basis.specs.Private.Offered.{reduced_of}
use Rattle.mcf_basis.proofs.LeastOffers.{IsLeastSoFar}
use Rattle.mcf_basis.proofs.least_offer.least_offer.Given as goal

abbrev pub invariant-pairs : goal.invariant-pairs
invariant-pairs g l = IsLeastSoFar (reduced_of l.prices l.offers) l.begin (l.begin + 2 * l.pair) l.best.place l.best.reduced
