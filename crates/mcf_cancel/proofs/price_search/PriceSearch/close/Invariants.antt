use Rattle.std.proofs.Common.{◌≡◌, ℕ, ◌<◌, get_or}
use Rattle.mcf_network.specs.declared.rid.Rid.{Rid}
use Rattle.mcf_network.specs.Residual.{tail}
use Rattle.mcf_cancel.proofs.price_search.PriceSearch.close.Given as goal

abbrev pub invariant-path : goal.invariant-path
invariant-path l = (j : ℕ) (d : Rid) → j < l.k → tail l.self.flow.net (get_or l.path j d) ≡ l.u → ⊥
