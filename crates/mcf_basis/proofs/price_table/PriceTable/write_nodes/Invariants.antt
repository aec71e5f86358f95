use Rattle.std.proofs.Common.{◌≡◌, ℕ, ◌+◌, ◌<◌, get_or, pos}
use Rattle.mcf_basis.proofs.price_table.PriceTable.write_nodes.Given as goal

abbrev pub invariant-loop-i : goal.invariant-loop-i
invariant-loop-i l = (k : ℕ) → k < l.i → get_or l.prices k (pos 0) ≡ get_or l.self.prices (1 + k) (pos 0)
