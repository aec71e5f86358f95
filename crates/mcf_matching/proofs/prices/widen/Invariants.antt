use Rattle.std.proofs.Common.{◌≡◌, ◌<◌, ℕ, length, get_or, pos}
use Rattle.mcf_matching.proofs.prices.widen.Given as goal

abbrev pub invariant-nodes : goal.invariant-nodes
invariant-nodes g l =
    record {
      count : length l.wide ≡ length l.prices;
      before : (j : ℕ) → j < l.i → get_or l.wide j (pos 0) ≡ get_or l.prices j (pos 0);
    }
