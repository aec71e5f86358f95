use Rattle.std.proofs.Common.{◌≡◌, length, take}
use Rattle.mcf_c.proofs.handing.put_prices.Given as goal

abbrev pub invariant-loop-i : goal.invariant-loop-i
invariant-loop-i l = record {
  same : length l.room ≡ length l.prices;
  written : take l.i l.room ≡ take l.i l.prices;
}
