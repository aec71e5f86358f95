use Rattle.std.proofs.Common.{◌≡◌, ◌++◌, map, take}
use Rattle.mcf_periods.specs.Flat.{stock_row}
use Rattle.mcf_periods.proofs.flattening.push_stores.Given as goal

abbrev pub invariant-loop-place : goal.invariant-loop-place
invariant-loop-place l = l.made.items ≡ l.initial.made.items ++ map (stock_row l.count) (take l.place l.stores)
