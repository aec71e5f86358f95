use Rattle.std.proofs.Common.{◌≡◌, map, take}
use Rattle.mcf_c.specs.DoubleMatrices.{wide_value}
use Rattle.mcf_c.proofs.wide.numbers_of.Given as goal

abbrev pub invariant-loop-place : goal.invariant-loop-place
invariant-loop-place l = l.numbers.items ≡ map wide_value (take l.place l.wides)
