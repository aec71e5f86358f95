use Rattle.std.proofs.Common.{◌≡◌, take}
use Rattle.mcf_places.proofs.reading.copied.Given as goal

abbrev pub invariant-loop-place : goal.invariant-loop-place
invariant-loop-place l = l.made.items ≡ take l.place l.amounts
