use Rattle.std.proofs.Common.{◌≡◌, take}
use Rattle.mcf_period_units.specs.Numbering.{spots_of}
use Rattle.mcf_period_units.proofs.numbering.spots_of.Given as goal

abbrev pub invariant-loop-place : goal.invariant-loop-place
invariant-loop-place l = l.made.items ≡ spots_of (take l.place l.times)
