use Rattle.std.proofs.Common.{◌≡◌, drop, max}
use Rattle.mcf_forms.specs.Sums.{scale_of}
use Rattle.mcf_forms.proofs.sums.scale_of.Given as goal

abbrev pub invariant-loop-place : goal.invariant-loop-place
invariant-loop-place l = max l.scale (scale_of (drop l.place l.numbers)) ≡ scale_of l.numbers
