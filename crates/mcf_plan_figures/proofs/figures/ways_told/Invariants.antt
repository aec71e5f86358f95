use Rattle.std.proofs.Common.{◌≡◌, map}
use Rattle.std.specs.List.{range_with_len}
use Rattle.mcf_plan_figures.specs.Told.{way_told}
use Rattle.mcf_plan_figures.proofs.figures.ways_told.Given as goal

abbrev pub invariant-loop-place : goal.invariant-loop-place
invariant-loop-place l = l.made.items ≡ map (way_told l.shown l.groups) (range_with_len 1 l.place)
