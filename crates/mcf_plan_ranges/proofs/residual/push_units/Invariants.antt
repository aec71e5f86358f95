use Rattle.std.proofs.Common.{◌≡◌, ◌++◌, map}
use Rattle.mcf_instance.specs.Arrays.{arc_of_numbers}
use Rattle.mcf_plan_ranges.proofs.Making.{slab}
use Rattle.mcf_plan_ranges.proofs.residual.push_units.Given as goal

abbrev pub invariant-loop-place : goal.invariant-loop-place
invariant-loop-place l =
    map arc_of_numbers l.arcs.items ++ slab l.place l.end l.model.routes l.carries
    ≡ map arc_of_numbers l.initial.arcs.items ++ slab l.first l.end l.model.routes l.carries
