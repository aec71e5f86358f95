use Rattle.std.proofs.Common.{◌≡◌, ◌++◌, drop, map}
use Rattle.mcf_instance.specs.Arrays.{arc_of_numbers}
use Rattle.mcf_model.specs.Arcs.{arcs_of}
use Rattle.mcf_model.specs.Tables.{route_of}
use Rattle.mcf_model.proofs.arcs.listed.Given as goal

abbrev pub invariant-loop-place : goal.invariant-loop-place
invariant-loop-place l =
    map arc_of_numbers l.arcs.items ++ arcs_of l.reach (drop l.place (map (route_of l.steps) l.rows)) ≡ arcs_of l.reach (map (route_of l.steps) l.rows)
