use Rattle.std.proofs.Common.{◌≡◌, ◌++◌, drop, map}
use Rattle.mcf_instance.specs.Arrays.{arc_of_numbers}
use Rattle.mcf_model.specs.Arcs.{way}
use Rattle.mcf_model.proofs.arcs.push_way.Given as goal

abbrev pub invariant-loop-place : goal.invariant-loop-place
invariant-loop-place l =
    map arc_of_numbers l.arcs.items ++ way l.direction.tail l.direction.head l.rest (drop l.place l.steps) l.direction.last.most l.direction.last.cost
    ≡ map arc_of_numbers l.initial.arcs.items ++ way l.direction.tail l.direction.head l.direction.least l.steps l.direction.last.most l.direction.last.cost
