use Rattle.std.proofs.Common.{◌≡◌, ◌++◌, ◌+◌, List, drop, map}
use Rattle.mcf_model.specs.declared.rows.Step.{Step}
use Rattle.mcf_model.specs.Faults.{AreListed}
use Rattle.mcf_model.specs.Tables.{route_of}
use Rattle.mcf_places.specs.Kinds.{kind_route}
use Rattle.mcf_places.specs.Models.{routes_by}
use Rattle.mcf_places.proofs.rows.push_kind.Given as goal

abbrev pub invariant-loop-place : goal.invariant-loop-place
invariant-loop-place l = record {
  routes : (steps : List Step) → map (route_of steps) l.rows.items ++ routes_by (kind_route l.kind l.places l.policy) (l.place + 1) (drop l.place l.places)
      ≡ map (route_of steps) l.initial.rows.items ++ routes_by (kind_route l.kind l.places l.policy) 1 l.places;
  listed : (steps : List Step) → AreListed steps l.initial.rows.items → AreListed steps l.rows.items;
}
