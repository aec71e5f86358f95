use Rattle.std.proofs.Common.{◌≡◌, ◌++◌, List, drop, map}
use Rattle.mcf_model.specs.declared.rows.Step.{Step}
use Rattle.mcf_model.specs.Faults.{AreListed}
use Rattle.mcf_model.specs.Tables.{route_of}
use Rattle.mcf_places.specs.Models.{from_exit}
use Rattle.mcf_places.proofs.rows.push_exits.Given as goal

abbrev pub invariant-loop-place : goal.invariant-loop-place
invariant-loop-place l = record {
  routes : (steps : List Step) → map (route_of steps) l.rows.items ++ map (from_exit l.places) (map (route_of steps) (drop l.place l.lent))
      ≡ map (route_of steps) l.initial.rows.items ++ map (from_exit l.places) (map (route_of steps) l.lent);
  listed : (steps : List Step) → AreListed steps l.lent → AreListed steps l.initial.rows.items → AreListed steps l.rows.items;
}
