use Rattle.std.proofs.Common.{◌≡◌, ◌+◌, ◌++◌, List, drop, map}
use Rattle.std.specs.Prelude.{slice_index_or}
use Rattle.mcf_model.specs.declared.rows.Step.{Step}
use Rattle.mcf_model.specs.Faults.{AreListed}
use Rattle.mcf_model.specs.Tables.{route_of}
use Rattle.mcf_places.specs.declared.origins.Origin.{Origin}
use Rattle.mcf_places.specs.declared.origins.Origin.TheVariants.{OfAll}
use Rattle.mcf_places.specs.Origins.{route_origins}
use Rattle.mcf_places.proofs.origins.seek_route.Given as goal

abbrev pub invariant-loop-place : goal.invariant-loop-place
invariant-loop-place l =
    (steps : List Step) (others : List Origin) → AreListed steps l.rows
    → slice_index_or (route_origins (l.place + 1) (map (route_of steps) (drop l.place l.rows)) ++ others) l.left OfAll
    ≡ slice_index_or (route_origins 1 (map (route_of steps) l.rows) ++ others) l.arc OfAll
