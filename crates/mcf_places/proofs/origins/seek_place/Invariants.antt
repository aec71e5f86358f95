use Rattle.std.proofs.Common.{◌≡◌, ◌+◌, ◌++◌, List, drop}
use Rattle.std.specs.Prelude.{slice_index_or}
use Rattle.mcf_places.specs.declared.origins.Origin.{Origin}
use Rattle.mcf_places.specs.declared.origins.Origin.TheVariants.{OfAll}
use Rattle.mcf_places.specs.Origins.{place_origins}
use Rattle.mcf_places.proofs.origins.seek_place.Given as goal

abbrev pub invariant-loop-place : goal.invariant-loop-place
invariant-loop-place l =
    (others : List Origin) → slice_index_or (place_origins l.kind l.policy (l.place + 1) (drop l.place l.places) ++ others) l.left OfAll
    ≡ slice_index_or (place_origins l.kind l.policy 1 l.places ++ others) l.arc OfAll
