use Rattle.std.proofs.Common.{◌≡◌, map, take}
use Rattle.mcf_units.specs.Wholes.{place_in}
use Rattle.mcf_units.proofs.rows.places_in.Given as goal

abbrev pub invariant-loop-place : goal.invariant-loop-place
invariant-loop-place l = l.made.items ≡ map (place_in l.scales) (take l.place l.places)
