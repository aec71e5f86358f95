use Rattle.std.proofs.Common.{◌≡◌, ◌++◌}
use Rattle.std.specs.List.{flat_map, range_with_len}
use Rattle.mcf_forms.specs.Matrices.{route_in}
use Rattle.mcf_forms.proofs.matrices.push_routes.Given as goal

abbrev pub invariant-loop-place : goal.invariant-loop-place
invariant-loop-place l = l.made ≡ l.initial.made ++ flat_map (route_in l.routes l.row) (range_with_len 1 l.place)
