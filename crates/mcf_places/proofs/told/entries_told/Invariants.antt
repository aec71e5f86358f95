use Rattle.std.proofs.Common.{◌≡◌, map}
use Rattle.std.specs.List.{range_with_len}
use Rattle.mcf_flows.specs.Blocking.{in_table}
use Rattle.mcf_model.specs.Complements.{turned_if}
use Rattle.mcf_places.proofs.told.entries_told.Given as goal

abbrev pub invariant-loop-place : goal.invariant-loop-place
invariant-loop-place l = l.made.items ≡ map (λ v. turned_if l.turned (in_table l.table v)) (range_with_len 1 l.place)
