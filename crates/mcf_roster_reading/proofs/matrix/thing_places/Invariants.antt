use Rattle.std.proofs.Common.{◌≡◌}
use Rattle.std.specs.Prelude.{filter}
use Rattle.std.specs.List.{range_with_len}
use Rattle.mcf_roster_reading.specs.Layouts.{is_thing}
use Rattle.mcf_roster_reading.proofs.matrix.thing_places.Given as goal

abbrev pub invariant-loop-place : goal.invariant-loop-place
invariant-loop-place l = l.made.items ≡ filter (is_thing l.records) (range_with_len 1 l.place)
