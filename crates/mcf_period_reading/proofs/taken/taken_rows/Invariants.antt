use Rattle.std.proofs.Common.{◌≡◌, map, take}
use Rattle.std.specs.List.{range_with_len}
use Rattle.mcf_period_reading.specs.PlaceTimes.{is_taken}
use Rattle.mcf_period_reading.specs.Seen.{HasSeen}
use Rattle.mcf_period_reading.proofs.taken.taken_rows.Given as goal

abbrev pub invariant-loop-place : goal.invariant-loop-place
invariant-loop-place l = record {
  made : l.made.items ≡ map (is_taken l.all) (range_with_len 1 l.place);
  seen : HasSeen (take l.place l.all) l.places l.spots;
}
