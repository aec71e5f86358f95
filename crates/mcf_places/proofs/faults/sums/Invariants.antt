use Rattle.std.proofs.Common.{◌≡◌, ◌*◌, ◌^◌, take, pos, ◌≤ℤ◌}
use Rattle.mcf_places.specs.Planners.{all_given, all_wanted}
use Rattle.mcf_places.proofs.faults.sums.Given as goal

abbrev pub invariant-loop-place : goal.invariant-loop-place
invariant-loop-place l = record {
  given : l.totals.given ≡ all_given (take l.place l.places);
  wanted : l.totals.wanted ≡ all_wanted (take l.place l.places);
  given_low : pos 0 ≤ℤ all_given (take l.place l.places);
  given_high : all_given (take l.place l.places) ≤ℤ pos (l.place * 2 ^ 63);
  wanted_low : pos 0 ≤ℤ all_wanted (take l.place l.places);
  wanted_high : all_wanted (take l.place l.places) ≤ℤ pos (l.place * 2 ^ 63);
}
