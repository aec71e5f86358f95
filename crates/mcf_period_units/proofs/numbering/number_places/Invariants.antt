use Rattle.std.proofs.Common.{◌≡◌, map}
use Rattle.std.specs.Prelude.{filter}
use Rattle.std.specs.List.{range_with_len}
use Rattle.mcf_period_units.specs.Numbering.{names_first, place_number_of}
use Rattle.mcf_period_units.proofs.numbering.number_places.Given as goal

abbrev pub invariant-loop-place : goal.invariant-loop-place
invariant-loop-place l = record {
  firsts : l.firsts.items ≡ filter (names_first l.times) (range_with_len 1 l.place);
  numbers : l.numbers.items ≡ map (place_number_of l.times) (range_with_len 1 l.place);
}
