use Rattle.std.proofs.Common.{◌≡◌, true, map}
use Rattle.std.specs.List.{list_all, range_with_len}
use Rattle.mcf_forms.specs.Cells.{cell_at}
use Rattle.mcf_forms.specs.Sums.{is_readable, number_in}
use Rattle.mcf_forms.proofs.totals.numbers_above.Given as goal

abbrev pub invariant-loop-above : goal.invariant-loop-above
invariant-loop-above l = record {
  all : list_all (is_readable l.mark) (map (λ above. cell_at l.records above l.place) (range_with_len 1 l.above)) ≡ true;
  made : l.made.items ≡ map (number_in l.mark) (map (λ above. cell_at l.records above l.place) (range_with_len 1 l.above));
}
