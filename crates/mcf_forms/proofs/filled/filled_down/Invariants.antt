use Rattle.std.proofs.Common.{◌≡◌, ◌-◌, ◌≤◌, map}
use Rattle.std.specs.List.{range_with_len}
use Rattle.std.specs.Prelude.{count_by}
use Rattle.mcf_forms.specs.Filled.{filled_row, takes, value_at}
use Rattle.mcf_forms.proofs.filled.filled_down.Given as goal

abbrev pub invariant-loop-row : goal.invariant-loop-row
invariant-loop-row l = record {
  rows : l.rows ≡ map (filled_row l.records l.place) (range_with_len 0 l.row);
  count : l.count ≡ count_by (takes l.records l.place) (range_with_len 0 l.row);
  few : l.count ≤ l.row;
  above : l.above ≡ value_at l.records l.place (l.row - 1);
}
