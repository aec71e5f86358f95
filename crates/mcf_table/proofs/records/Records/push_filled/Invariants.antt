use Rattle.std.proofs.Common.{◌≡◌, ◌<◌, ◌++◌, ◌-◌, length}
use Rattle.mcf_table.specs.Heads.{cells_of, filled_from, in_row}
use Rattle.mcf_table.proofs.HeadLemmas.{cells_left}
use Rattle.mcf_table.proofs.records.Records.push_filled.Given as goal

abbrev pub invariant-cells : goal.invariant-cells
invariant-cells l = record {
  row : l.row < length l.self;
  count : l.count ≡ length (cells_of l.self l.row);
  left : l.found.items ++ cells_left (cells_of l.self l.row) l.row l.place
      ≡ l.initial.found.items ++ in_row l.row (filled_from l.first (cells_of l.self l.row));
}

abbrev pub decreases-cells : goal.decreases-cells
decreases-cells l = l.count - l.place
