use Rattle.std.proofs.Common.{◌≡◌, ◌++◌}
use Rattle.std.specs.List.{flat_map, range_with_len}
use Rattle.mcf_period_units.specs.DeparturesOver.{origins_in, rows_in_period}
use Rattle.mcf_period_units.proofs.departing.push_periods.Given as goal

abbrev pub invariant-loop-place : goal.invariant-loop-place
invariant-loop-place l = record {
  rows : l.made.rows.items ≡ l.initial.made.rows.items ++ flat_map (rows_in_period l.numbers l.line.span l.line.row l.line.lead) (range_with_len l.first l.place);
  origins : l.made.origins.items
      ≡ l.initial.made.origins.items ++ flat_map (origins_in l.line.number l.line.row.both l.line.lead) (range_with_len l.first l.place);
}
