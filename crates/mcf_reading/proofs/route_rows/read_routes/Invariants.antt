use Rattle.std.proofs.Common.{◌≡◌, ◌++◌, All, map}
use Rattle.std.specs.List.{flat_map, range_with_len}
use Rattle.mcf_table.specs.Heads.{cells_of}
use Rattle.mcf_reading.specs.Private.Found.{IsWithin, route_in}
use Rattle.mcf_reading.specs.RouteRows.{route_entry, route_faults}
use Rattle.mcf_reading.proofs.route_rows.read_routes.Given as goal

abbrev pub invariant-loop-place : goal.invariant-loop-place
invariant-loop-place l = record {
  within : All (IsWithin l.routes.steps.items) l.routes.rows.items;
  routes : map (route_in l.routes.steps.items) l.routes.rows.items
      ≡ map (λ row. route_entry l.format.mark l.format.columns l.format.steps.now l.names (cells_of l.records row)) (range_with_len 1 l.place);
  faults : l.faults.items
      ≡ l.initial.faults.items ++ flat_map (λ row. route_faults l.format.mark l.format.columns l.format.steps.now l.names row (cells_of l.records row)) (range_with_len 1 l.place);
}
