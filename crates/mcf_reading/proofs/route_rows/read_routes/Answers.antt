use Rattle.std.proofs.Common.{◌+◌, arith}
use Rattle.mcf_table.specs.Heads.{cells_of}
use Rattle.mcf_reading.specs.RouteRows.{route_entry, route_faults}
use Rattle.mcf_reading.proofs.Ranges.{made, pushed}
use Rattle.mcf_reading.proofs.route_rows.read_routes.Goals as goal

pub loop-place-preserved : goal.loop-place-preserved
loop-place-preserved c =
    let records = c.args.records.now in
    let place = c.loop-place.place in
    let format = c.args.format in
    let names = c.args.names.now in
    record {
      within = c.in_ok-read_row.ensures.within;
      routes = made (λ row. route_entry format.mark format.columns format.steps.now names (cells_of records row)) 1 place (place + 1) _ _ (omega arith)
          c.loop-place.invariant.routes c.in_ok-read_row.ensures.routes;
      faults = pushed (λ row. route_faults format.mark format.columns format.steps.now names row (cells_of records row)) 1 place (place + 1) c.args.faults.now.items
          c.loop-place.faults.items c.read_row.new.faults.items (omega arith) c.loop-place.invariant.faults c.in_ok-read_row.ensures.faults;
    }
