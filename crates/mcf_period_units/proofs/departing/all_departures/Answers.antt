use Rattle.std.proofs.Common.{◌∙◌, ◌+◌, ◌++◌, [], ap, arith}
use Rattle.mcf_model.specs.declared.rows.RouteRow.{RouteRow}
use Rattle.mcf_period_reading.specs.declared.route_times.RouteTime.{RouteTime}
use Rattle.mcf_reading.proofs.Ranges.{pushed}
use Rattle.mcf_period_units.specs.DeparturesOver.{route_origins, route_row_at, row_departures}
use Rattle.mcf_period_units.specs.PeriodEntries.{route_time_at}
use Rattle.mcf_period_units.proofs.departing.all_departures.Goals as goal

pub loop-place-preserved : goal.loop-place-preserved
loop-place-preserved c =
    let place = c.loop-place.place in
    let rows = c.args.rows.now in
    let times = c.args.times.now in
    let numbers = c.args.numbers.now in
    let span = c.args.span in
    let last = span.last in
    let before = c.loop-place.made in
    let row_is = c.route_row_at-row.ensures in
    let time_is = c.route_time_at-time.ensures in
    record {
      rows = pushed (λ row. row_departures numbers span (route_row_at rows row) (route_time_at times row)) 1 place (place + 1) [] before.rows.items
          c.push_row.new.made.rows.items (omega arith) c.loop-place.invariant.rows
          (c.in_ok-push_row.ensures.rows
          ∙ ap (λ (r : RouteRow). before.rows.items ++ row_departures numbers span r c.route_time_at-time.result) row_is
          ∙ ap (λ (t : RouteTime). before.rows.items ++ row_departures numbers span (route_row_at rows (place + 1)) t) time_is);
      origins = pushed (λ row. route_origins row ((route_row_at rows row).both) last (route_time_at times row)) 1 place (place + 1) [] before.origins.items
          c.push_row.new.made.origins.items (omega arith) c.loop-place.invariant.origins
          (c.in_ok-push_row.ensures.origins
          ∙ ap (λ (r : RouteRow). before.origins.items ++ route_origins (place + 1) r.both last c.route_time_at-time.result) row_is
          ∙ ap (λ (t : RouteTime). before.origins.items ++ route_origins (place + 1) ((route_row_at rows (place + 1)).both) last t) time_is);
    }
