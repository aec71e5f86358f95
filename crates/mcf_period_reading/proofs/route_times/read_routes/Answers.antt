use Rattle.std.proofs.Common.{◌∙◌, ◌+◌, ◌++◌, ◌∷◌, [], ap, arith}
use Rattle.mcf_table.specs.Heads.{cells_of}
use Rattle.mcf_reading.proofs.Ranges.{made, pushed}
use Rattle.mcf_period_reading.specs.RouteTimes.{route_faults, route_time}
use Rattle.mcf_period_reading.specs.declared.route_times.RouteTime.{RouteTime}
use Rattle.mcf_period_reading.proofs.route_times.read_routes.Goals as goal

pub loop-place-preserved : goal.loop-place-preserved
loop-place-preserved c =
    let records = c.args.records.now in
    let place = c.loop-place.place in
    let before = c.loop-place.made.items in
    let format = c.args.format in
    let periods = c.args.periods.now in
    record {
      times = made (λ row. route_time format periods (cells_of records row)) 1 place (place + 1) before c.push.new.self.items (omega arith)
          c.loop-place.invariant.times (c.in_ok-push.ensures.items ∙ ap (λ (time : RouteTime). before ++ time ∷ []) c.route_time.ensures);
      faults = pushed (λ row. route_faults format periods row (cells_of records row)) 1 place (place + 1) c.args.faults.now.items c.loop-place.faults.items
          c.push_faults.new.faults.items (omega arith) c.loop-place.invariant.faults c.in_ok-push_faults.ensures;
    }
