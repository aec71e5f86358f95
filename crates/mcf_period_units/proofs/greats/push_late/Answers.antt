use Rattle.std.proofs.Common.{◌∙◌, ◌+◌, ◌++◌, List, ap, arith}
use Rattle.mcf_reading.proofs.Ranges.{pushed}
use Rattle.mcf_period_reading.specs.declared.route_times.RouteTime.{RouteTime}
use Rattle.mcf_period_units.specs.PeriodGreats.{late_fault}
use Rattle.mcf_period_units.proofs.greats.push_late.Goals as goal

pub loop-place-preserved : goal.loop-place-preserved
loop-place-preserved c =
    let place = c.loop-place.place in
    pushed (late_fault c.len-last.result c.args.times.now.routes.items) 1 place (place + 1) c.args.found.now.items c.loop-place.found.items
    c.push_if_late.new.found.items (omega arith) c.loop-place.invariant
    (c.in_ok-push_if_late.ensures ∙ ap (λ (ts : List RouteTime). c.loop-place.found.items ++ late_fault c.len-last.result ts (place + 1)) c.deref.ensures.value)
