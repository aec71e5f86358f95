use Rattle.std.proofs.Common.{◌∙◌, ◌+◌, ◌++◌, ap, arith}
use Rattle.mcf_reading.proofs.Ranges.{pushed}
use Rattle.mcf_period_reading.specs.declared.place_times.PlaceTime.{PlaceTime}
use Rattle.mcf_period_units.specs.PeriodGreats.{great_row, great_time}
use Rattle.mcf_period_units.proofs.greats.push_rows.Goals as goal

pub loop-place-preserved : goal.loop-place-preserved
loop-place-preserved c =
    let place = c.loop-place.place in
    pushed (great_row c.args.scales c.args.times.now) 1 place (place + 1) c.args.found.now.items c.loop-place.found.items
    c.push_time.new.found.items (omega arith) c.loop-place.invariant
    (c.in_ok-push_time.ensures ∙ ap (λ (t : PlaceTime). c.loop-place.found.items ++ great_time c.args.scales (place + 1) t) c.time_at.ensures)
