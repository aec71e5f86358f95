use Rattle.std.proofs.Common.{◌+◌, refl}
use Rattle.mcf_reading.proofs.Ranges.{pushed}
use Rattle.mcf_period_units.specs.DeparturesOver.{origins_in, rows_in_period}
use Rattle.mcf_period_units.proofs.departing.push_periods.Goals as goal

pub loop-place-preserved : goal.loop-place-preserved
loop-place-preserved c =
    let place = c.loop-place.place in
    let first = c.args.first in
    let line = c.args.line in
    record {
      rows = pushed (rows_in_period c.args.numbers.now line.span line.row line.lead) first place (first + place) c.args.made.now.rows.items c.loop-place.made.rows.items
          c.push_period.new.made.rows.items refl c.loop-place.invariant.rows c.in_ok-push_period.ensures.rows;
      origins = pushed (origins_in line.number line.row.both line.lead) first place (first + place) c.args.made.now.origins.items
          c.loop-place.made.origins.items c.push_period.new.made.origins.items refl c.loop-place.invariant.origins c.in_ok-push_period.ensures.origins;
    }
