use Rattle.mcf_period_reading.proofs.SpotsRead.{spots_read}
use Rattle.mcf_period_reading.proofs.reading.spots_in.Goals as goal

pub returns : goal.returns
returns c =
    spots_read c.args.places.now c.time_columns-columns.result _ _ c.args.periods.now c.spots.result c.time_columns-columns.ensures c.in_ok-names.ensures
    c.in_ok-cells_under.ensures c.requires c.spots.ensures
