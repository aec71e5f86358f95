use Rattle.std.proofs.Common.{◌≡◌, arith}
use Rattle.mcf_roster_reading.proofs.MarkLemmas.{seen_is}
use Rattle.mcf_roster_reading.proofs.marks.shown_marks.Goals as goal

pub with_cell-marks-requires : goal.with_cell-marks-requires
with_cell-marks-requires c =
    let place = c.loop-pair.pair-index in
    let seen : c.loop-pair.marks.seen ≡ place =
    seen_is c.args.records.now c.args.pairs.now place c.loop-pair.marks (omega arith) c.loop-pair.invariant in
    omega (arith, seen)
