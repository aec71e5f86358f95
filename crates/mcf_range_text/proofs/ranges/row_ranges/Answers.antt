use Rattle.mcf_range_text.specs.RangeTexts.{IsRowRange}
use Rattle.mcf_range_text.proofs.AreFirsts.{one_told}
use Rattle.mcf_range_text.proofs.ranges.row_ranges.Goals as goal

pub loop-place-preserved : goal.loop-place-preserved
loop-place-preserved c =
    one_told (IsRowRange c.args.planner.now c.args.least.now) c.loop-place.place c.loop-place.made.items c.push.new.self.items c.in_ok-told.told
    c.loop-place.invariant c.in_ok-push.ensures.items c.in_ok-told.ensures
