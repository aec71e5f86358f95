use Rattle.mcf_range_text.specs.RoomRangeTexts.{IsRowRoom}
use Rattle.mcf_range_text.proofs.AreFirsts.{one_told}
use Rattle.mcf_range_text.proofs.rooms.room_ranges.Goals as goal

pub loop-place-preserved : goal.loop-place-preserved
loop-place-preserved g c =
    one_told (IsRowRoom c.args.planner.now c.args.least.now.shown) c.loop-place.place c.loop-place.made.items c.push.new.self.items c.in_ok-told.told
    c.loop-place.invariant c.in_ok-push.ensures.items c.in_ok-told.ensures
