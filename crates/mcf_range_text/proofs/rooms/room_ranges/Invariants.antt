use Rattle.mcf_range_text.specs.RoomRangeTexts.{IsRowRoom}
use Rattle.mcf_range_text.proofs.AreFirsts.{AreFirst}
use Rattle.mcf_range_text.proofs.rooms.room_ranges.Given as goal

abbrev pub invariant-loop-place : goal.invariant-loop-place
invariant-loop-place g l = AreFirst (IsRowRoom l.planner l.least.shown) l.place l.made.items
