use Rattle.std.proofs.Common.{◌≡◌, ◌++◌, ◌-◌, length}
use Rattle.std.specs.List.{flat_map, range_with_len}
use Rattle.mcf_answer_rows.specs.Lines.{rows_text}
use Rattle.mcf_range_text.specs.RoomRangeTexts.{room_range_at, room_range_rows}
use Rattle.mcf_range_text.proofs.unit_rows.put_rooms.Given as goal

abbrev pub invariant-loop-place : goal.invariant-loop-place
invariant-loop-place l =
    l.out.items ++ rows_text (flat_map (room_range_at l.scales l.routes l.ranges) (range_with_len l.place (length l.ranges - l.place)))
    ≡ l.initial.out.items ++ rows_text (room_range_rows l.scales l.routes l.ranges)
