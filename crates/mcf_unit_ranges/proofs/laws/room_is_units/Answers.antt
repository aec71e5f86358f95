use Rattle.mcf_unit_ranges.proofs.RoomUnits.{room_is_units_lem}
use Rattle.mcf_unit_ranges.proofs.laws.room_is_units.Goals as goal

pub returns : goal.returns
returns c = room_is_units_lem
