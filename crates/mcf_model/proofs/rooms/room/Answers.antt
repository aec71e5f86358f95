use Rattle.std.proofs.Common.{◌≡◌, arith, w64, to_z, of_z}
use Rattle.std.proofs.lemmas.Int.{ints}
use Rattle.mcf_model.proofs.RoomSums.{room_plus}
use Rattle.mcf_model.proofs.rooms.room.Goals as goal

pub returns : goal.returns
returns c =
    let most : to_z w64 (of_z w64 c.args.most) ≡ c.args.most = omega (arith, ints, c.ranges.most.sfits) in
    omega (arith, ints, c.rooms.ensures, room_plus c.args.own.now c.args.most, c.rooms.type_inv)
