use Rattle.std.proofs.Common.{◌≡◌, arith, rules, to_z, of_z}
use mir.Syntax.{w128}
use Rattle.std.proofs.lemmas.Int.{ints, to_z-of_z}
use Rattle.mcf_network.proofs.WalkLaws.{least_room_next, least_room_start}
use Rattle.mcf_network.proofs.walk.room_along.Goals as goal

pub loop-r-init : goal.loop-r-init
loop-r-init c =
    least_room_start c.args.state.now c.args.walk.now c.index-walk-0.result _ c.requires.some c.index-walk-0.is
    (omega (arith, ints, c.room-least.ensures.value, c.room-least.ensures.low, c.room-least.ensures.high))

pub loop-r-preserved : goal.loop-r-preserved
loop-r-preserved c =
    let same : to_z w128 (of_z w128 c.min-least.result) ≡ c.min-least.result = search (rules, to_z-of_z) in
    let given : to_z w128 (of_z w128 c.room.result) ≡ c.room.result = search (rules, to_z-of_z) in
    rw same (least_room_next c.args.state.now c.args.walk.now c.loop-r.r-index c.r-item.result
    (to_z w128 c.loop-r.least-bits) c.room.result c.min-least.result c.loop-r.invariant c.loop-r-test.true c.r-item.is c.room.ensures.value
    (rw given at c.min-least.ensures.value))

pub returns : goal.returns
returns c =
    record {
      each = λ k d h. c.loop-r.invariant.each k d (omega (arith, c.loop-r-test.false, h));
      reached = c.loop-r.invariant.reached;
    }
