use Rattle.std.proofs.Common.{◌≡◌, rules, to_z, of_z}
use mir.Syntax.{w128}
use Rattle.std.proofs.lemmas.Int.{to_z-of_z}
use Rattle.mcf_cancel.proofs.Cancelling.{cycle_can_push, cycle_positive}
use Rattle.mcf_cancel.proofs.cancel.cancel_cycle.Goals as goal

pub push_along-requires-clause-can : goal.push_along-requires-clause-can
push_along-requires-clause-can c =
    let same : to_z w128 (of_z w128 c.room_along-amount.result) ≡ c.room_along-amount.result = search (rules, to_z-of_z) in
    let room = c.room_along-amount.ensures in
    rw same (cycle_can_push c.args.state.now _ _ c.requires.cycle (cycle_positive c.args.state.now _ _ c.requires.cycle room.reached) room.each)

pub returns : goal.returns
returns c =
    let same : to_z w128 (of_z w128 c.room_along-amount.result) ≡ c.room_along-amount.result = search (rules, to_z-of_z) in
    let room = c.room_along-amount.ensures in
    record {
      amount = c.room_along-amount.result;
      each = room.each;
      reached = room.reached;
      pushed = rw same at c.push_along.ensures.value;
    }
