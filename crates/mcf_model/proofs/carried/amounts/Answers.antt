use Rattle.std.proofs.Common.{◌≡◌, ◌++◌, ◌∷◌, [], arith, ap, map, ◌∙◌, to_z, of_z}
use Rattle.std.specs.Int.{w128}
use Rattle.std.proofs.lemmas.Int.{ints}
use Rattle.mcf_model.specs.Arcs.{plan_of}
use Rattle.mcf_model.specs.Tables.{route_of}
use Rattle.mcf_model.proofs.RowSteps.{among, arcs_left_at, route_at}
use Rattle.mcf_model.proofs.Reading.{plan_step}
use Rattle.mcf_model.proofs.carried.amounts.Goals as goal

pub split_at-requires : goal.split_at-requires
split_at-requires c =
    let left = arcs_left_at c.args.steps.now c.args.rows.now c.loop-place.place _ c.own_steps-own.result.now c.loop-place-test.true c.own_steps-own.ensures in
    omega (arith, left, c.loop-place.invariant.long, c.way_length.ensures)

pub split_at-requires-in-loop-place : goal.split_at-requires-in-loop-place
split_at-requires-in-loop-place c =
    let left = arcs_left_at c.args.steps.now c.args.rows.now c.loop-place.place _ c.own_steps-own.result.now c.loop-place-test.true c.own_steps-own.ensures in
    omega (arith, left, c.loop-place.invariant.long, c.way_length.ensures, c.back_length.ensures, c.split_at.ensures.back_len)

pub loop-place-preserved : goal.loop-place-preserved
loop-place-preserved c =
    let left = arcs_left_at c.args.steps.now c.args.rows.now c.loop-place.place _ c.own_steps-own.result.now c.loop-place-test.true c.own_steps-own.ensures in
    let x : to_z w128 (of_z w128 c.difference-carried.result) ≡ c.difference-carried.result = omega (arith, ints, c.difference-carried.type_inv) in
    record {
      same = plan_step (map (route_of c.args.steps.now) c.args.rows.now) c.loop-place.place _ c.loop-place.rest.now
          (among c.args.steps.now c.args.rows.now c.loop-place.place _ c.own_steps-own.result.now c.loop-place-test.true c.own_steps-own.ensures)
          (route_at c.args.steps.now c.args.rows.now c.loop-place.place _ c.own_steps-own.result.now c.loop-place-test.true c.own_steps-own.ensures)
          c.way_length.result c.back_length.result c.way_length.ensures c.back_length.ensures c.split_at.result.0.now c.split_at.result.1.now
          c.split_at-in-loop-place.result.0.now c.split_at-in-loop-place.result.1.now c.split_at.ensures.front c.split_at.ensures.back
          c.split_at-in-loop-place.ensures.front c.split_at-in-loop-place.ensures.back c.difference-carried.result c.difference-carried.ensures
          c.loop-place.plan.items c.push.new.self.items (plan_of (map (route_of c.args.steps.now) c.args.rows.now) c.args.flow.now)
          (c.in_ok-push.ensures.items ∙ ap (λ y. c.loop-place.plan.items ++ y ∷ []) x) c.loop-place.invariant.same;
      long = omega (
        arith,
        left,
        c.loop-place.invariant.long,
        c.way_length.ensures,
        c.back_length.ensures,
        c.split_at.ensures.back_len,
        c.split_at-in-loop-place.ensures.back_len,
      );
    }
