use Rattle.mcf_model.proofs.RowSteps.{arcs_more, steps_take_at}
use Rattle.mcf_model.proofs.arcs.listed.Goals as goal

pub push_route-requires : goal.push_route-requires
push_route-requires c =
    steps_take_at c.args.steps.now c.args.rows.now c.loop-place.place _ c.own_steps-own.result.now c.loop-place-test.true c.own_steps-own.ensures c.requires

pub loop-place-preserved : goal.loop-place-preserved
loop-place-preserved c =
    arcs_more c.args.steps.now c.args.rows.now c.loop-place.place _ c.own_steps-own.result.now c.loop-place-test.true c.own_steps-own.ensures _
    c.loop-place.arcs.items c.push_route.new.arcs.items _ c.in_ok-push_route.ensures c.loop-place.invariant
