use Rattle.std.proofs.Common.{false, pos}
use Rattle.std.specs.Prelude.{None}
use Rattle.mcf_model.specs.declared.rows.RouteRow.{RouteRow}
use Rattle.mcf_places.proofs.CutSums.{route_next_sum}
use Rattle.mcf_places.proofs.limits.routes_more.Goals as goal

pub loop-route-preserved : goal.loop-route-preserved
loop-route-preserved c =
    let d : RouteRow = record { tail = 0; head = 0; first_step = 0; step_count = 0; least = pos 0; last_most = None; last_cost = pos 0; both = false } in
    record {
      within = c.ways_more-sum.ensures.within;
      left = route_next_sum c.args.steps.now c.args.rows.now c.loop-route.route d (pos c.loop-route.sum) _ (pos c.ways_more-sum.result) c.loop-route-test.true
          c.ways_more-sum.ensures.value c.loop-route.invariant.left;
    }
