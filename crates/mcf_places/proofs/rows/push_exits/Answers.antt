use Rattle.std.proofs.Common.{arith, false, pos}
use Rattle.std.specs.Prelude.{None}
use Rattle.mcf_model.specs.declared.rows.RouteRow.{RouteRow}
use Rattle.mcf_places.proofs.Listed.{exit_step, listed_push}
use Rattle.mcf_places.proofs.rows.push_exits.Goals as goal

pub loop-place-preserved : goal.loop-place-preserved
loop-place-preserved c =
    let d : RouteRow = record { tail = 0; head = 0; first_step = 0; step_count = 0; least = pos 0; last_most = None; last_cost = pos 0; both = false } in
    record {
      routes = λ steps. exit_step steps c.args.places.now c.args.lent.now c.loop-place.place d c.from_exit-row.result c.loop-place.rows.items c.push.new.self.items _
          c.loop-place-test.true (c.from_exit-row.ensures.route steps) c.in_ok-push.ensures.items (c.loop-place.invariant.routes steps);
      listed = λ steps lent before.
          listed_push steps c.loop-place.rows.items c.push.new.self.items c.from_exit-row.result c.in_ok-push.ensures.items
          (omega (arith, c.from_exit-row.ensures.listed, lent c.loop-place.place d c.loop-place-test.true)) (c.loop-place.invariant.listed steps lent before);
    }
