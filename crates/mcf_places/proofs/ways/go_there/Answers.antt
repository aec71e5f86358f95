use Rattle.std.proofs.Common.{◌∙◌, ◌<◌, ◌+◌, ap, arith, drop, false, length, pos, set, take}
use Rattle.std.specs.Prelude.{None}
use Rattle.std.proofs.lemmas.List.{length-set}
use Rattle.mcf_model.specs.declared.rows.RouteRow.{RouteRow}
use Rattle.mcf_places.specs.Ways.{row_there}
use Rattle.mcf_places.proofs.MadeWays.{done_more, rest_less}
use Rattle.mcf_places.proofs.ways.go_there.Goals as goal

pub loop-route-preserved : goal.loop-route-preserved
loop-route-preserved c =
    let l = c.loop-route in
    let i = c.loop-route.route in
    let d : RouteRow = record { tail = 0; head = 0; first_step = 0; step_count = 0; least = pos 0; last_most = None; last_cost = pos 0; both = false } in
    let y : RouteRow = c.row_there.result in
    let inside : i < length l.rows = omega (arith, l.invariant.same, c.loop-route-test.true) in
    record {
      same = length-set l.rows i y ∙ l.invariant.same;
      done = ap (λ z. take (i + 1) (set l.rows i z)) c.row_there.ensures
          ∙ done_more (row_there c.args.places.now) _ l.rows i d inside l.invariant.same l.invariant.done l.invariant.rest;
      rest = ap (λ z. drop (i + 1) (set l.rows i z)) c.row_there.ensures
          ∙ rest_less (row_there c.args.places.now) _ l.rows i d inside l.invariant.same l.invariant.done l.invariant.rest;
    }
