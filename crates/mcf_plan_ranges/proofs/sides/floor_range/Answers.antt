use Rattle.std.proofs.Common.{sym, subst, ◌-◌, arith}
use Rattle.mcf_model.specs.Model.{Route}
use Rattle.mcf_model.specs.Tables.{no_route, route_at}
use Rattle.mcf_model.specs.Faults.{first_cost}
use Rattle.mcf_plan_ranges.specs.Private.Sides.{IsFloor, floor_of}
use Rattle.mcf_plan_ranges.proofs.Dearer.{is_floor}
use Rattle.mcf_plan_ranges.proofs.sides.floor_range.Goals as goal
use Rattle.std.proofs.Common.{length}

pub returns : goal.returns
returns c =
    let m = c.args.model.now in
    let k = c.args.number in
    let sound = c.route-route.ensures.proper.sound (k - 1) no_route (omega (arith, c.requires.0, c.requires.1)) in
    subst (IsFloor (length m.supplies) (route_at m k)) (sym c.floor_of.ensures)
    (subst (λ (r : Route). IsFloor (length m.supplies) (route_at m k) (floor_of r.both (first_cost r.steps r.last_cost))) (sym c.route-route.ensures.value)
    (is_floor (length m.supplies) (route_at m k) sound))
