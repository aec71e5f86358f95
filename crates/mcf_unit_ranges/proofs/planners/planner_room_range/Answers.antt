use Rattle.std.proofs.Common.{List, ℤ, subst}
use Rattle.std.specs.Prelude.{IfNone, IfOk, IfSome}
use Rattle.mcf_model.specs.Tables.{route_at}
use Rattle.mcf_places.specs.LimitedPlanners.{limited}
use Rattle.mcf_unit_ranges.specs.PlannerUnits.{IsRouteRange}
use Rattle.mcf_unit_ranges.specs.Spans.{directed}
use Rattle.mcf_unit_ranges.specs.Told.{IsRoomRangeAt, IsUntold}
use Rattle.mcf_unit_ranges.proofs.PlannerRanges.{route_range}
use Rattle.mcf_unit_ranges.proofs.RoomRanges.{range_ok}
use Rattle.mcf_unit_ranges.proofs.planners.planner_room_range.Goals as goal

pub returns-clause-range : goal.returns-clause-range
returns-clause-range g c =
    let P = c.args.planner.now in
    let p = c.args.least.now in
    let k = c.args.number in
    let found = subst (λ (xs : List ℤ). IfOk c.room_range.result (λ told. IfSome told (λ range. IsRoomRangeAt p.shown.model xs k range.most))) c.deref.ensures.value c.room_range.ensures.range in
    range_ok c.room_range.result (λ o. IsRoomRangeAt p.shown.model p.shown.prices.items k o) (λ o. IsRouteRange (limited P) p k o)
    (λ o range. route_range P p c.places-places.ensures.proper.sound c.requires.shown c.route_savings_are_the_models.ensures k o c.requires.route range) found

pub returns-clause-untold : goal.returns-clause-untold
returns-clause-untold g c =
    let p = c.args.least.now in
    let k = c.args.number in
    subst
    (λ (xs : List ℤ). IfOk c.room_range.result (λ told. IfNone told (IsUntold p.shown.model xs (directed xs (route_at p.shown.model k)).head (directed xs (route_at p.shown.model k)).tail)))
    c.deref.ensures.value c.room_range.ensures.untold
