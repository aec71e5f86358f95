use Rattle.std.proofs.Common.{List, ℤ, subst}
use Rattle.std.specs.Prelude.{IfOk, IfSome}
use Rattle.mcf_places.specs.Planning.{plan_in}
use Rattle.mcf_plan_ranges.specs.PlanRanges.{IsPlanRange}
use Rattle.mcf_planner_ranges.specs.PlannerRanges.{IsPlannerRange}
use Rattle.mcf_planner_ranges.proofs.RangeLaws.{planner_range, told_as}
use Rattle.mcf_planner_ranges.proofs.ranging.planner_cost_range.Goals as goal

pub returns-clause-exact : goal.returns-clause-exact
returns-clause-exact c =
    let P = c.args.planner.now in
    let p = c.args.least.now in
    let k = c.args.number in
    let exact = subst (λ (xs : List ℤ). IfOk c.cost_range.result (λ told. IfSome told (IsPlanRange p.shown.model xs k))) c.deref.ensures.value c.cost_range.ensures.exact in
    told_as c.cost_range.result (IsPlanRange p.shown.model p.shown.carries.items k) (IsPlannerRange P (plan_in p.plan) k)
    (λ range told. planner_range c.model_ranges_are_the_planners.ensures c.limits_change_no_range.ensures P p k range c.places-places.ensures.proper.sound c.requires.shown
    c.requires.route told) exact
