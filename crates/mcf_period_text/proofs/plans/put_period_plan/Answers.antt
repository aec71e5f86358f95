use Rattle.std.proofs.Common.{rules, ◌++◌}
use Rattle.mcf_answer_rows.proofs.RowTexts.{parts_put}
use Rattle.mcf_plan_figures.specs.Told.{places_told, routes_told}
use Rattle.mcf_plan_rows.specs.PlanRows.{balance_rows, total_rows}
use Rattle.mcf_period_text.specs.PeriodPlanRows.{departure_rows, keep_rows, place_rows}
use Rattle.mcf_period_text.specs.TimedTables.{timed_in}
use Rattle.mcf_period_text.proofs.plans.put_period_plan.Goals as goal

pub returns : goal.returns
returns c =
    let P = c.args.planner.now in
    let p = c.args.least.now in
    let s = c.args.scales in
    let t = timed_in c.args.timed in
    let told = routes_told P p.shown in
    parts_put c.put_places.result c.args.out.now.items c.put_heading.new.out.items c.put_ways.new.out.items c.put_places.new.out.items
    (total_rows s p ++ balance_rows P s) (departure_rows t s p.plan.carries.items told) (keep_rows t s p.plan.carries.items told)
    (place_rows t s p.plan.stays.items p.plan.missing.items (places_told P p.shown)) (search rules) (search rules) (search rules)
