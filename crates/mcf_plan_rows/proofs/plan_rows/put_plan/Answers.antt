use Rattle.std.proofs.Common.{rules, ◌++◌}
use Rattle.mcf_plan_rows.specs.PlanRows.{back_rows, balance_rows, place_rows, route_rows, total_rows}
use Rattle.mcf_plan_figures.specs.Told.{places_told, routes_told}
use Rattle.mcf_answer_rows.proofs.RowTexts.{parts_put}
use Rattle.mcf_plan_rows.proofs.plan_rows.put_plan.Goals as goal

pub returns : goal.returns
returns c =
    let P = c.args.planner.now in
    let p = c.args.least.now in
    let s = c.args.scales in
    let told = routes_told P p.shown in
    parts_put c.put_places.result c.args.out.now.items c.put_heading.new.out.items c.put_ways.new.out.items c.put_places.new.out.items
    (total_rows s p ++ balance_rows P s) (route_rows P s c.args.two.routes.now p.plan.carries.items told)
    (back_rows P s c.args.two.routes.now p.plan.carries.items told)
    (place_rows s c.args.two.places.now p.plan.stays.items p.plan.missing.items (places_told P p.shown)) (search rules) (search rules) (search rules)
