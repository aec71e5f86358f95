use Rattle.std.proofs.Common.{◌≡◌, length, subst, rules, arith}
use Rattle.std.specs.Result.{IfOk}
use Rattle.mcf_places.specs.PlannerFaults.{IsMade, IsProperPlanner}
use Rattle.mcf_units.proofs.MadeProblems.{improper_problem, made_problem}
use Rattle.mcf_units.proofs.making.problem.Goals as goal

pub returns-in-Ok : goal.returns-in-Ok
returns-in-Ok c =
    let none : length c.in_ok-faults.faults.items ≡ 0 = search (rules, arith) in
    made_problem c.args.tables.now c.args.terms c.scales_of-scales.result c.places.result.now c.in_ok-places.places.items c.in_ok-routes.routes.steps.items
    c.in_ok-routes.routes.rows.items c.policy_in-policy.result c.in_ok-faults.faults.items c.scales_of-scales.ensures c.places.ensures c.in_ok-places.ensures
    c.in_ok-routes.ensures.steps c.in_ok-routes.ensures.rows c.policy_in-policy.ensures c.in_ok-faults.ensures none c.in-Ok.planner
    (subst (λ m. IsMade c.in_ok-places.places.items c.in_ok-routes.routes.steps.items c.in_ok-routes.routes.rows.items c.policy_in-policy.result m) c.in-Ok.is
    c.in_ok-planner.ensures.exact)
    (subst (λ m. IfOk m IsProperPlanner) c.in-Ok.is c.in_ok-planner.ensures.proper)

pub returns : goal.returns
returns c =
    let none : length c.in_ok-faults.faults.items ≡ 0 = search (rules, arith) in
    improper_problem c.args.tables.now c.args.terms c.scales_of-scales.result c.places.result.now c.in_ok-places.places.items c.in_ok-routes.routes.steps.items
    c.in_ok-routes.routes.rows.items c.policy_in-policy.result c.in_ok-faults.faults.items c.scales_of-scales.ensures c.places.ensures c.in_ok-places.ensures
    c.in_ok-routes.ensures.steps c.in_ok-routes.ensures.rows c.policy_in-policy.ensures c.in_ok-faults.ensures none c.in-Err.faults
    (subst (λ m. IsMade c.in_ok-places.places.items c.in_ok-routes.routes.steps.items c.in_ok-routes.routes.rows.items c.policy_in-policy.result m) c.in-Err.is
    c.in_ok-planner.ensures.exact)
