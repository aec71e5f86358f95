use Rattle.std.proofs.Common.{◌≡◌, length, subst, rules, arith}
use Rattle.std.specs.Result.{IfOk}
use Rattle.mcf_periods.specs.Flat.{IsFlat}
use Rattle.mcf_places.specs.PlannerFaults.{IsProperPlanner}
use Rattle.mcf_period_units.specs.PeriodEntries.{entries_over}
use Rattle.mcf_period_units.proofs.MadePeriods.{improper_made, problem_made}
use Rattle.mcf_period_units.proofs.making.problem_over.Goals as goal

pub returns-in-Ok : goal.returns-in-Ok
returns-in-Ok c =
    let none : length c.in_ok-faults.faults.items ≡ 0 = search (rules, arith) in
    problem_made (entries_over c.args.tables.now c.args.times.now) c.args.terms c.scales_over-scales.result c.in_ok-parts.parts c.policy_in.result
    c.in_ok-faults.faults.items c.scales_over-scales.ensures c.in_ok-parts.ensures c.policy_in.ensures c.in_ok-faults.ensures none
    c.proper_periods_are_timely.ensures c.in-Ok.planner
    (subst (λ m. IsFlat c.in_ok-parts.parts.rows c.policy_in.result m) c.in-Ok.is c.in_ok-planner.ensures.exact)
    (subst (λ m. IfOk m IsProperPlanner) c.in-Ok.is c.in_ok-planner.ensures.proper)

pub returns : goal.returns
returns c =
    let none : length c.in_ok-faults.faults.items ≡ 0 = search (rules, arith) in
    improper_made (entries_over c.args.tables.now c.args.times.now) c.args.terms c.scales_over-scales.result c.in_ok-parts.parts c.policy_in.result
    c.in_ok-faults.faults.items c.scales_over-scales.ensures c.in_ok-parts.ensures c.policy_in.ensures c.in_ok-faults.ensures none c.in-Err.faults
    (subst (λ m. IsFlat c.in_ok-parts.parts.rows c.policy_in.result m) c.in-Err.is c.in_ok-planner.ensures.exact)
