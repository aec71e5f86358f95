use Rattle.std.proofs.Common.{◌≡◌, length, ◌∙◌, ap, rules, arith}
use Rattle.mcf_places.specs.PlannerFaults.{planner_faults}
use Rattle.mcf_places.proofs.ProperPlanners.{made_is, made_listed, made_proper, no_faults}
use Rattle.mcf_places.proofs.problem.Planner.of.Goals as goal

pub invariant_of-result : goal.invariant_of-result
invariant_of-result c =
    let few : length c.in_ok-faults.faults.items ≡ 0 = search (rules, arith) in
    let same = ap (λ p. planner_faults p c.deref-2.result.now c.deref-3.result.now c.args.policy) c.deref.ensures.value
    ∙ ap (λ s. planner_faults c.args.places.items s c.deref-3.result.now c.args.policy) c.deref-2.ensures.value
    ∙ ap (λ r. planner_faults c.args.places.items c.args.steps.items r c.args.policy) c.deref-3.ensures.value in (
      made_proper c.args.places.items c.args.steps.items c.args.rows.items c.args.policy c.deref-4.result.now c.in_ok-ways.ways.rows.items
          c.in_ok-ways.ways.returning.items c.in_ok-faults.faults.items c.deref-4.ensures.value c.in_ok-ways.ensures.rows c.in_ok-ways.ensures.returning
          (c.in_ok-faults.ensures ∙ same) few,
      made_listed c.args.places.items c.args.steps.items c.args.rows.items c.args.policy c.deref-4.result.now c.in_ok-ways.ways.rows.items
          c.in_ok-ways.ways.returning.items c.in_ok-faults.faults.items c.deref-4.ensures.value c.in_ok-ways.ensures.rows c.in_ok-ways.ensures.returning
          (c.in_ok-faults.ensures ∙ same) few,
    )

pub returns-clause-exact : goal.returns-clause-exact
returns-clause-exact c =
    let few : length c.in_ok-faults.faults.items ≡ 0 = search (rules, arith) in
    let same = ap (λ p. planner_faults p c.deref-2.result.now c.deref-3.result.now c.args.policy) c.deref.ensures.value
    ∙ ap (λ s. planner_faults c.args.places.items s c.deref-3.result.now c.args.policy) c.deref-2.ensures.value
    ∙ ap (λ r. planner_faults c.args.places.items c.args.steps.items r c.args.policy) c.deref-3.ensures.value in (
      made_is c.args.places.items c.args.steps.items c.args.rows.items c.args.policy c.deref-4.result.now c.in_ok-ways.ways.rows.items
          c.in_ok-ways.ways.returning.items c.in_ok-faults.faults.items c.deref-4.ensures.value c.in_ok-ways.ensures.rows c.in_ok-ways.ensures.returning
          (c.in_ok-faults.ensures ∙ same) few,
      no_faults c.args.places.items c.args.steps.items c.args.rows.items c.args.policy c.deref-4.result.now c.in_ok-ways.ways.rows.items
          c.in_ok-ways.ways.returning.items c.in_ok-faults.faults.items c.deref-4.ensures.value c.in_ok-ways.ensures.rows c.in_ok-ways.ensures.returning
          (c.in_ok-faults.ensures ∙ same) few,
    )

pub returns-clause-proper : goal.returns-clause-proper
returns-clause-proper c =
    let few : length c.in_ok-faults.faults.items ≡ 0 = search (rules, arith) in
    let same = ap (λ p. planner_faults p c.deref-2.result.now c.deref-3.result.now c.args.policy) c.deref.ensures.value
    ∙ ap (λ s. planner_faults c.args.places.items s c.deref-3.result.now c.args.policy) c.deref-2.ensures.value
    ∙ ap (λ r. planner_faults c.args.places.items c.args.steps.items r c.args.policy) c.deref-3.ensures.value in
    made_proper c.args.places.items c.args.steps.items c.args.rows.items c.args.policy c.deref-4.result.now c.in_ok-ways.ways.rows.items
    c.in_ok-ways.ways.returning.items c.in_ok-faults.faults.items c.deref-4.ensures.value c.in_ok-ways.ensures.rows c.in_ok-ways.ensures.returning
    (c.in_ok-faults.ensures ∙ same) few
