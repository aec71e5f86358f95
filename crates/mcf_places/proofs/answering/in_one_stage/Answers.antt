use Rattle.std.proofs.Common.{rules, ◌≡◌, ◌∙◌, ap, refl, to_z, of_z, w64}
use Rattle.std.specs.Int.{w128}
use Rattle.mcf_places.specs.declared.answering.LeastPlannerPlan.{LeastPlannerPlan}
use Rattle.mcf_places.specs.Models.{model_of, plan_of}
use Rattle.mcf_places.proofs.Stages.{best_planner_plan, found_places, no_planner_plan, planned_of, shown_plan}
use Rattle.mcf_places.proofs.answering.in_one_stage.Goals as goal

pub returns-in_ok-plan-in-Plan : goal.returns-in_ok-plan-in-Plan
returns-in_ok-plan-in-Plan g c =
    let P = c.args.planner.now in
    let found = c.in-Plan.found in
    let kept : to_z w64 (of_z w64 c.args.most) ≡ c.args.most = search rules in
    let cost : to_z w128 (of_z w128 found.cost) ≡ found.cost = search rules in
    let missing : to_z w128 (of_z w128 c.last_of-missing.result) ≡ c.last_of-missing.result = search rules in
    let made : LeastPlannerPlan = record {
      plan = c.in_ok-plan-in-Plan.plan;
      cost = to_z w128 (of_z w128 found.cost);
      missing = to_z w128 (of_z w128 c.last_of-missing.result);
      shown = record { model = c.in_ok-model.model; carries = found.carries; prices = found.prices };
    } in
    let is = c.in_ok-model.ensures ∙ ap (λ z. model_of z P) kept in
    let best = planned_of c.in_ok-model.model (model_of c.args.most P) c.in_ok-planned.planned _ is c.in-Plan.is c.in_ok-planned.ensures.planned in
    let read = c.in_ok-plan-in-Plan.ensures.value ∙ ap (plan_of P) c.deref-in-Plan.ensures.value in (
      best_planner_plan c.args.most P c.requires.proper c.requires.stands found made best read cost
          (λ before last e. missing ∙ c.last_of-missing.ensures before last (c.deref.ensures.value ∙ e)),
      shown_plan c.args.most P c.requires.proper c.requires.stands c.requires.allowed found made best read is refl refl,
    )

pub told-requires : goal.told-requires
told-requires g c =
    let P = c.args.planner.now in
    let kept : to_z w64 (of_z w64 c.args.most) ≡ c.args.most = search rules in
    record {
      nodes = found_places c.args.most P c.in-NoPlan.found
          (planned_of c.in_ok-model.model (model_of c.args.most P) c.in_ok-planned.planned _ (c.in_ok-model.ensures ∙ ap (λ z. model_of z P) kept) c.in-NoPlan.is
          c.in_ok-planned.ensures.planned);
    }

pub returns-in_ok-bottleneck-in-NoPlan : goal.returns-in_ok-bottleneck-in-NoPlan
returns-in_ok-bottleneck-in-NoPlan g c =
    let P = c.args.planner.now in
    let kept : to_z w64 (of_z w64 c.args.most) ≡ c.args.most = search rules in
    no_planner_plan c.args.most P c.requires.proper c.requires.stands c.planner_bottlenecks_have_no_plan.ensures c.in-NoPlan.found c.in_ok-bottleneck-in-NoPlan.bottleneck
    (planned_of c.in_ok-model.model (model_of c.args.most P) c.in_ok-planned.planned _ (c.in_ok-model.ensures ∙ ap (λ z. model_of z P) kept) c.in-NoPlan.is
    c.in_ok-planned.ensures.planned) c.in_ok-bottleneck-in-NoPlan.ensures
