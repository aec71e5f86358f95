use Rattle.std.proofs.Common.{rules, ◌≡◌, ◌∙◌, sym, subst, ap, arith, length, inr, to_z, of_z, w64}
use Rattle.std.specs.Int.{w128}
use Rattle.std.proofs.lemmas.Int.{ints}
use Rattle.std.specs.List.{All}
use Rattle.mcf_flows.specs.Network.{IsNode, when}
use Rattle.mcf_model.specs.declared.planning.Planned.TheVariants.{NoPlan}
use Rattle.mcf_places.specs.Answers.{IsLeastMissing, IsToldBottleneck}
use Rattle.mcf_places.specs.Models.{model_of, supplies_of}
use Rattle.mcf_places.specs.PlannerFaults.{HasLimits}
use Rattle.mcf_places.specs.Planners.{all_wanted}
use Rattle.mcf_places.specs.Shortage.{shortage_of}
use Rattle.mcf_places.proofs.Shortages.{earns_nothing_free}
use Rattle.mcf_places.proofs.Stages.{found_places, missing_within, none_short, planned_of, stage_one}
use Rattle.mcf_places.proofs.answering.least_missing.Goals as goal

pub narrowed-requires-clause-low : goal.narrowed-requires-clause-low
narrowed-requires-clause-low g c =
    let read : to_z w64 (of_z w64 c.most_missing-most.result) ≡ c.most_missing-most.result = search rules in
    let least = stage_one c.args.planner.now c.in_ok-shortage.shortage c.most_missing-most.result _ c.in_ok-model.model c.in_ok-planned.planned c.in-Plan.found
    c.requires c.in_ok-shortage.ensures c.most_missing-most.ensures read c.in_ok-model.ensures c.in-Plan.is c.in_ok-planned.ensures.planned in
    let cost : to_z w128 (of_z w128 c.in-Plan.found.cost) ≡ c.in-Plan.found.cost = search rules in
    omega (arith, ints, cost, (missing_within c.in-Plan.found.cost c.args.planner.now c.requires least).0)

pub narrowed-requires-clause-high : goal.narrowed-requires-clause-high
narrowed-requires-clause-high g c =
    let read : to_z w64 (of_z w64 c.most_missing-most.result) ≡ c.most_missing-most.result = search rules in
    let least = stage_one c.args.planner.now c.in_ok-shortage.shortage c.most_missing-most.result _ c.in_ok-model.model c.in_ok-planned.planned c.in-Plan.found
    c.requires c.in_ok-shortage.ensures c.most_missing-most.ensures read c.in_ok-model.ensures c.in-Plan.is c.in_ok-planned.ensures.planned in
    let cost : to_z w128 (of_z w128 c.in-Plan.found.cost) ≡ c.in-Plan.found.cost = search rules in
    omega (arith, ints, cost, (missing_within c.in-Plan.found.cost c.args.planner.now c.requires least).1)

pub returns-in-Plan : goal.returns-in-Plan
returns-in-Plan g c =
    let read : to_z w64 (of_z w64 c.most_missing-most.result) ≡ c.most_missing-most.result = search rules in
    let least = stage_one c.args.planner.now c.in_ok-shortage.shortage c.most_missing-most.result _ c.in_ok-model.model c.in_ok-planned.planned c.in-Plan.found
    c.requires c.in_ok-shortage.ensures c.most_missing-most.ensures read c.in_ok-model.ensures c.in-Plan.is c.in_ok-planned.ensures.planned in
    let cost : to_z w128 (of_z w128 c.in-Plan.found.cost) ≡ c.in-Plan.found.cost = search rules in
    let narrow : to_z w64 (of_z w64 c.narrowed.result) ≡ c.narrowed.result = search rules in
    subst (λ z. IsLeastMissing z c.args.planner.now) (sym (narrow ∙ c.narrowed.ensures ∙ cost)) least

pub told-requires : goal.told-requires
told-requires g c =
    let P = c.args.planner.now in
    let Q = shortage_of P in
    let most = c.most_missing-most.result in
    let kept : to_z w64 (of_z w64 most) ≡ most = search rules in
    let none = planned_of c.in_ok-model.model (model_of most Q) c.in_ok-planned.planned (NoPlan c.in-NoPlan.found)
    (c.in_ok-model.ensures ∙ ap (λ z. model_of z c.in_ok-shortage.shortage) kept ∙ ap (model_of most) c.in_ok-shortage.ensures) c.in-NoPlan.is
    c.in_ok-planned.ensures.planned in
    record {
      nodes = subst (λ R. All (IsNode (length (supplies_of R.places))) c.in-NoPlan.found.places.items) (sym c.in_ok-shortage.ensures)
          (found_places most Q c.in-NoPlan.found none);
    }

pub returns-in-NoPlan : goal.returns-in-NoPlan
returns-in-NoPlan g c =
    let P = c.args.planner.now in
    let Q = shortage_of P in
    let most = c.most_missing-most.result in
    let kept : to_z w64 (of_z w64 most) ≡ most = search rules in
    let none = planned_of c.in_ok-model.model (model_of most Q) c.in_ok-planned.planned (NoPlan c.in-NoPlan.found)
    (c.in_ok-model.ensures ∙ ap (λ z. model_of z c.in_ok-shortage.shortage) kept ∙ ap (model_of most) c.in_ok-shortage.ensures) c.in-NoPlan.is
    c.in_ok-planned.ensures.planned in
    none_short most P c.requires
    (c.most_missing-most.ensures ∙ ap (λ R. when R.policy.short (all_wanted R.places)) c.in_ok-shortage.ensures) c.planner_bottlenecks_have_no_plan.ensures c.in-NoPlan.found
    c.in_ok-bottleneck-in-NoPlan.bottleneck none
    (subst (λ R. IsToldBottleneck R c.in-NoPlan.found c.in_ok-bottleneck-in-NoPlan.bottleneck) c.in_ok-shortage.ensures c.in_ok-bottleneck-in-NoPlan.ensures)

pub limited_model_of-requires : goal.limited_model_of-requires
limited_model_of-requires g c = subst HasLimits (sym c.in_ok-shortage.ensures) (inr (earns_nothing_free c.args.planner.now))
