use Rattle.std.proofs.Common.{rules, ◌≡◌, ◌≤◌, ◌∙◌, refl, ap, length, to_z, of_z}
use Rattle.std.specs.Int.{w128}
use Rattle.mcf_model.specs.Arcs.{plan_of}
use Rattle.mcf_model.proofs.Planners.{best_plan, flow_is_long, has_places, on_err}
use Rattle.mcf_model.proofs.planning.least_plan.Goals as goal

pub plan_of-requires : goal.plan_of-requires
plan_of-requires c = ap length c.deref.ensures.value ∙ flow_is_long c.args.model.now c.args.shown c.requires.shown

pub returns-in_err-carries-clause-wants : goal.returns-in_err-carries-clause-wants
returns-in_err-carries-clause-wants c =
    on_err c.from_residual.result (1 ≤ length c.args.model.now.supplies) (has_places c.args.model.now c.requires.proper c.in_err-carries.ensures.wants)

pub returns-clause-planned : goal.returns-clause-planned
returns-clause-planned c =
    let same : to_z w128 (of_z w128 c.args.shown.cost) ≡ c.args.shown.cost = search rules in
    best_plan c.args.model.now c.args.shown (record { carries = c.in_ok-carries.carries; cost = to_z w128 (of_z w128 c.args.shown.cost); prices = c.args.shown.prices }) c.requires.proper
    c.requires.shown (c.in_ok-carries.ensures.value ∙ ap (plan_of c.args.model.now.routes) c.deref.ensures.value) same refl
