use Rattle.mcf_model.proofs.laws.shown_flows_show_plans.Goals as goal
use Rattle.mcf_model.proofs.PricedPlans.{shown_flows_show_plans_lem}

pub returns : goal.returns
returns c = shown_flows_show_plans_lem
