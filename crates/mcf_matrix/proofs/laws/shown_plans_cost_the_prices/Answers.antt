use Rattle.mcf_matrix.proofs.PlanDuality.{shown_plans_cost_the_prices_lem}
use Rattle.mcf_matrix.proofs.laws.shown_plans_cost_the_prices.Goals as goal

pub returns : goal.returns
returns c = shown_plans_cost_the_prices_lem
