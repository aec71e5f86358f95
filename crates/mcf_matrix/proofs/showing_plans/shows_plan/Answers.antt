use Rattle.std.proofs.Common.{rules}
use Rattle.mcf_matrix.proofs.PlanDuality.{shown_plans_are_least_lem, shown_plans_cost_the_prices_lem}
use Rattle.mcf_matrix.proofs.showing_plans.shows_plan.Goals as goal

pub returns-clause-least : goal.returns-clause-least
returns-clause-least g c = λ t.
    let p = c.args.priced.now in
    shown_plans_are_least_lem (g.P.Priced.costs p) c.args.masses.now.supplies.now c.args.masses.now.demands.now c.args.plan.now (g.P.Priced.row_prices p)
    (g.P.Priced.column_prices p) (search rules)

pub returns-clause-cost : goal.returns-clause-cost
returns-clause-cost g c = λ t.
    let p = c.args.priced.now in
    shown_plans_cost_the_prices_lem (g.P.Priced.costs p) c.args.masses.now.supplies.now c.args.masses.now.demands.now c.args.plan.now (g.P.Priced.row_prices p)
    (g.P.Priced.column_prices p) (search rules)
