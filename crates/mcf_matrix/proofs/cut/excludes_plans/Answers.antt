use Rattle.std.proofs.Common.{rules}
use Rattle.mcf_matrix.proofs.CutDuality.{cut_has_no_plan_lem}
use Rattle.mcf_matrix.proofs.cut.excludes_plans.Goals as goal

pub returns-clause-none : goal.returns-clause-none
returns-clause-none g c = λ t plan.
    cut_has_no_plan_lem (g.M.Allows.costs c.args.matrix.now) c.args.masses.now.supplies.now c.args.masses.now.demands.now c.args.rows.now c.args.columns.now c.args.side plan
    (search rules)
