use Rattle.mcf_matrix_doubles.specs.DoubleTables.{double_costs}
use Rattle.mcf_matrix_doubles.proofs.RoundingGaps.{if_ok, nearly_least_plan}
use Rattle.mcf_matrix_doubles.proofs.transport.judge_transport.Goals as goal

pub returns-clause-near : goal.returns-clause-near
returns-clause-near c =
    let p = c.args.prices.now in
    let m = c.args.masses.now in
    if_ok c.shows_plan.result _ _ (nearly_least_plan p.unit p.is_rounded (double_costs c.args.matrix.now) m.supplies.now m.demands.now c.args.plan.now) c.shows_plan.ensures.least
