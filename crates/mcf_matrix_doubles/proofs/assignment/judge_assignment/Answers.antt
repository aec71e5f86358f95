use Rattle.mcf_matrix_doubles.specs.DoubleTables.{double_costs}
use Rattle.mcf_matrix_doubles.proofs.RoundingGaps.{if_ok, nearly_least}
use Rattle.mcf_matrix_doubles.proofs.assignment.judge_assignment.Goals as goal

pub returns-clause-near : goal.returns-clause-near
returns-clause-near c =
    let p = c.args.prices.now in
    if_ok c.shows.result _ _ (nearly_least p.unit p.is_rounded (double_costs c.args.matrix.now) c.args.columns_of.now) c.shows.ensures.least
