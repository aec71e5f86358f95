use Rattle.std.proofs.Common.{rules}
use Rattle.mcf_matrix.specs.Cuts.{IsTransportCut}
use Rattle.mcf_matrix.proofs.CutDuality.{cut_has_no_plan_lem}
use Rattle.mcf_c.specs.DoubleMatrices.{double_costs_of}
use Rattle.mcf_c.proofs.double_transports.mcf_transport_doubles.Goals as goal

pub returns-in-Ok-Infeasible-clause-none : goal.returns-in-Ok-Infeasible-clause-none
returns-in-Ok-Infeasible-clause-none c = λ _ plan.
    let t = c.args.problem.now in
    let cut = c.in-Ok-Infeasible.cut in
    let shown : IsTransportCut (double_costs_of t.matrix) t.supplies.now t.demands.now cut.rows.items cut.columns.items cut.side = search rules in
    cut_has_no_plan_lem (double_costs_of t.matrix) t.supplies.now t.demands.now cut.rows.items cut.columns.items cut.side plan shown
