use Rattle.std.proofs.Common.{rules}
use Rattle.mcf_matrix.specs.Cuts.{IsTransportCut}
use Rattle.mcf_matrix.proofs.CutDuality.{cut_has_no_plan_lem}
use Rattle.mcf_c.specs.Matrices.{costs_of}
use Rattle.mcf_c.proofs.transports.mcf_transport_matrix.Goals as goal

pub returns-in-Ok-Infeasible-clause-none : goal.returns-in-Ok-Infeasible-clause-none
returns-in-Ok-Infeasible-clause-none c = λ _ plan.
    let t = c.args.problem.now in
    let cut = c.in-Ok-Infeasible.cut in
    let shown : IsTransportCut (costs_of t.matrix) t.supplies.now t.demands.now cut.rows.items cut.columns.items cut.side = search rules in
    cut_has_no_plan_lem (costs_of t.matrix) t.supplies.now t.demands.now cut.rows.items cut.columns.items cut.side plan shown
