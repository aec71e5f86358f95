use Rattle.std.proofs.Common.{◌≡◌, ◌≤◌, ◌∙◌, ap, length, subst, sym}
use Rattle.std.specs.Prelude.{Ok}
use Rattle.std.specs.List.{All}
use Rattle.mcf_answer.specs.Solution.{Solution}
use Rattle.mcf_checker.specs.Correct.{amounts}
use Rattle.mcf_flows.specs.Limits.{limits}
use Rattle.mcf_flows.specs.Network.{node_count}
use Rattle.mcf_flows.specs.WellFormed.{IsUpTo}
use Rattle.mcf_solver.specs.Answering.{IsLeastSolution, IsOwed}
use Rattle.mcf_model.proofs.Planners.{on_err}
use Rattle.mcf_planner.proofs.Taking.{small_amounts, some_nodes}
use Rattle.mcf_planner.proofs.planner.taken.Goals as goal

pub flow_of-requires : goal.flow_of-requires
flow_of-requires c =
    let g = c.args.instance.now in
    let owed = subst (IsOwed (Ok g)) c.in-Flow.is c.requires.owed in
    let same : c.as_slice.result.now ≡ c.in-Flow.answer.sent = c.as_slice.ensures ∙ ap (λ (a : Solution). a.sent) c.answer.view_is in
    subst (λ sent. All (IsUpTo limits.bound) (amounts sent)) (sym same)
    (small_amounts g c.in-Flow.answer c.arc_count-arcs.ensures.well_formed owed)

pub returns-in_err-flow-in-Flow-clause-wants : goal.returns-in_err-flow-in-Flow-clause-wants
returns-in_err-flow-in-Flow-clause-wants c =
    let g = c.args.instance.now in
    let owed = subst (IsOwed (Ok g)) c.in-Flow.is c.requires.owed in
    let same : c.as_slice.result.now ≡ c.in-Flow.answer.sent = c.as_slice.ensures ∙ ap (λ (a : Solution). a.sent) c.answer.view_is in
    on_err c.from_residual.result (1 ≤ node_count g)
    (some_nodes g c.in-Flow.answer c.arc_count-arcs.ensures.well_formed owed
    (subst (λ sent. 1 ≤ length sent) same c.in_err-flow-in-Flow.ensures.wants))
