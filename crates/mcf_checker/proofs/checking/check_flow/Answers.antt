use Rattle.std.proofs.Common.{◌≡◌}
use Rattle.std.proofs.lemmas.Result.{IfOk-weaker}
use Rattle.mcf_checker.specs.Judging.{solution_verdict}
use Rattle.mcf_checker.specs.declared.verdict.Verdict.{Verdict}
use Rattle.mcf_checker.proofs.Judges.{right_flow_at, least_flow_at}
use Rattle.mcf_checker.proofs.checking.check_flow.Goals as goal

pub returns-clause-exact : goal.returns-clause-exact
returns-clause-exact c =
    let g = c.args.instance.now in
    let a = c.args.answer.now in
    IfOk-weaker c.solution_verdict.result (λ (v : Verdict). v ≡ solution_verdict g a) _ (λ v is. right_flow_at g a v is) c.solution_verdict.ensures.value

pub returns-clause-least : goal.returns-clause-least
returns-clause-least c =
    let g = c.args.instance.now in
    let a = c.args.answer.now in
    IfOk-weaker c.solution_verdict.result (λ (v : Verdict). v ≡ solution_verdict g a) _
    (λ v is. least_flow_at g a v c.node_count.ensures.well_formed is) c.solution_verdict.ensures.value
