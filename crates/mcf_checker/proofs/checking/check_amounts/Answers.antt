use Rattle.std.proofs.Common.{◌≡◌, rules, subst}
use Rattle.std.specs.Int.{w128}
use Rattle.std.specs.Prelude.{FitsSigned}
use Rattle.std.proofs.lemmas.Int.{to_z-of_z}
use Rattle.std.proofs.lemmas.Result.{IfOk-weaker}
use Rattle.mcf_checker.specs.Amounts.{answer_along}
use Rattle.mcf_checker.specs.Judging.{solution_verdict}
use Rattle.mcf_checker.specs.declared.verdict.Verdict.{Verdict}
use Rattle.mcf_flows.specs.Flow.{IsLeast}
use Rattle.mcf_checker.proofs.ArcAmounts.{amounts-sent_along, right_along}
use Rattle.mcf_checker.proofs.Judges.{right_flow_at, least_flow_at}
use Rattle.mcf_checker.proofs.checking.check_amounts.Goals as goal

pub returns-clause-exact : goal.returns-clause-exact
returns-clause-exact t c =
    let g = c.args.instance.now in
    let flow = c.args.amounts.now in
    let prices = t.P.Price.values c.args.prices.now in
    let a = answer_along g c.args.total flow prices in
    let same = right_along g c.args.total flow prices c.requires.one_amount_each in
    let fits : FitsSigned w128 c.args.total = search rules in
    IfOk-weaker c.amounts_verdict.result (λ (v : Verdict). v ≡ solution_verdict g a) _
    (λ v is. (λ e. same.0 ((right_flow_at g a v is).0 e), λ h. (right_flow_at g a v is).1 (same.1 h))) (simp to_z-of_z at c.amounts_verdict.ensures.value)

pub returns-clause-least : goal.returns-clause-least
returns-clause-least t c =
    let g = c.args.instance.now in
    let flow = c.args.amounts.now in
    let a = answer_along g c.args.total flow (t.P.Price.values c.args.prices.now) in
    let fits : FitsSigned w128 c.args.total = search rules in
    IfOk-weaker c.amounts_verdict.result (λ (v : Verdict). v ≡ solution_verdict g a) _
    (λ v is e. subst (IsLeast g) (amounts-sent_along g.arcs flow c.requires.one_amount_each) (least_flow_at g a v c.node_count.ensures.well_formed is e))
    (simp to_z-of_z at c.amounts_verdict.ensures.value)
