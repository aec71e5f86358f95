use Rattle.std.proofs.Common.{◌≡◌, None, ap, rules, subst, sym, ◌∙◌, List}
use Rattle.std.specs.Int.{w128}
use Rattle.std.specs.Prelude.{FitsSigned}
use Rattle.std.proofs.lemmas.Int.{to_z-of_z}
use Rattle.std.proofs.lemmas.Result.{IfOk-weaker}
use Rattle.mcf_answer.specs.Solution.{Solution}
use Rattle.mcf_answer.specs.declared.answers.Sent.{Sent}
use Rattle.mcf_checker.specs.Correct.{amounts}
use Rattle.mcf_checker.specs.Judging.{bad_arc, flow_verdict, solution_verdict}
use Rattle.mcf_checker.specs.declared.verdict.Verdict.{Verdict}
use Rattle.mcf_flows.specs.Flow.{IsWithinBounds}
use Rattle.mcf_checker.proofs.BadArcs.{AllAgree-from_none}
use Rattle.mcf_checker.proofs.Solutions.{at_bad_arc, past_arcs}
use Rattle.mcf_checker.proofs.solution.solution_verdict.Goals as goal

pub returns-in-Some-clause-value : goal.returns-in-Some-clause-value
returns-in-Some-clause-value c =
    let g = c.args.instance.now in
    let a = c.args.answer.now in
    let sent : c.as_slice-sent.result.now ≡ a.sent = c.as_slice-sent.ensures ∙ ap (λ (x : Solution). x.sent) c.answer.view_is in
    at_bad_arc g a c.in-Some.arc (sym c.in-Some.is ∙ c.first_bad_arc.ensures ∙ ap (bad_arc g) sent)

pub flow_verdict-requires-clause-bounds : goal.flow_verdict-requires-clause-bounds
flow_verdict-requires-clause-bounds c =
    let g = c.args.instance.now in
    let a = c.args.answer.now in
    let sent : c.as_slice-sent.result.now ≡ a.sent = c.as_slice-sent.ensures ∙ ap (λ (x : Solution). x.sent) c.answer.view_is in
    let no_arc : bad_arc g a.sent ≡ None = sym (c.first_bad_arc.ensures ∙ ap (bad_arc g) sent) ∙ c.in_default.is in
    subst (λ (s : List Sent). IsWithinBounds g.arcs (amounts s)) (sym sent) (AllAgree-from_none g a.sent no_arc).within_bounds

pub returns-clause-value : goal.returns-clause-value
returns-clause-value c =
    let g = c.args.instance.now in
    let a = c.args.answer.now in
    let sent : c.as_slice-sent.result.now ≡ a.sent = c.as_slice-sent.ensures ∙ ap (λ (x : Solution). x.sent) c.answer.view_is in
    let no_arc : bad_arc g a.sent ≡ None = sym (c.first_bad_arc.ensures ∙ ap (bad_arc g) sent) ∙ c.in_default.is in
    let prices : c.as_slice-prices.result.now ≡ a.prices = c.as_slice-prices.ensures ∙ ap (λ (x : Solution). x.prices) c.answer.view_is in
    let cost : c.answer.inside.cost ≡ a.cost = ap (λ (x : Solution). x.cost) c.answer.view_is in
    let fits : FitsSigned w128 c.answer.inside.cost = search rules in
    let told = rw (cost, prices, sent) at (simp to_z-of_z at c.flow_verdict.ensures.value) in
    IfOk-weaker c.flow_verdict.result (λ (v : Verdict). v ≡ flow_verdict g a.cost a.prices (amounts a.sent)) (λ (v : Verdict). v ≡ solution_verdict g a)
    (λ v h. h ∙ past_arcs g a no_arc) told
