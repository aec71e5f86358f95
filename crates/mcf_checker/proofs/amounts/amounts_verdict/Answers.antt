use Rattle.std.proofs.Common.{◌≡◌, None, ap, rules, subst, sym, ◌∙◌}
use Rattle.std.specs.Int.{w128}
use Rattle.std.specs.Prelude.{FitsSigned}
use Rattle.std.proofs.lemmas.Int.{to_z-of_z}
use Rattle.std.proofs.lemmas.Result.{IfOk-weaker}
use Rattle.mcf_checker.specs.Amounts.{answer_along, sent_along}
use Rattle.mcf_checker.specs.Judging.{bad_arc, flow_verdict, solution_verdict}
use Rattle.mcf_checker.specs.declared.verdict.Verdict.{Verdict}
use Rattle.mcf_flows.specs.Flow.{IsWithinBounds}
use Rattle.mcf_checker.proofs.ArcAmounts.{amounts-sent_along}
use Rattle.mcf_checker.proofs.BadArcs.{AllAgree-from_none}
use Rattle.mcf_checker.proofs.Solutions.{at_bad_arc, past_arcs}
use Rattle.mcf_checker.proofs.amounts.amounts_verdict.Goals as goal

pub returns-in-Some-clause-value : goal.returns-in-Some-clause-value
returns-in-Some-clause-value t c =
    let g = c.args.instance.now in
    let a = answer_along g c.args.total c.args.amounts.now (t.P.Price.values c.args.prices.now) in
    at_bad_arc g a c.in-Some.arc (sym c.in-Some.is ∙ c.first_bad_amount.ensures)

pub flow_verdict-requires-clause-bounds : goal.flow_verdict-requires-clause-bounds
flow_verdict-requires-clause-bounds t c =
    let g = c.args.instance.now in
    let flow = c.args.amounts.now in
    let no_arc : bad_arc g (sent_along g.arcs flow) ≡ None = sym c.first_bad_amount.ensures ∙ c.in_default.is in
    subst (IsWithinBounds g.arcs) (amounts-sent_along g.arcs flow c.requires.one_amount_each)
    (AllAgree-from_none g (sent_along g.arcs flow) no_arc).within_bounds

pub returns-clause-value : goal.returns-clause-value
returns-clause-value t c =
    let g = c.args.instance.now in
    let flow = c.args.amounts.now in
    let prices = t.P.Price.values c.args.prices.now in
    let a = answer_along g c.args.total flow prices in
    let no_arc : bad_arc g (sent_along g.arcs flow) ≡ None = sym c.first_bad_amount.ensures ∙ c.in_default.is in
    let same = ap (flow_verdict g c.args.total prices) (sym (amounts-sent_along g.arcs flow c.requires.one_amount_each)) in
    let fits : FitsSigned w128 c.args.total = search rules in
    IfOk-weaker c.flow_verdict.result (λ (v : Verdict). v ≡ flow_verdict g c.args.total prices flow) (λ (v : Verdict). v ≡ solution_verdict g a)
    (λ v h. h ∙ same ∙ past_arcs g a no_arc) (simp to_z-of_z at c.flow_verdict.ensures.value)
