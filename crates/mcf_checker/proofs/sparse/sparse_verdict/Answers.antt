use Rattle.std.proofs.Common.{◌≡◌, None, ap, rules, sym, ◌∙◌}
use Rattle.std.specs.Int.{w128}
use Rattle.std.specs.Prelude.{FitsSigned}
use Rattle.std.proofs.lemmas.Int.{to_z-of_z}
use Rattle.std.proofs.lemmas.Result.{IfOk-weaker}
use Rattle.mcf_answer.specs.SparseSolution.{SparseSolution}
use Rattle.mcf_checker.specs.Correct.{spread}
use Rattle.mcf_checker.specs.Judging.{bad_moved, flow_verdict, sparse_verdict}
use Rattle.mcf_checker.specs.declared.verdict.Verdict.{Verdict}
use Rattle.mcf_checker.specs.declared.verdict.Verdict.TheVariants.{BadArc}
use Rattle.mcf_checker.proofs.SparseFlows.{at_bad_moved, past_moved, within_bounds_of}
use Rattle.mcf_checker.proofs.sparse.sparse_verdict.Goals as goal

pub returns-in-Some-clause-value : goal.returns-in-Some-clause-value
returns-in-Some-clause-value c =
    let g = c.args.instance.now in
    let a = c.args.answer.now in
    let moved : c.as_slice-moved.result.now ≡ a.moved = c.as_slice-moved.ensures ∙ ap (λ (x : SparseSolution). x.moved) c.answer.view_is in
    ap BadArc c.from.ensures ∙ at_bad_moved g a c.in-Some.arc (sym c.in-Some.is ∙ c.first_bad_moved.ensures.least ∙ ap (bad_moved g) moved)

pub flow_verdict-requires-clause-bounds : goal.flow_verdict-requires-clause-bounds
flow_verdict-requires-clause-bounds c =
    let ok = c.first_bad_moved.ensures.well_formed in
    within_bounds_of c.args.instance.now c.as_slice-moved.result.now (λ k d h. (ok.within.arcs k d h).ordered)
    (sym c.first_bad_moved.ensures.least ∙ c.in_default.is)

pub returns-clause-value : goal.returns-clause-value
returns-clause-value c =
    let g = c.args.instance.now in
    let a = c.args.answer.now in
    let moved : c.as_slice-moved.result.now ≡ a.moved = c.as_slice-moved.ensures ∙ ap (λ (x : SparseSolution). x.moved) c.answer.view_is in
    let no_line : bad_moved g a.moved ≡ None = sym (c.first_bad_moved.ensures.least ∙ ap (bad_moved g) moved) ∙ c.in_default.is in
    let prices : c.as_slice-prices.result.now ≡ a.prices = c.as_slice-prices.ensures ∙ ap (λ (x : SparseSolution). x.prices) c.answer.view_is in
    let cost : c.answer.inside.cost ≡ a.cost = ap (λ (x : SparseSolution). x.cost) c.answer.view_is in
    let fits : FitsSigned w128 c.answer.inside.cost = search rules in
    let told = rw (cost, prices, moved) at (simp to_z-of_z at c.flow_verdict.ensures.value) in
    IfOk-weaker c.flow_verdict.result (λ (v : Verdict). v ≡ flow_verdict g a.cost a.prices (spread g.arcs a.moved)) (λ (v : Verdict). v ≡ sparse_verdict g a)
    (λ v h. h ∙ past_moved g a no_line) told
