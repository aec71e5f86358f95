use Rattle.std.proofs.Common.{◌≡◌, ◌∙◌, ◌+ℤ◌, ap, pos, rules, sym, to_z, of_z, w64}
use Rattle.mcf_model.specs.Model.{size}
use Rattle.mcf_model.specs.Bottlenecks.{limit_or_zero}
use Rattle.mcf_places.specs.Throughput.{bounds_span, cut}
use Rattle.mcf_places.proofs.CutSums.{cut_more}
use Rattle.mcf_places.proofs.Throughputs.{size_low}
use Rattle.mcf_places.proofs.limits.bounds_more.Goals as goal

pub returns-in-Some-clause-value : goal.returns-in-Some-clause-value
returns-in-Some-clause-value c =
    let b = c.in-Some.bounds in
    let least : to_z w64 (of_z w64 b.least) ≡ b.least = search rules in
    let most : to_z w64 (of_z w64 c.limit_or_zero.result) ≡ c.limit_or_zero.result = search rules in
    c.more.ensures.value
    ∙ ap (λ z. cut (pos c.more-with_least.result +ℤ size z)) (most ∙ c.limit_or_zero.ensures)
    ∙ ap (λ z. cut (z +ℤ size (limit_or_zero b.most))) (c.more-with_least.ensures.value ∙ ap (λ z. cut (pos c.args.total +ℤ size z)) least)
    ∙ cut_more (pos c.args.total) (size b.least) (size (limit_or_zero b.most)) (size_low (limit_or_zero b.most))
    ∙ ap (λ o. cut (pos c.args.total +ℤ bounds_span o)) (sym c.in-Some.is)
