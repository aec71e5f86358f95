use Rattle.std.proofs.Common.{◌≡◌, ◌∙◌, ◌+ℤ◌, ap, arith, pos, rules, to_z, of_z, w64}
use Rattle.std.proofs.lemmas.Int.{ints}
use Rattle.mcf_model.specs.Model.{size}
use Rattle.mcf_model.specs.Bottlenecks.{limit_or_zero}
use Rattle.mcf_model.specs.Tables.{own_steps}
use Rattle.mcf_places.specs.Throughput.{cut, steps_span}
use Rattle.mcf_places.proofs.CutSums.{cut_more}
use Rattle.mcf_places.proofs.Throughputs.{size_low, steps_low}
use Rattle.mcf_places.proofs.limits.route_more.Goals as goal

pub returns-clause-value : goal.returns-clause-value
returns-clause-value c =
    let row = c.args.row in
    let least : to_z w64 (of_z w64 row.least) ≡ row.least = search rules in
    let most : to_z w64 (of_z w64 c.limit_or_zero.result) ≡ c.limit_or_zero.result = search rules in
    let own = steps_span (own_steps c.args.steps.now row) in
    let last = size (limit_or_zero row.last_most) in
    let low = steps_low (own_steps c.args.steps.now row) in
    c.steps_more.ensures.value
    ∙ ap (λ xs. cut (pos c.more-with_last.result +ℤ steps_span xs)) c.own_steps-own.ensures
    ∙ ap (λ z. cut (z +ℤ own)) (c.more-with_last.ensures.value
    ∙ ap (λ z. cut (pos c.more-with_least.result +ℤ size z)) (most ∙ c.limit_or_zero.ensures)
    ∙ ap (λ z. cut (z +ℤ last)) (c.more-with_least.ensures.value ∙ ap (λ z. cut (pos c.args.total +ℤ size z)) least))
    ∙ cut_more (cut (pos c.args.total +ℤ size row.least)) last own low
    ∙ cut_more (pos c.args.total) (size row.least) (last +ℤ own) (omega (arith, ints, low, size_low (limit_or_zero row.last_most)))
