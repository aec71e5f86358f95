use Rattle.std.proofs.Common.{ap, ◌∙◌, arith, rules}
use Rattle.std.proofs.lemmas.Int.{ints}
use Rattle.mcf_flows.specs.Flow.{reduced_cost}
use Rattle.mcf_network.specs.Residual.{arc_at}
use Rattle.mcf_ranges.specs.Private.Searches.{Task}
use Rattle.mcf_ranges.proofs.Tasks.{length_back}
use Rattle.mcf_ranges.proofs.search.Search.length.Goals as goal

pub returns-then-r-clause-some : goal.returns-then-r-clause-some
returns-then-r-clause-some c =
    let t = c.args.self.now in
    let long = length_back t.network t.prices c.args.r c.if-r.true in
    let value = c.reduced_cost-reduced.ensures.value ∙ ap (λ (x : Task). reduced_cost x.prices (arc_at x.network c.args.r.arc)) c.self.view_is in
    (search rules, omega (arith, ints, long, value, c.reduced_cost-reduced.ensures.small))
