use Rattle.std.proofs.Common.{ap, sym, ◌∙◌}
use Rattle.std.specs.Prelude.{◌==◌}
use Rattle.std.specs.List.{list_any}
use Rattle.mcf_range_text.proofs.Told.{returning, row_told}
use Rattle.mcf_range_text.proofs.ranges.row_range.Goals as goal

pub returns-then-returns : goal.returns-then-returns
returns-then-returns c =
    let test = ap (list_any (λ k. k == c.args.row)) (sym c.returning.ensures.value) ∙ sym c.has-returns.ensures ∙ c.if-returns.true in
    returning c.args.planner.now c.args.least.now c.args.row test

pub returns : goal.returns
returns c =
    let test = ap (list_any (λ k. k == c.args.row)) (sym c.returning.ensures.value) ∙ sym c.has-returns.ensures ∙ c.if-returns.false in
    row_told c.args.planner.now c.args.least.now c.planner_cost_range.result c.args.row test c.planner_cost_range.ensures.exact
    c.planner_cost_range.ensures.none
