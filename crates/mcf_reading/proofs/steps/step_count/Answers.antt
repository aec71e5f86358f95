use Rattle.std.proofs.Common.{ℕ, ◌-◌, ◌∙◌, sym, ap, arith}
use Rattle.std.proofs.lemmas.List.{get_or_default}
use Rattle.mcf_table.specs.Heads.{cells_of}
use Rattle.mcf_reading.specs.Steps.{columns_at, is_step, no_columns}
use Rattle.mcf_reading.proofs.StepLemmas.{count_is}
use Rattle.mcf_reading.proofs.steps.step_count.Goals as goal

pub returns-else-not-is_step-clause-count : goal.returns-else-not-is_step-clause-count
returns-else-not-is_step-clause-count c =
    let columns = c.args.columns.now in
    let cells = cells_of c.args.records.now c.args.row in
    let step = c.steps.count - 1 in
    count_is columns cells c.steps.count c.steps.invariant.inside c.steps.invariant.some c.steps.invariant.passes
    (λ last next above. ap (λ (k : ℕ). is_step cells (columns_at columns k)) (omega (arith, next))
    ∙ ap (is_step cells) (get_or_default columns (c.steps.count - 1) no_columns _ (omega (arith, next, c.steps.invariant.inside)))
    ∙ sym c.is_step.ensures ∙ c.if-not-is_step.false)

pub returns-after-steps-clause-count : goal.returns-after-steps-clause-count
returns-after-steps-clause-count c =
    count_is c.args.columns.now (cells_of c.args.records.now c.args.row) c.steps.count c.steps.invariant.inside c.steps.invariant.some c.steps.invariant.passes
    (λ last next above. absurd (omega (arith, next, above, c.steps-test.false)))
