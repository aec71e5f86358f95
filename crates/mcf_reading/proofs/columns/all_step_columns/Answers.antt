use Rattle.std.proofs.Common.{◌≡◌, ◌∙◌, ◌+◌, ◌++◌, ◌∷◌, [], ℕ, map, ap, arith}
use Rattle.std.specs.List.{range_with_len}
use Rattle.mcf_reading.specs.Columns.{all_step_columns, step_columns}
use Rattle.mcf_reading.specs.HeadTexts.{further_count}
use Rattle.mcf_reading.specs.declared.columns.StepColumns.{StepColumns}
use Rattle.mcf_reading.proofs.Ranges.{made}
use Rattle.mcf_reading.proofs.columns.all_step_columns.Goals as goal

pub loop-place-preserved : goal.loop-place-preserved
loop-place-preserved c =
    let place = c.loop-place.place in
    let before = c.loop-place.made.items in
    made (step_columns c.args.records.now) 1 place (place + 1) before c.push.new.self.items (omega arith) c.loop-place.invariant
    (c.in_ok-push.ensures.items ∙ ap (λ (columns : StepColumns). before ++ columns ∷ []) c.in_ok-columns.ensures)

pub returns : goal.returns
unfolding all_step_columns
returns c =
    let records = c.args.records.now in
    let all : c.loop-place.place ≡ further_count records + 1 = omega (arith, c.in_ok-count.ensures.count) in
    c.loop-place.invariant ∙ ap (λ (n : ℕ). map (step_columns records) (range_with_len 1 n)) all
