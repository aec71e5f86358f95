use Rattle.std.proofs.Common.{rules, ◌≡◌, ◌++◌, codes, OnOk}
use Rattle.mcf_answer_rows.specs.Lines.{row_line}
use Rattle.mcf_answer_rows.specs.AnswerRows.{answer_row, number_row}
use Rattle.mcf_plan_rows.specs.Cells.{amount_text, cost_text}
use Rattle.mcf_answer_rows.proofs.RowTexts.{three_put}
use Rattle.mcf_plan_rows.proofs.plan_rows.put_totals.Goals as goal

pub returns : goal.returns
returns c =
    let a = row_line (answer_row (codes "plan")) in
    let b = row_line (number_row (codes "cost") (cost_text c.args.scales c.args.least.now.cost)) in
    let d = row_line (number_row (codes "missing") (amount_text c.args.scales c.args.least.now.missing)) in
    let first : c.put_answer.new.out.items ≡ c.args.out.now.items ++ a = search rules in
    let second : c.put_number_row.new.out.items ≡ c.put_answer.new.out.items ++ b = search rules in
    let third : OnOk c.put_number_row-2.result (c.put_number_row-2.new.out.items ≡ c.put_number_row.new.out.items ++ d) = search rules in
    three_put c.put_number_row-2.result _ _ _ _ a b d first second third
