use Rattle.std.proofs.Common.{rules, ◌≡◌, ◌++◌, codes, OnOk}
use Rattle.mcf_answer_rows.specs.AnswerRows.{answer_row, number_row}
use Rattle.mcf_answer_rows.specs.Lines.{row_line, rows_text}
use Rattle.mcf_plan_rows.specs.BottleneckRows.{side_word}
use Rattle.mcf_plan_rows.specs.PlanRows.{balance_rows}
use Rattle.mcf_plan_rows.proofs.TableTexts.{lines_put}
use Rattle.mcf_plan_rows.proofs.bottleneck_rows.put_side.Goals as goal

pub returns : goal.returns
returns c =
    let blocked = c.args.blocked in
    let a = row_line (answer_row (codes "no plan")) in
    let b = row_line (number_row (codes "side") (side_word blocked.bottleneck.now.side)) in
    let d = rows_text (balance_rows blocked.planner.now blocked.scales) in
    let first : c.put_answer.new.out.items ≡ c.args.out.now.items ++ a = search rules in
    let second : c.put_number_row.new.out.items ≡ c.put_answer.new.out.items ++ b = search rules in
    let third : OnOk c.put_balance.result (c.put_balance.new.out.items ≡ c.put_number_row.new.out.items ++ d) = search rules in
    lines_put c.put_balance.result _ _ _ _ a b d first second third
