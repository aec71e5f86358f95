use Rattle.std.proofs.Common.{rules, codes}
use Rattle.mcf_answer_rows.specs.AnswerRows.{answer_row, number_row}
use Rattle.mcf_answer_rows.specs.Lines.{row_line}
use Rattle.mcf_decimal.specs.Written.{decimal_text}
use Rattle.mcf_pair_text.specs.PairRows.{count_rows, total}
use Rattle.mcf_pair_text.proofs.ListTexts.{headed}
use Rattle.mcf_pair_text.proofs.rows.put_choice_heading.Goals as goal

pub returns : goal.returns
returns c =
    let cost = decimal_text (total c.args.unit.maximise c.args.cost) c.args.unit.scale in
    headed c.put_counts.result c.args.out.now.items c.put_total.new.out.items c.put_counts.new.out.items (row_line (answer_row (codes "plan")))
    (row_line (number_row (codes "cost") cost)) (count_rows c.args.table.now) (search rules) (search rules)
